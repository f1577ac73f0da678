-- Manual 9.1 and 9.2, a study and its listing: from the bytes of the file to what the listing shows, by the ledger alone.
use Rattle.std.specs.Prelude.{ℕ, zero, suc, ◌+◌, List, length, drop, replicate, ltb, if◌then◌else◌}
use Rattle.numbers.specs.Row.{Rows, ReadRow, RefusedAt}
use Rattle.sheets.specs.Read.{read_road, padded}
use Rattle.conditions.specs.Conditions.{segments}
use Rattle.steps.specs.Step.{replaced, stored_of}
use Rattle.levels.specs.Level.{letter_byte}
use Rattle.facility.specs.Ledger.{Take, Run, Report, Answer, Refused, Taken, Ran, Reported, Summed, state_after, arrived_in, left_in, partsteps_in, driven_in, Book, opened, Rules, present, answer_by, after_by}

-- a segment's line: n, q, the byte of the level letter, and the part-feet
pub record Line : Type 0 where
  pub n : ℕ
  pub q : ℕ
  pub letter : ℕ
  pub partfeet : ℕ

-- all that the listing shows, or a refusal's number with its place in the file
pub record Listing : Type 0 where
  pub refusal : ℕ
  pub place : ℕ
  pub segments : ℕ
  pub arrived : ℕ
  pub left : ℕ
  pub stored : ℕ
  pub partsteps : ℕ
  pub origin : ℕ
  pub lines : List Line
  pub partfeet : ℕ

-- past the last segment, and beside a refusal
abbrev pub no_line : Line
no_line = record { n = 0; q = 0; letter = 0; partfeet = 0 }

-- a line of the listing: n, q, the letter and the part-feet, as a segment report has them
abbrev pub line_of : Answer → Line
line_of (Reported figures level tally partfeet) = record { n = figures.n; q = figures.q; letter = letter_byte level; partfeet = partfeet }
line_of (Refused number offset) = no_line
line_of (Taken used) = no_line
line_of Ran = no_line
line_of (Summed arrived left stored partsteps partfeet) = no_line

-- the lines of so many segments, counted from 0, and zeros after them
unfoldable pub lines_by : (ℕ → Line) → ℕ → List Line
lines_by line segments = replaced line segments (replicate 64 no_line)

-- arrived, left, stored, part-steps, origin (o); then of each segment n, q, the letter and its part-feet; and the facility's part-feet
unfoldable pub listed : Rules → Book → Listing
listed rules b = record {
  refusal = 0;
  place = 0;
  segments = segments b.road;
  arrived = arrived_in b.trail;
  left = left_in b.trail;
  stored = stored_of (segments b.road) (state_after b.trail);
  partsteps = partsteps_in b.trail;
  origin = (state_after b.trail).origin;
  lines = lines_by (λ i. line_of (answer_by rules b (Report (i + 1)))) (segments b.road);
  partfeet = driven_in b.trail;
}

-- a refused study: the number, and the place in the file
unfoldable pub refused_listing : (number place : ℕ) → Listing
refused_listing number place = record {
  refusal = number;
  place = place;
  segments = 0;
  arrived = 0;
  left = 0;
  stored = 0;
  partsteps = 0;
  origin = 0;
  lines = replicate 64 no_line;
  partfeet = 0;
}

-- what a study comes to: the book at its end, or a refusal's number and its place in the file
pub data Outcome : Type 0 where
  Ended : Book → Outcome
  RefusedStudy : (number place : ℕ) → Outcome

-- its listing
abbrev pub listing : Rules → Outcome → Listing
listing rules (Ended b) = listed rules b
listing rules (RefusedStudy number place) = refused_listing number place

-- a sheet that starts at a place of the file: taken, on from where it ended; refused, at the sheet's start plus the refusal's offset
abbrev pub after_sheet : Answer → ℕ → (ℕ → Outcome) → Outcome
after_sheet (Taken used) at on = on (at + used)
after_sheet (Refused number offset) at on = RefusedStudy number (at + offset)
after_sheet Ran at on = on at
after_sheet (Reported figures level tally partfeet) at on = on at
after_sheet (Summed arrived left stored partsteps partfeet) at on = on at

-- 60 steps to a period of 15 minutes
abbrev pub whole : ℕ
whole = 60

-- the book after a sheet is taken and its period run whole
abbrev pub whole_period : Rules → Book → List ℕ → Book
whole_period rules b sheet = after_by rules (after_by rules b (Take sheet)) (Run whole)

-- the period sheets from a place on, to the end of the file. At most so many are looked at
unfoldable pub periods : Rules → ℕ → Book → List ℕ → ℕ → Outcome
periods rules zero b bytes at = Ended b
periods rules (suc most) b bytes at =
    if ltb at (length bytes) then
    after_sheet (answer_by rules b (Take (drop at bytes))) at (periods rules most (whole_period rules b (drop at bytes)) bytes)
    else Ended b

-- the period part starts wherever the road part ended. The 97th sheet is always refused, by 13, so that no more are looked at
abbrev pub on_road : Rules → List ℕ → Rows → Outcome
on_road rules bytes (ReadRow row used) = periods rules 97 (opened (padded row)) bytes used
on_road rules bytes (RefusedAt number offset) = RefusedStudy number offset

-- a study by the rules, from the bytes of its file
unfoldable pub outcome_by : Rules → List ℕ → Outcome
outcome_by rules bytes = on_road rules bytes (read_road bytes)

-- its forecast
unfoldable pub forecast_by : Rules → List ℕ → Listing
forecast_by rules bytes = listing rules (outcome_by rules bytes)

-- the forecast of a study by the present rules
abbrev pub forecast_of : List ℕ → Listing
forecast_of = forecast_by present
