-- Manual 6, the calls: what each gives, as a whole, refused or not; beside a refusal the facility as it came.
use Rattle.std.specs.Prelude.{ℕ, ◌+◌, ◌-◌, List, replicate, if◌then◌else◌}
use Rattle.numbers.specs.Writing.{Writing, Refused, write_answer, write_into}
use Rattle.numbers.specs.Row.{Rows, ReadRow, RefusedAt}
use Rattle.sheets.specs.Read.{read_road, read_period, padded}
use Rattle.sheets.specs.Write.{row_bytes, road_row, period_row}
use Rattle.segment.specs.declared.Cell.{Cell}
use Rattle.segment.specs.declared.tally.Tally.{Tally}
use Rattle.segment.specs.Tally.{no_tally}
use Rattle.levels.specs.declared.Level.{Level}
use Rattle.levels.specs.declared.Level.TheVariants.{A}
use Rattle.conditions.specs.Conditions.{in_force_at, segments}
use Rattle.steps.specs.Step.{cell_in, fresh_state, stored_of}
use Rattle.steps.specs.Tallies.{fresh_tallies, tally_in}
use Rattle.steps.specs.Driven.{no_partfeet, partfeet_in, partfeet_of}
use Rattle.levels.specs.Level.{level_of}
use Rattle.door.specs.declared.Facility.{Facility}
use Rattle.facility.specs.Verdicts.{Verdict, GoesOn, RefusedBy, Taking, NewSheet, SameSheet, NotTaken, take_verdict, run_verdict, report_verdict, period_verdict}
use Rattle.door.specs.Sound.{sound}
use Rattle.running.specs.Steps.{conditions_on, steps_of}

-- what laying, taking and running give: the refusal is 0, or its number with its offset; the bytes used, and the facility after it
pub record Reply : Type 0 where
  pub refusal : ℕ
  pub offset : ℕ
  pub used : ℕ
  pub facility : Facility

-- what a segment report gives: n, q, the last step's f, r, off(y) and y, the letter, the segment's totals and its part-feet
pub record ReportReply : Type 0 where
  pub refusal : ℕ
  pub n : ℕ
  pub q : ℕ
  pub main : ℕ
  pub ramp : ℕ
  pub off : ℕ
  pub out : ℕ
  pub level : Level
  pub tally : Tally
  pub partfeet : ℕ

-- what totals give: arrived, left, stored, part-steps and part-feet
pub record SumsReply : Type 0 where
  pub refusal : ℕ
  pub arrived : ℕ
  pub left : ℕ
  pub stored : ℕ
  pub partsteps : ℕ
  pub partfeet : ℕ

-- the row that stands for no sheet
abbrev pub no_sheet : List ℕ
no_sheet = replicate 452 0

-- a road just laid: no sheet, and all is zero
unfoldable pub fresh_on : List ℕ → Facility
fresh_on road = record {
  road = road;
  period = no_sheet;
  taken = 0;
  made = 0;
  state = fresh_state;
  tallies = fresh_tallies;
  partfeet = no_partfeet;
  arrived = 0;
  left = 0;
  partsteps = 0;
}

-- the empty facility, which a refused laying returns
abbrev pub empty : Facility
empty = fresh_on no_sheet

-- 9, the facility is the empty one, asked by every call on a facility before all else; `refuse` is the call's refusal by a number
abbrev pub unless_empty : {A : Type 0} → Facility → (refuse : ℕ → A) → A → A
unless_empty f refuse result = if sound f then result else refuse 9

-- a refusal by its number and offset: the facility comes back as it went in
abbrev pub refused : Facility → ℕ → ℕ → Reply
refused f number offset = record { refusal = number; offset = offset; used = 0; facility = f }

-- a call that is not refused: the bytes used, and the facility after it
abbrev pub done : ℕ → Facility → Reply
done used f = record { refusal = 0; offset = 0; used = used; facility = f }

-- Lay a road (6.2): field by field 1, 2, 3 and 4
abbrev pub laid_by : Rows → Reply
laid_by (ReadRow row used) = done used (fresh_on (padded row))
laid_by (RefusedAt number offset) = refused empty number offset

unfoldable pub lay_of : List ℕ → Reply
lay_of bytes = laid_by (read_road bytes)

-- a sheet taken, new or the same, is counted, and is in force from then on with no step made under it yet
unfoldable pub with_sheet : Facility → List ℕ → Facility
with_sheet f period = record f { period = period; taken = f.taken + 1; made = 0 }

-- by the verdict: the new sheet put in force; the one in force once more, with no byte used; or the refusal
abbrev pub taken_by : Facility → Taking → Reply
taken_by f (NewSheet row used) = done used (with_sheet f (padded row))
taken_by f SameSheet = done 0 (with_sheet f f.period)
taken_by f (NotTaken number offset) = refused f number offset

-- Take a period sheet (6.3): 9, then its verdict
unfoldable pub take_of : Facility → List ℕ → Reply
take_of f bytes = unless_empty f (λ e. refused f e 0) (taken_by f (take_verdict (read_period f.road) f.taken f.made bytes))

-- by the verdict: the facility after k steps; a refused run makes no step
abbrev pub ran_by : Facility → ℕ → Verdict → Reply
ran_by f k GoesOn = done 0 (steps_of k f)
ran_by f k (RefusedBy number) = refused f number 0

-- Run k steps (6.4): 9, then its verdict
unfoldable pub run_of : Facility → ℕ → Reply
run_of f k = unless_empty f (λ e. refused f e 0) (ran_by f k (run_verdict f.taken f.made k))

-- a report of a cell: n, q, the last step's f, r, off(y) and y, the letter, the totals and the part-feet; a refused one has every number 0 and the
-- letter A
abbrev pub reported : Cell → Level → Tally → (partfeet : ℕ) → ReportReply
reported c level tally partfeet =
    record { refusal = 0; n = c.n; q = c.q; main = c.main; ramp = c.ramp; off = c.off; out = c.out; level = level; tally = tally; partfeet = partfeet }

abbrev pub no_report : ℕ → ReportReply
no_report number = record { refusal = number; n = 0; q = 0; main = 0; ramp = 0; off = 0; out = 0; level = A; tally = no_tally; partfeet = 0 }

-- the letter of segment i, counted from 0, by the length and the lanes in force
unfoldable pub level_at : Facility → ℕ → Level
level_at f i = level_of (cell_in f.state i).n (in_force_at (conditions_on f) i).length (in_force_at (conditions_on f) i).lanes

-- by the verdict: the report, or the refusal
abbrev pub reported_by : Facility → (segment : ℕ) → Verdict → ReportReply
reported_by f i GoesOn = reported (cell_in f.state (i - 1)) (level_at f (i - 1)) (tally_in f.tallies (i - 1)) (partfeet_in f.partfeet (i - 1))
reported_by f i (RefusedBy number) = no_report number

-- Segment report (6.5), segments counted from 1: 9, then its verdict
unfoldable pub report_of : Facility → ℕ → ReportReply
report_of f i = unless_empty f no_report (reported_by f i (report_verdict f.road i))

-- refused totals: every number 0
abbrev pub no_sums : ℕ → SumsReply
no_sums number = record { refusal = number; arrived = 0; left = 0; stored = 0; partsteps = 0; partfeet = 0 }

-- Totals (6.6): 9
unfoldable pub totals_of : Facility → SumsReply
totals_of f =
    unless_empty f no_sums (record {
      refusal = 0;
      arrived = f.arrived;
      left = f.left;
      stored = stored_of (segments f.road) f.state;
      partsteps = f.partsteps;
      partfeet = partfeet_of (segments f.road) f.partfeet;
    })

-- what a writing gives: its answer, and the buffer after it
pub record WriteReply : Type 0 where
  pub answer : Writing
  pub buffer : List ℕ

-- refused before the buffer is looked at: it stays as it was
abbrev pub not_written : (buffer : List ℕ) (number : ℕ) → WriteReply
not_written buffer number = record { answer = Refused number; buffer = buffer }

-- these bytes, from a place on: 7 where they don't fit
abbrev pub wrote_bytes : (bytes buffer : List ℕ) (at : ℕ) → WriteReply
wrote_bytes bytes buffer at = record { answer = write_answer buffer at bytes; buffer = write_into buffer at bytes }

-- Write the road (6.7): 9, 7
unfoldable pub write_road_of : Facility → List ℕ → ℕ → WriteReply
write_road_of f buffer at = unless_empty f (not_written buffer) (wrote_bytes (row_bytes (road_row f.road)) buffer at)

-- by the verdict: the bytes written, or the refusal
abbrev pub wrote_by : Verdict → (bytes buffer : List ℕ) (at : ℕ) → WriteReply
wrote_by GoesOn bytes buffer at = wrote_bytes bytes buffer at
wrote_by (RefusedBy number) bytes buffer at = not_written buffer number

-- Write the period in force (6.7): 9, then its verdict, then 7
unfoldable pub write_period_of : Facility → List ℕ → ℕ → WriteReply
write_period_of f buffer at = unless_empty f (not_written buffer) (wrote_by (period_verdict f.taken) (row_bytes (period_row f.period)) buffer at)
