-- What a facility shows by its totals and its segment reports, as the listing has it, and what the code's answers say: no rule of the manual,
-- but what the inner functions of a forecast promise.
use Rattle.std.specs.Prelude.{◌≡◌, ℕ, ◌+◌, ◌-◌, ◌≤◌, List, length, map, Option, Some, None, Result, Ok, Err}
use Rattle.refusals.specs.declared.Refused.{Refused}
use Rattle.refusals.specs.Numbers.{refusal_number}
use Rattle.levels.specs.Level.{letter_byte}
use Rattle.conditions.specs.Conditions.{segments}
use Rattle.door.specs.declared.Facility.{Facility}
use Rattle.facility.specs.Calls.{Reply, refused, done, report_of, totals_of}
use Rattle.facility.specs.Answers.{report_says}
use Rattle.study.specs.declared.shown.Line.{Line as SegmentLine}
use Rattle.study.specs.declared.shown.Listing.{Listing as Shown}
use Rattle.study.specs.Forecast.{Line, Listing, no_line, refused_listing, line_of, lines_by}

-- the code's line, of a segment or of none
abbrev pub line_shown : Option SegmentLine → Line
line_shown (Some l) = record { n = l.n; q = l.q; letter = letter_byte l.level; partfeet = l.partfeet }
line_shown None = no_line

-- the code's forecast: what the listing shows, or a refusal
abbrev pub told : Result Shown Refused → Listing
told (Ok x) = record {
  refusal = 0;
  place = 0;
  segments = x.segments;
  arrived = x.totals.arrived;
  left = x.totals.left;
  stored = x.totals.stored;
  partsteps = x.totals.partsteps;
  origin = x.origin;
  lines = map line_shown x.lines;
  partfeet = x.totals.partfeet;
}
told (Err e) = refused_listing (refusal_number e.refusal) e.offset

-- the line of segment i, counted from 0
unfoldable pub line_at : Facility → ℕ → Line
line_at f i = line_of (report_says (report_of f (i + 1)))

unfoldable pub shown : Facility → Listing
shown f = record {
  refusal = 0;
  place = 0;
  segments = segments f.road;
  arrived = (totals_of f).arrived;
  left = (totals_of f).left;
  stored = (totals_of f).stored;
  partsteps = (totals_of f).partsteps;
  origin = f.state.origin;
  lines = lines_by (line_at f) (segments f.road);
  partfeet = (totals_of f).partfeet;
}

-- what a taking of the sheet at a place of the bytes gives is a reply: where the sheet ends, or its refusal, by their places in the bytes
abbrev pub TakenAt : List ℕ → ℕ → Result ℕ Refused → Facility → Reply → Type 0
TakenAt bytes at (Ok end) f reply = (at ≤ end) × (end ≤ length bytes) × (done (end - at) f ≡ reply)
TakenAt bytes at (Err e) f reply = (at ≤ e.offset) × (refused f (refusal_number e.refusal) (e.offset - at) ≡ reply)
