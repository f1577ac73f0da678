-- What the code's course says, and what a facility tells of its segments at a period's end: no rule of the manual, but what the inner functions
-- promise.
use Rattle.std.specs.Prelude.{ℕ, ◌+◌, Result, Ok, Err}
use Rattle.refusals.specs.declared.Refused.{Refused}
use Rattle.refusals.specs.Numbers.{refusal_number}
use Rattle.conditions.specs.Conditions.{entry_under}
use Rattle.door.specs.declared.Facility.{Facility}
use Rattle.running.specs.Steps.{sheet_by}
use Rattle.facility.specs.Calls.{report_of}
use Rattle.study.specs.Forecast.{RefusedStudy}
use Rattle.overview.specs.declared.marks.Mark.{Mark}
use Rattle.overview.specs.declared.marks.Course.{Course as Seen}
use Rattle.overview.specs.Course.{Course, course}

-- the code's course, or a refusal
abbrev pub told : Result Seen Refused → Course
told (Ok x) = record { refusal = 0; place = 0; road = x.road; periods = x.periods; rows = x.rows }
told (Err e) = course (RefusedStudy (refusal_number e.refusal) e.offset)

-- the mark of segment i, counted from 0, by the facility's report and its sheet in force
unfoldable pub mark_at : Facility → ℕ → Mark
mark_at f i = record { letter = (report_of f (i + 1)).level; lanes = (entry_under f.road (sheet_by f.taken f.period) i).opened }
