-- The road, and then sheet by sheet to the end of the file, a row for each.
use Rattle.std.proofs.Common.{◌-◌}
use Rattle.overview.proofs.Rows.{Seen}
use Rattle.overview.proofs.course_of.Given as goal

abbrev pub invariant-loop-at : goal.invariant-loop-at
invariant-loop-at l = Seen l.bytes l.f l.at l.rows

abbrev pub decreases-loop-at : goal.decreases-loop-at
decreases-loop-at l = 97 - l.f.taken
