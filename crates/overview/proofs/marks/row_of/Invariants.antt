-- Segment by segment.
use Rattle.std.proofs.Common.{◌≡◌}
use Rattle.overview.specs.Course.{row_by}
use Rattle.overview.specs.View.{mark_at}
use Rattle.overview.proofs.marks.row_of.Given as goal

abbrev pub invariant-loop-i : goal.invariant-loop-i
invariant-loop-i l = l.row ≡ row_by (mark_at l.f) l.i
