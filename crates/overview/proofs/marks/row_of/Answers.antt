-- Segment by segment.
use Rattle.std.proofs.Common.{refl}
use Rattle.steps.specs.Step.{replaced}
use Rattle.steps.proofs.Sums.{replaced_more}
use Rattle.overview.specs.Course.{row_by}
use Rattle.overview.specs.View.{mark_at}
use Rattle.overview.proofs.marks.row_of.Goals as goal

pub loop-i-init : goal.loop-i-init
unfolding row_by replaced
loop-i-init c = refl

pub loop-i-preserved : goal.loop-i-preserved
unfolding row_by
loop-i-preserved c = replaced_more (mark_at c.args.f.now) c.loop-i.i _ c.loop-i.row c.mark_at.result c.loop-i.invariant c.mark_at.ensures
