-- Line by line.
use Rattle.std.proofs.Common.{refl}
use Rattle.steps.specs.Step.{replaced}
use Rattle.study.specs.Forecast.{lines_by}
use Rattle.study.specs.Shown.{line_at}
use Rattle.study.proofs.Lines.{lines_more}
use Rattle.study.proofs.lines_of.Goals as goal

pub loop-i-init : goal.loop-i-init
unfolding lines_by replaced
loop-i-init c = refl

pub loop-i-preserved : goal.loop-i-preserved
loop-i-preserved c = lines_more (line_at c.args.f.now) c.loop-i.i c.loop-i.lines c.line_at.result c.loop-i.invariant c.line_at.ensures
