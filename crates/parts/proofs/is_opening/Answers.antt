-- The test at each of the three.
use mathlib.Core.Path.{refl}
use Rattle.std.proofs.Common.{rules, tests}
use Rattle.parts.proofs.Each.{each_below}
use Rattle.parts.proofs.is_opening.Goals as goal

pub returns : goal.returns
returns c = each_below _ 3 _ _ _ c.all.ensures.ran refl (λ x b q k. search (rules, tests))
