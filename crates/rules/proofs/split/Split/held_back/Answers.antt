-- The quotient, by the closed form.
use native.Mathlib.Omega.{arith}
use Rattle.rules.specs.View.{split_in}
use Rattle.rules.proofs.Splits.{held_back, share_below}
use Rattle.rules.proofs.View.{split_good}
use Rattle.rules.proofs.split.Split.held_back.Goals as goal

pub nonzero_div-y : goal.nonzero_div-y
nonzero_div-y c = omega (arith, share_below (split_in c.args.self) _ _ (split_good c.args.self) c.requires.1)

pub overflow_sub-y-2 : goal.overflow_sub-y-2
overflow_sub-y-2 c = (held_back (split_in c.args.self) _ _ (split_good c.args.self) c.requires.1).1

pub outflow_by-requires-2 : goal.outflow_by-requires-2
outflow_by-requires-2 c =
    let held = held_back (split_in c.args.self) _ _ (split_good c.args.self) c.requires.1 in
    (omega (arith, held.0, c.requires.0), held.2)
