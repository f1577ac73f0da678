-- The formulas of the state after the step; those of y who do not go on are off(y).
use Prim.Native.Nat.{◌-◌}
use mathlib.Core.Path.{◌≡◌}
use native.Mathlib.Omega.{arith}
use Rattle.rules.specs.Rules.{off, through}
use Rattle.segment.specs.Place.{split_of, leaving_of, moved_of}
use Rattle.segment.proofs.Laws.{good_split, all_go}
use Rattle.segment.proofs.moved_at.Goals as goal

pub returns : goal.returns
unfolding moved_of
returns c =
    let here = c.args.place.now.here in
    let split = split_of here c.args.cell in
    let y = leaving_of here c.args.cell c.args.ahead in
    let whole = all_go here c.args.cell c.args.ahead (good_split _ _ c.args.place.now.good c.requires.0.bounded) in
    let rest : y - through split y ≡ off split y = omega (arith, whole) in
    rw (c.leaving-gone.ensures, rest, c.requires.0.queue_is)
