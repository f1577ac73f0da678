-- The ramps in turn: the sum so far is the mainline demand and that of the ramps passed.
use Prim.Native.Nat.{◌≤◌, ◌+◌, ◌*◌}
use mathlib.Core.Path.{◌≡◌}
use Rattle.conditions.specs.Conditions.{in_force_at}
use Rattle.conditions.specs.View.{conditions_in}
use Rattle.steps.specs.Step.{sum_to}
use Rattle.steps.proofs.arrived.Given as goal

abbrev pub invariant-loop-place : goal.invariant-loop-place
invariant-loop-place l =
    (l.sum ≤ 20000 + 10000 * l.place-index)
    × (l.sum ≡ (conditions_in l.conditions).demand + sum_to (λ j. (in_force_at (conditions_in l.conditions) j).demand) l.place-index)
