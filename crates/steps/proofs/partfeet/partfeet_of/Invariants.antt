-- The segments in turn: the sum so far is that of the segments passed.
use Prim.Native.Nat.{◌≤◌, ◌*◌}
use mathlib.Core.Path.{◌≡◌}
use Rattle.steps.specs.Step.{sum_to}
use Rattle.steps.specs.Driven.{partfeet_in}
use Rattle.steps.proofs.partfeet.partfeet_of.Given as goal

abbrev pub invariant-loop-own : goal.invariant-loop-own
invariant-loop-own l = (l.sum ≤ 3041280000000 * l.own-index) × (l.sum ≡ sum_to (partfeet_in l.fn.partfeet) l.own-index)
