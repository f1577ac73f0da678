-- The segments in turn: the sum so far is that of the segments passed.
use Prim.Native.Nat.{◌≤◌, ◌+◌, ◌*◌}
use mathlib.Core.Path.{◌≡◌}
use Rattle.steps.specs.Step.{cell_in, sum_to}
use Rattle.steps.proofs.stored.Given as goal

abbrev pub invariant-loop-cell : goal.invariant-loop-cell
invariant-loop-cell l =
    (l.sum ≤ 8589934592 * l.cell-index) × (l.sum ≡ sum_to (λ j. (cell_in l.fn.state j).n + (cell_in l.fn.state j).q) l.cell-index)
