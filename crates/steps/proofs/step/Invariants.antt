-- The pass over the segments, from the state and the totals at the step's start.
use Rattle.conditions.specs.View.{conditions_in}
use Rattle.steps.proofs.Passing.{Passing}
use Rattle.steps.proofs.Tallies.{Counting}
use Rattle.steps.proofs.step.Given as goal

abbrev pub invariant-loop-i : goal.invariant-loop-i
invariant-loop-i l =
    Passing (conditions_in l.conditions) l.fn.state l.last l.state l.came l.left l.i
    × Counting (conditions_in l.conditions) l.fn.state l.fn.tallies l.tallies l.i
