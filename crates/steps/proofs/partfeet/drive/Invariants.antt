-- The segments in turn: those before the one at hand have what they gained.
use mathlib.Core.Path.{◌≡◌}
use Rattle.conditions.specs.View.{conditions_in}
use Rattle.steps.specs.Step.{replaced}
use Rattle.steps.proofs.Driven.{with_gain}
use Rattle.steps.proofs.partfeet.drive.Given as goal

abbrev pub invariant-loop-i : goal.invariant-loop-i
invariant-loop-i l = l.partfeet ≡ replaced (with_gain (conditions_in l.conditions) l.before l.tallies l.fn.partfeet) l.i l.fn.partfeet
