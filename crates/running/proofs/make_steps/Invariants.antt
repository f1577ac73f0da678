-- The steps in turn.
use Rattle.running.proofs.Loop.{Turn}
use Rattle.running.proofs.make_steps.Given as goal

abbrev pub invariant-loop : goal.invariant-loop
invariant-loop l = Turn l.fn.f l.k l.counter l.f
