-- The periods in turn, and the letters so far.
use Rattle.std.proofs.Common.{◌≡◌, ◌*◌, ◌≤◌}
use Rattle.timing.specs.Repeated.{periods_one_by_one, letters_over_periods}
use Rattle.timing.proofs.freeway_time_steps.Given as goal

abbrev pub invariant-loop : goal.invariant-loop
invariant-loop l =
    (l.f ≡ periods_one_by_one l.period l.counter l.initial.f)
    × (l.letters ≡ letters_over_periods l.reports l.period l.counter l.initial.f)
    × (l.letters ≤ 60 * 65536 * l.counter)
