-- The runs in turn, and the letters after each so far.
use Rattle.std.proofs.Common.{◌≡◌, ◌*◌, ◌≤◌}
use Rattle.timing.specs.Repeated.{one_by_one, letters_after_runs}
use Rattle.timing.proofs.sixty_runs.Given as goal

abbrev pub invariant-loop : goal.invariant-loop
invariant-loop l =
    (l.f ≡ one_by_one l.counter l.initial.f)
    × (l.letters ≡ letters_after_runs l.reports l.counter l.initial.f)
    × (l.letters ≤ 65536 * l.counter)
