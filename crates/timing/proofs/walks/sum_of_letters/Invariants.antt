-- The letters in turn: the sum so far is of those told.
use Rattle.std.proofs.Common.{◌≡◌, ◌*◌, ◌<◌, ◌≤◌, ℕ}
use Rattle.levels.specs.declared.Level.{Level}
use Rattle.levels.specs.Level.{letter_byte}
use Rattle.steps.specs.Step.{sum_to}
use Rattle.timing.proofs.walks.sum_of_letters.Given as goal

abbrev pub invariant-loop-i : goal.invariant-loop-i
invariant-loop-i g l =
    ((tells : ℕ → Level) → ((i : ℕ) (r : Level) → i < 4294967296 → goal.F-post g l.level i r → r ≡ tells i) → l.sum ≡ sum_to (λ i. letter_byte (tells i)) l.i)
    × (l.sum ≤ 256 * l.i)
