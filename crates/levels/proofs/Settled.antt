-- The limit of A by a comparison whose numbers always fit: 22 × n is at most 11 × the area where 2 × n is at most the area.
use Rattle.std.proofs.Common.{ℕ, false, ◌*◌, ◌<◌, ◌≤◌, ◌≡◌, refl, arith}
use borrow.Author.Tests.{le-leb, lt-leb}
use Rattle.levels.specs.declared.Level.TheVariants.{A}
use Rattle.levels.specs.Level.{graded, holds_at_most, level_by}

pub settled : (n area : ℕ) → 2 * n ≤ area → level_by n area ≡ A
unfolding level_by graded holds_at_most
settled n area few = rw (le-leb (22 * n) (11 * area) (omega (arith, few))) refl

pub unsettled : (n area : ℕ) → area < 2 * n → holds_at_most 11 n area ≡ false
unfolding holds_at_most
unsettled n area many = lt-leb (22 * n) (11 * area) (omega (arith, many))
