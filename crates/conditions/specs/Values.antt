-- Lists of a function's values at the indexes below a number: no rule of the manual.
use Rattle.std.specs.Prelude.{ℕ, zero, suc, List, [], ◌∷◌}

-- the values at 0, 1 and so on, so many of them
unfoldable pub values_to : {A : Type 0} → (ℕ → A) → ℕ → List A
values_to g zero = []
values_to g (suc k) = g zero ∷ values_to (λ i. g (suc i)) k
