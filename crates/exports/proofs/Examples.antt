-- Rows compute: one put among other numbers, and two joined.
use Rattle.std.proofs.Common.{◌≡◌, ℕ, List, [], ◌∷◌, refl}
use Rattle.exports.specs.Rows.{joined, put_row}

put_in_the_middle : put_row (7 ∷ 8 ∷ []) (1 ∷ 2 ∷ 3 ∷ 4 ∷ []) 1 ≡ 1 ∷ 7 ∷ 8 ∷ 4 ∷ []
unfolding put_row
put_in_the_middle = refl

pair : ℕ → List ℕ
pair x = x ∷ 0 ∷ []

two_joined : joined pair (5 ∷ 6 ∷ []) ≡ 5 ∷ 0 ∷ 6 ∷ 0 ∷ []
unfolding joined pair
two_joined = refl
