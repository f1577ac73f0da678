-- Laws of lists of a function's values, and of one value.
use Prim.Native.Nat.{ℕ, zero, suc, ◌+◌, ◌<◌}
use mathlib.Core.List.{List, [], ◌∷◌, ◌++◌, map}
use mathlib.Core.Path.{◌≡◌, refl, sym}
use native.Mathlib.Omega.{arith}
use lib.ListN.{length, get_or, set, take, replicate}
use Rattle.std.proofs.Common.{add-one}
use Rattle.std.proofs.lemmas.List.{take_more_set, map_push}
use Rattle.conditions.specs.Values.{values_to}

-- a list of one value, read anywhere
pub replicated : {A : Type 0} (x : A) (n i : ℕ) → get_or (replicate n x) i x ≡ x
replicated x zero i = refl
replicated x (suc n) zero = refl
replicated x (suc n) (suc i) = replicated x n i

-- read by index
pub values_at : {A : Type 0} (g : ℕ → A) (k i : ℕ) (d : A) → i < k → get_or (values_to g k) i d ≡ g i
unfolding values_to
values_at g zero i d h = absurd (omega arith)
values_at g (suc k) zero d h = refl
values_at g (suc k) (suc i) d h = values_at (λ j. g (suc j)) k i d (omega arith)

-- equal by the values
pub values_same : {A : Type 0} (g h : ℕ → A) (k : ℕ) → ((i : ℕ) → i < k → g i ≡ h i) → values_to g k ≡ values_to h k
unfolding values_to
values_same g h zero e = refl
values_same g h (suc k) e = rw (e zero (omega arith), values_same (λ i. g (suc i)) (λ i. h (suc i)) k (λ i l. e (suc i) (omega arith)))

-- a list is the values that are read from it
pub values_are : {A : Type 0} (g : ℕ → A) (k : ℕ) (xs : List A) (d : A) → length xs ≡ k → ((i : ℕ) → i < k → g i ≡ get_or xs i d) → values_to g k ≡ xs
unfolding values_to
values_are g zero [] d l e = refl
values_are g zero (x ∷ xs) d l e = absurd (omega arith)
values_are g (suc k) [] d l e = absurd (omega arith)
values_are g (suc k) (x ∷ xs) d l e = rw (e zero (omega arith), values_are (λ i. g (suc i)) k xs d (omega arith) (λ i h. e (suc i) (omega arith)))

pub values_length : {A : Type 0} (g : ℕ → A) (k : ℕ) → length (values_to g k) ≡ k
unfolding values_to
values_length g zero = refl
values_length g (suc k) = rw (values_length (λ i. g (suc i)) k)

-- with one more value
pub values_more : {A : Type 0} (g : ℕ → A) (k : ℕ) → values_to g (suc k) ≡ values_to g k ++ g k ∷ []
unfolding values_to
values_more g zero = refl
values_more g (suc k) = rw (values_more (λ i. g (suc i)) k)

-- the values of a list's items, with one more item set
pub values_set : {A B : Type 0} (f : A → B) (g : ℕ → B) (xs : List A) (i : ℕ) (y : A) →
    i < length xs →
    f y ≡ g i →
    map f (take i xs) ≡ values_to g i →
    map f (take (i + 1) (set xs i y)) ≡ values_to g (i + 1)
values_set f g xs i y h e r = rw (take_more_set xs i y h, map_push f (take i xs) y, e, r, add-one i) (sym (values_more g i))
