-- Sums over the indexes below a number, and lists whose first elements are replaced.
use Prim.Native.Nat.{ℕ, zero, suc, ◌+◌, ◌*◌, ◌≤◌, ◌<◌}
use mathlib.Core.List.{List}
use mathlib.Core.Path.{◌≡◌, refl, sym, ◌∙◌, subst⁻¹}
use mathlib.Core.Bool.{Bool, true, false}
use mathlib.Core.Logic.{⊎_elim}
use native.Mathlib.Nat.{eq-or-lt_of_le}
use native.Mathlib.Numerals.{add-one}
use native.Mathlib.Omega.{arith}
use lib.ListN.{length, get_or, set, length-set, get_or-eq_default}
use lib.Dec.{ltb}
use borrow.Author.Tests.{ltb-true, ltb-false}
use lib.Seq.{get_or-set_same, get_or-set_other}
use Rattle.std.proofs.lemmas.Bool.{cases_lt}
use Rattle.std.proofs.lemmas.List.{ext_get_or}
use Rattle.steps.specs.Step.{replaced, sum_to}

pub length_replaced : {A : Type 0} (g : ℕ → A) (k : ℕ) (xs : List A) → length (replaced g k xs) ≡ length xs
unfolding replaced
length_replaced g zero xs = refl
length_replaced g (suc k) xs = simp length-set (length_replaced g k xs)

-- the element at an index below the number is the function's value there
pub replaced_at : {A : Type 0} (g : ℕ → A) (k i : ℕ) (xs : List A) (d : A) → i < k → i < length xs → get_or (replaced g k xs) i d ≡ g i
unfolding replaced
replaced_at g zero i xs d h l = absurd (omega arith)
replaced_at g (suc k) i xs d h l =
    ⊎_elim
    (λ e. rw e (get_or-set_same (replaced g k xs) k (g k) d (omega (arith, length_replaced g k xs))))
    (λ below. get_or-set_other (replaced g k xs) k i (g k) d (λ e. omega arith) ∙ replaced_at g k i xs d below l)
    (eq-or-lt_of_le {n = i} {m = k} (omega arith))

-- and those from the number on stay
pub replaced_beyond : {A : Type 0} (g : ℕ → A) (k i : ℕ) (xs : List A) (d : A) → k ≤ i → get_or (replaced g k xs) i d ≡ get_or xs i d
unfolding replaced
replaced_beyond g zero i xs d h = refl
replaced_beyond g (suc k) i xs d h = get_or-set_other (replaced g k xs) k i (g k) d (λ e. omega arith) ∙ replaced_beyond g k i xs d (omega arith)

-- one element more
pub replaced_more : {A : Type 0} (g : ℕ → A) (i : ℕ) (xs now : List A) (x : A) → now ≡ replaced g i xs → x ≡ g i → set now i x ≡ replaced g (i + 1) xs
unfolding replaced
replaced_more g i xs now x at e = rw (add-one, at, e)

-- a list that has the function's values first, and then what stood there, is the list replaced
pub replaced_is : {A : Type 0} (g : ℕ → A) (k : ℕ) (xs ys : List A) (d : A) → k ≤ length xs → length ys ≡ length xs
    → ((i : ℕ) → i < k → get_or ys i d ≡ g i) → ((i : ℕ) → k ≤ i → get_or ys i d ≡ get_or xs i d) → ys ≡ replaced g k xs
replaced_is g k xs ys d fits long first behind =
    ext_get_or d ys (replaced g k xs) (long ∙ sym (length_replaced g k xs)) (λ i h.
    ⊎_elim
    (λ below. first i below ∙ sym (replaced_at g k i xs d below (omega arith)))
    (λ beyond. behind i beyond ∙ sym (replaced_beyond g k i xs d beyond))
    (cases_lt i k))

-- what holds of the function's value and of the default holds of the element there, however long the list is
either_by : {A : Type 0} (P : A → Type 0) (g : ℕ → A) (k i : ℕ) (xs : List A) (d : A) → i < k → P (g i) → P d
    → (t : Bool) → ltb i (length xs) ≡ t → P (get_or (replaced g k xs) i d)
either_by P g k i xs d h a b true e = subst⁻¹ P (replaced_at g k i xs d h (ltb-true _ _ e)) a
either_by P g k i xs d h a b false e =
    let short : length (replaced g k xs) ≤ i = omega (arith, length_replaced g k xs, ltb-false i (length xs) e) in
    subst⁻¹ P (get_or-eq_default (replaced g k xs) d {n = i} short) b

pub replaced_either : {A : Type 0} (P : A → Type 0) (g : ℕ → A) (k i : ℕ) (xs : List A) (d : A) → i < k → P (g i) → P d → P (get_or (replaced g k xs) i d)
replaced_either P g k i xs d h a b = either_by P g k i xs d h a b (ltb i (length xs)) refl

pub sum_more : (g : ℕ → ℕ) (k s x : ℕ) → s ≡ sum_to g k → x ≡ g k → s + x ≡ sum_to g (k + 1)
unfolding sum_to
sum_more g k s x e h = rw (add-one, e, h)

pub sum_same : (g h : ℕ → ℕ) (k : ℕ) → ((i : ℕ) → i < k → g i ≡ h i) → sum_to g k ≡ sum_to h k
unfolding sum_to
sum_same g h zero e = refl
sum_same g h (suc k) e = rw (sum_same g h k (λ i l. e i (omega arith)), e k (omega arith))

pub sum_most : (g : ℕ → ℕ) (b k : ℕ) → ((i : ℕ) → i < k → g i ≤ b) → sum_to g k ≤ b * k
unfolding sum_to
sum_most g b zero h = omega arith
sum_most g b (suc k) h = omega (arith, sum_most g b k (λ i l. h i (omega arith)), h k (omega arith))

-- two sums are the sum of both
pub sum_both : (g h : ℕ → ℕ) (k : ℕ) → sum_to g k + sum_to h k ≡ sum_to (λ i. g i + h i) k
unfolding sum_to
sum_both g h zero = omega arith
sum_both g h (suc k) = omega (arith, sum_both g h k)

-- what each place passes on to the next cancels out
pub telescope : (a b c d f : ℕ → ℕ) (k : ℕ) →
    ((i : ℕ) → i < k → a i + b i + f (suc i) ≡ c i + d i + f i) →
    sum_to a k + sum_to b k + f k ≡ sum_to c k + sum_to d k + f 0
unfolding sum_to
telescope a b c d f zero h = omega arith
telescope a b c d f (suc k) h =
    omega (arith, telescope a b c d f k (λ i l. h i (omega arith)), h k (omega arith))
