-- Floats that are finite and at most a whole number in size, whatever their sign. Products and sums of such are such, since rounding keeps the order.
use mathlib.Core.Path.{sym, ap, ◌∙◌, subst}
use mathlib.Core.Bool.{Bool, true, false, cond, beq, ◌&&◌, ◌||◌, true≢false}
use mathlib.Core.Logic.{◌⊎◌, inl, inr, ⊎_elim}
use Prim.Native.Nat.{ℕ, ◌+◌, ◌-◌, ◌*◌, ◌^◌, ◌≤◌, ◌<◌}
use native.Mathlib.Nat.{le_trans, le_of_eq, le_of_lt, zero-lt-suc, mul-one, mul-pos, mul-le-mul, mul-le-mul_right, le_of_mul-le-mul_right, mul_right_comm, mul_assoc, mul-mul-mul_comm, add-mul, add-le-add}
use native.Mathlib.Omega.{arith}
use lib.Dec.{T, ltb, eqb, ltb→lt, eqb→eq}
use lib.Ieee.{Float, nan, inf, fin, binary64, up, down, unlike, round, sum, add, mul, le}
use lib.Ieee.Fits.{down_pos, and_l}
use lib.Ieee.Exact.{HasValue}
use lib.Ieee.Order.{round_mono}
use lib.Ieee.Back.{round_whole}
use Rattle.std.specs.Float.{float_with_sign}
use Rattle.sections.proofs.Signs.{signed_round}

-- x is finite, and at most k in size
abbrev pub Within : ℕ → Float → Type 0
Within k nan = ⊥
Within k (inf s) = ⊥
Within k (fin s m e) = m * up e ≤ k * down e

-- ---- a fraction of at most k, rounded
le_by : (a b : ℕ) → T (ltb a b || (eqb a b && true)) → a ≤ b
le_by a b h = ⊎_elim (λ (t : T (ltb a b)). le_of_lt (ltb→lt a b t)) (λ (t : T (eqb a b && true)). le_of_eq (eqb→eq a b (and_l (eqb a b) true t))) (either (ltb a b) (eqb a b && true) h)
  where
    either : (x y : Bool) → T (x || y) → T x ⊎ T y
    either true y t = inl tt
    either false y t = inr t

-- x with any sign is within k, if without a minus it is at most y, whose value is k
held : (s : Bool) (x y : Float) (k : ℕ) → HasValue y false k 1 → T (le (float_with_sign false x) y) → Within k (float_with_sign s x)
unfolding le float_with_sign
held s nan y k v h = absurd h
held s (inf t) nan k v h = absurd v
held s (inf t) (inf u) k v h = absurd v
held s (inf t) (fin u n d) k v h = absurd h
held s (fin t m e) nan k v h = absurd v
held s (fin t m e) (inf u) k v h = absurd v
held s (fin t m e) (fin true n d) k v h = absurd (true≢false v.0)
held s (fin t m e) (fin false n d) k v h =
    le_of_mul-le-mul_right
    (le_trans (le_by (m * up e * down d) (n * up d * down e) h)
    (le_of_eq (ap (λ (z : ℕ). z * down e) (sym (mul-one (n * up d)) ∙ v.1) ∙ mul_right_comm k (down d) (down e))))
    (down_pos d)

pub round_within : (s : Bool) (a c k : ℕ) → 0 < c → k ≤ 2 ^ 53 → a ≤ k * c → Within k (round binary64 s a c)
round_within s a c k C K h =
    let one = round binary64 false k 1 in
    subst (Within k) (signed_round s a c)
    (held s (round binary64 false a c) one k (round_whole binary64 false k K)
    (subst (λ (x : Float). T (le x one)) (sym (signed_round false a c))
    (round_mono binary64 a c k 1 C (zero-lt-suc 0) (le_trans (le_of_eq (mul-one a)) h))))

-- ---- a product and a sum
product_size : (m u g n v h j k : ℕ) → m * u ≤ j * g → n * v ≤ k * h → m * u * (n * v) ≤ j * k * (g * h)
product_size m u g n v h j k a b = le_trans (mul-le-mul a b) (le_of_eq (mul-mul-mul_comm j g k h))

pub product_within : (j k : ℕ) (x y : Float) → j * k ≤ 2 ^ 53 → Within j x → Within k y → Within (j * k) (mul binary64 x y)
unfolding mul
product_within j k nan y K a b = absurd a
product_within j k (inf s) y K a b = absurd a
product_within j k (fin s m e) nan K a b = absurd b
product_within j k (fin s m e) (inf t) K a b = absurd b
product_within j k (fin s m e) (fin t n d) K a b =
    round_within (unlike s t) (m * up e * (n * up d)) (down e * down d) (j * k) (mul-pos (down_pos e) (down_pos d)) K
    (product_size m (up e) (down e) n (up d) (down d) j k a b)

sum_size : (s t : Bool) (a b c k : ℕ) → 0 < c → k ≤ 2 ^ 53 → a + b ≤ k * c → Within k (sum binary64 s a t b c)
unfolding sum
sum_size s t a b c k C K h = go (beq s t) (ltb a b)
  where
    go : (x y : Bool)
        → Within k (cond x (round binary64 s (a + b) c) (cond y (round binary64 t (b - a) c) (round binary64 (s && ltb b a) (a - b) c)))
    go true y = round_within s (a + b) c k C K h
    go false true = round_within t (b - a) c k C K (omega (arith, h))
    go false false = round_within (s && ltb b a) (a - b) c k C K (omega (arith, h))

pub sum_within : (j k : ℕ) (x y : Float) → j + k ≤ 2 ^ 53 → Within j x → Within k y → Within (j + k) (add binary64 x y)
unfolding add
sum_within j k nan y K a b = absurd a
sum_within j k (inf s) y K a b = absurd a
sum_within j k (fin s m e) nan K a b = absurd b
sum_within j k (fin s m e) (inf t) K a b = absurd b
sum_within j k (fin s m e) (fin t n d) K a b =
    sum_size s t (m * up e * down d) (n * up d * down e) (down e * down d) (j + k) (mul-pos (down_pos e) (down_pos d)) K
    (both (mul-le-mul_right (down d) a) (mul-le-mul_right (down e) b))
  where
    both : m * up e * down d ≤ j * down e * down d → n * up d * down e ≤ k * down d * down e
        → m * up e * down d + n * up d * down e ≤ (j + k) * (down e * down d)
    both p q =
        le_trans (add-le-add p q)
        (le_of_eq (ap (λ (z : ℕ). z + k * down d * down e) (mul_assoc j (down e) (down d))
        ∙ ap (λ (z : ℕ). j * (down e * down d) + z) (mul_right_comm k (down d) (down e) ∙ mul_assoc k (down e) (down d))
        ∙ sym (add-mul j k (down e * down d))))
