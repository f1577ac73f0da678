-- Sums and quotients in order: what isn't below zero makes a sum no smaller, and a larger divisor a quotient no larger.
use mathlib.Core.Path.{◌≡◌, refl, sym, ap, ◌∙◌, subst}
use mathlib.Core.Bool.{Bool, true, false, cond, false≢true}
use mathlib.Core.Logic.{◌≢◌}
use Prim.Native.Nat.{ℕ, ◌+◌, ◌-◌, ◌*◌, ◌≤◌, ◌<◌}
use native.Mathlib.Nat.{le_trans, le_of_eq, lt_irrefl, mul-pos, mul-le-mul_left, mul-le-mul_right, mul_comm, mul_assoc, mul_left_comm, zero-mul}
use native.Mathlib.Omega.{arith}
use lib.Dec.{T, ltb, ltb→lt}
use lib.IntN.{ℤ, pos}
use lib.Ieee.{Float, nan, inf, fin, binary64, up, down, unlike, round, sum, add, div, lt, le}
use lib.Ieee.Fits.{up_pos, down_pos}
use lib.Ieee.Order.{round_mono}
use lib.Ieee.Positive.{positive, num, den, le→cross}
use borrow.Author.Tests.{ltb-false, le-ltb, ne_eqb}
use Rattle.std.specs.Float.{float_with_sign}
use Rattle.sections.proofs.Signs.{signed_round}
use Rattle.sections.proofs.Within.{Within}

-- zero, without a minus
abbrev pub plus_zero : Float
plus_zero = fin false 0 (pos 0)

-- x isn't below zero
abbrev pub NotBelow : Float → Type 0
NotBelow x = lt x plus_zero ≡ false

-- a negative zero is the one float with a minus that isn't below zero
minus_zero : (m : ℕ) (e : ℤ) → NotBelow (fin true m e) → m * up e ≡ 0
unfolding lt
minus_zero m e h = omega (arith, ltb-false 0 _ h)

unsigned : (x : Float) → NotBelow (float_with_sign false x)
unfolding lt float_with_sign
unsigned nan = refl
unsigned (inf s) = refl
unsigned (fin s m e) = le-ltb _ _ (omega (arith, zero-mul (down e)))

rounded : (a c : ℕ) → NotBelow (round binary64 false a c)
rounded a c = subst NotBelow (signed_round false a c) (unsigned (round binary64 false a c))

-- ---- a sum
-- of a / c, which is zero where it has a minus, and b / c
sum_up : (s : Bool) (a b c : ℕ) → (s ≡ true → a ≡ 0) → sum binary64 s a false b c ≡ round binary64 false (a + b) c
unfolding sum
sum_up false a b c h = refl
sum_up true a b c h = rw (h refl) (go (ltb 0 b) refl)
  where
    go : (t : Bool) → ltb 0 b ≡ t → cond t (round binary64 false (b - 0) c) (round binary64 (ltb b 0) (0 - b) c) ≡ round binary64 false (0 + b) c
    go true e = let z : b - 0 ≡ 0 + b = omega arith in ap (λ (k : ℕ). round binary64 false k c) z
    go false e = let z : b ≡ 0 = omega (arith, ltb-false 0 b e) in rw z refl

sum_is : (s : Bool) (m : ℕ) (e : ℤ) (n : ℕ) (d : ℤ) → NotBelow (fin s m e)
    → add binary64 (fin s m e) (fin false n d) ≡ round binary64 false (m * up e * down d + n * up d * down e) (down e * down d)
unfolding add
sum_is s m e n d h = sum_up s (m * up e * down d) (n * up d * down e) (down e * down d) (unsigned_part s h)
  where
    unsigned_part : (s : Bool) → NotBelow (fin s m e) → s ≡ true → m * up e * down d ≡ 0
    unsigned_part true b p = ap (λ (z : ℕ). z * down d) (minus_zero m e b) ∙ zero-mul (down d)
    unsigned_part false b p = absurd (false≢true p)

pub zero_added : (k : ℕ) (x : Float) → Within k x → NotBelow x → NotBelow (add binary64 x plus_zero)
zero_added k nan w h = absurd w
zero_added k (inf s) w h = absurd w
zero_added k (fin s m e) w h = subst NotBelow (sym (sum_is s m e 0 (pos 0) h)) (rounded _ _)

-- the sum with t is at least t, rounded
pub grows : (k : ℕ) (x t : Float) → Within k x → NotBelow x → T (positive t) → T (le (round binary64 false (num t) (den t)) (add binary64 x t))
grows k nan t w h p = absurd w
grows k (inf s) t w h p = absurd w
grows k (fin s m e) nan w h p = absurd p
grows k (fin s m e) (inf t) w h p = absurd p
grows k (fin s m e) (fin true n d) w h p = absurd p
grows k (fin s m e) (fin false n d) w h p =
    subst (λ (z : Float). T (le (round binary64 false (n * up d) (down d)) z)) (sym (sum_is s m e n d h))
    (round_mono binary64 (n * up d) (down d) _ _ (down_pos d) (mul-pos (down_pos e) (down_pos d)) more)
  where
    more : n * up d * (down e * down d) ≤ (m * up e * down d + n * up d * down e) * down d
    more = le_trans (le_of_eq (sym (mul_assoc (n * up d) (down e) (down d)))) (mul-le-mul_right (down d) (omega arith))

-- ---- a quotient
pub quotient_is : (s t : Bool) (m : ℕ) (e : ℤ) (n : ℕ) (g : ℤ) → n ≢ 0
    → div binary64 (fin s m e) (fin t n g) ≡ round binary64 (unlike s t) (m * up e * down g) (n * up g * down e)
unfolding div
quotient_is s t m e n g h = rw (ne_eqb n 0 h)

not_zero : (n : ℕ) → T (ltb 0 n) → n ≢ 0
not_zero n p z = lt_irrefl 0 (subst (λ (k : ℕ). 0 < k) z (ltb→lt 0 n p))

positive_is : (m : ℕ) (e : ℤ) (n : ℕ) (d : ℤ) → T (positive (fin false n d))
    → div binary64 (fin false m e) (fin false n d) ≡ round binary64 false (m * up e * down d) (n * up d * down e)
positive_is m e n d p = quotient_is false false m e n d (not_zero n p)

pub falls : (x y z : Float) → T (positive x) → T (positive y) → T (positive z) → T (le y z) → T (le (div binary64 x z) (div binary64 x y))
falls nan y z p q r h = absurd p
falls (inf s) y z p q r h = absurd p
falls (fin true m e) y z p q r h = absurd p
falls (fin false m e) nan z p q r h = absurd q
falls (fin false m e) (inf s) z p q r h = absurd q
falls (fin false m e) (fin true n d) z p q r h = absurd q
falls (fin false m e) (fin false n d) nan p q r h = absurd r
falls (fin false m e) (fin false n d) (inf s) p q r h = absurd r
falls (fin false m e) (fin false n d) (fin true k g) p q r h = absurd r
falls (fin false m e) (fin false n d) (fin false k g) p q r h =
    subst (λ (w : Float). T (le w (div binary64 (fin false m e) (fin false n d)))) (sym (positive_is m e k g r))
    (subst (λ (w : Float). T (le (round binary64 false (m * up e * down g) (k * up g * down e)) w)) (sym (positive_is m e n d q))
    (round_mono binary64 _ _ _ _ (mul-pos (num_positive k g r) (down_pos e)) (mul-pos (num_positive n d q) (down_pos e)) cross))
  where
    num_positive : (n : ℕ) (d : ℤ) → T (positive (fin false n d)) → 0 < n * up d
    num_positive n d p = mul-pos (ltb→lt 0 n p) (up_pos d)

    regroup : (a b c d : ℕ) → a * b * (c * d) ≡ a * d * (c * b)
    regroup a b c d = simp (mul_assoc, mul_comm, mul_left_comm)

    -- n / d ≤ k / g, both times m * up e * down e
    cross : m * up e * down g * (n * up d * down e) ≤ m * up e * down d * (k * up g * down e)
    cross =
        le_trans (le_of_eq (regroup (m * up e) (down g) (n * up d) (down e)))
        (le_trans (mul-le-mul_left (m * up e * down e) (le→cross (fin false n d) (fin false k g) q r h))
        (le_of_eq (sym (regroup (m * up e) (down d) (k * up g) (down e)))))
