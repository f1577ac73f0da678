-- The ratio of a section's demand to its capacity: the quotient of the two whole numbers, rounded once; at most 1 without a queue, above 1 with one.
use mathlib.Core.Path.{◌≡◌, refl, sym, ap, ◌∙◌, subst}
use mathlib.Core.Bool.{true, false, true≢false}
use mathlib.Core.Logic.{◌≢◌}
use Prim.Native.Nat.{ℕ, ◌+◌, ◌-◌, ◌*◌, ◌^◌, ◌≤◌, ◌<◌, min}
use native.Mathlib.Nat.{le_of_eq, lt_irrefl, lt_of_lt_of_le, mul-one, mul-pos, mul-le-mul, mul_comm, mul_assoc, mul_left_comm}
use native.Mathlib.Omega.{arith}
use lib.Dec.{T}
use lib.IntN.{negsuc}
use lib.Ieee.{Float, nan, inf, fin, binary64, up, down, round, of_int, div, lt, le}
use lib.Ieee.Fits.{down_pos}
use lib.Ieee.Exact.{HasValue}
use lib.Ieee.Order.{round_mono}
use lib.Ieee.Back.{round_whole}
use lib.Ieee.Scale.{round_same}
use Rattle.std.proofs.lemmas.Float.{lt_of_lt_of_le as lt_of_lt_of_le_float}
use Rattle.sections.specs.Real.{real}
use Rattle.sections.specs.Section.{SectionNumbers, capacity_of, ratio_of}
use Rattle.sections.specs.Good.{GoodSection}
use Rattle.sections.proofs.Within.{Within, round_within}
use Rattle.sections.proofs.Order.{quotient_is}

-- ---- a quotient of whole numbers
whole : (n : ℕ) → n ≤ 2 ^ 53 → HasValue (real n) false n 1
unfolding of_int
whole n h = round_whole binary64 false n h

divisor_not_zero : (n u c v : ℕ) → n * u ≡ c * v → 0 < c → 0 < v → n ≢ 0
divisor_not_zero n u c v h C V z = lt_irrefl 0 (lt_of_lt_of_le (mul-pos C V) (le_of_eq (sym h ∙ ap (λ (k : ℕ). k * u) z ∙ omega arith)))

quotient_at : (x y : Float) (d c : ℕ) → HasValue x false d 1 → HasValue y false c 1 → 0 < c → div binary64 x y ≡ round binary64 false d c
quotient_at nan y d c v w C = absurd v
quotient_at (inf s) y d c v w C = absurd v
quotient_at (fin s m e) nan d c v w C = absurd w
quotient_at (fin s m e) (inf t) d c v w C = absurd w
quotient_at (fin true m e) (fin t n g) d c v w C = absurd (true≢false v.0)
quotient_at (fin false m e) (fin true n g) d c v w C = absurd (true≢false w.0)
quotient_at (fin false m e) (fin false n g) d c v w C =
    quotient_is false false m e n g (divisor_not_zero n (up g) c (down g) den_is C (down_pos g))
    ∙ round_same binary64 false (m * up e * down g) (n * up g * down e) d c (rw den_is (mul-pos (mul-pos C (down_pos g)) (down_pos e))) C cross
  where
    num_is : m * up e ≡ d * down e
    num_is = sym (mul-one (m * up e)) ∙ v.1

    den_is : n * up g ≡ c * down g
    den_is = sym (mul-one (n * up g)) ∙ w.1

    cross : m * up e * down g * c ≡ d * (n * up g * down e)
    cross = rw (num_is, den_is) (simp (mul_assoc, mul_comm, mul_left_comm))

module _ (d c : ℕ) (D : d ≤ 2 ^ 53) (C : 0 < c) (small : c ≤ 2 ^ 52) where
  ratio_is : ratio_of d c ≡ round binary64 false d c
  unfolding ratio_of
  ratio_is = quotient_at (real d) (real c) d c (whole d D) (whole c (omega arith)) C

  pub ratio_within : d ≤ c → Within 1 (ratio_of d c)
  ratio_within h = subst (Within 1) (sym ratio_is) (round_within false d c 1 C (omega arith) (omega arith))

  -- the f64 next above 1
  abbrev next : Float
  next = fin false 4503599627370497 (negsuc 51)

  next_is : round binary64 false 4503599627370497 4503599627370496 ≡ next
  unfolding round
  next_is = refl

  pub ratio_above : c < d → T (lt (real 1) (ratio_of d c))
  unfolding of_int lt
  ratio_above h =
      lt_of_lt_of_le_float (real 1) next (ratio_of d c) tt
      (subst (λ (x : Float). T (le next x)) (sym ratio_is)
      (subst (λ (x : Float). T (le x (round binary64 false d c))) next_is (round_mono binary64 4503599627370497 4503599627370496 d c (omega arith) C (omega arith))))

-- ---- a capacity
module _ (s : SectionNumbers) (good : GoodSection s) where
  pub some_capacity : 0 < capacity_of s
  unfolding capacity_of
  some_capacity =
      let base : 2200 ≤ 2200 + 10 * (min 70 s.ffs - 50) = omega arith in
      let lanes : 2200 * 1 ≤ (2200 + 10 * (min 70 s.ffs - 50)) * s.lanes = mul-le-mul base good.wide in
      let all : 2200 * 1 * 100 ≤ (2200 + 10 * (min 70 s.ffs - 50)) * s.lanes * s.caf = mul-le-mul lanes good.least in
      omega (arith, all)

  pub little_capacity : capacity_of s ≤ 2 ^ 52
  unfolding capacity_of
  little_capacity =
      let base : 2200 + 10 * (min 70 s.ffs - 50) ≤ 2400 = omega arith in
      let lanes : (2200 + 10 * (min 70 s.ffs - 50)) * s.lanes ≤ 2400 * 8 = mul-le-mul base good.narrow in
      let all : (2200 + 10 * (min 70 s.ffs - 50)) * s.lanes * s.caf ≤ 2400 * 8 * 1000 = mul-le-mul lanes good.share in
      omega (arith, all)
