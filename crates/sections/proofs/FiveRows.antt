-- What the laws of RU and of the speed take of the five rows, computed for each: the coefficients are small, the curve at 1 isn't below zero, and
-- 3600 / FFS is a value that rounding keeps, whose speed is FFS.
use mathlib.Core.Path.{◌≡◌, refl, sym, subst}
use mathlib.Core.Bool.{Bool, true, false, ◌||◌, false≢true}
use Prim.Native.Nat.{ℕ, ◌*◌}
use lib.Dec.{T, eqb, leb}
use lib.IntN.{pos, negsuc}
use lib.Ieee.{Float, nan, inf, fin, binary64, up, down, round, of_int, add, mul, div, lt}
use lib.Ieee.Positive.{positive, num, den}
use borrow.Author.Tests.{eqb-true, leb-true}
use Rattle.sections.specs.Real.{real, hundredths, minus_hundredths, ◌⊘◌}
use Rattle.sections.specs.Table.{tabled, row_of, row75, row70, row65, row60, row55}
use Rattle.sections.specs.Section.{curve_of}
use Rattle.sections.proofs.Within.{Within}

-- finite, and at most k in size, as a test
abbrev pub small : ℕ → Float → Bool
small k nan = false
small k (inf s) = false
small k (fin s m e) = leb (m * up e) (k * down e)

pub small_within : (k : ℕ) (x : Float) → small k x ≡ true → Within k x
small_within k nan e = absurd (false≢true e)
small_within k (inf s) e = absurd (false≢true e)
small_within k (fin s m e) h = leb-true _ _ h

-- the rate at free-flow speed
abbrev pub free_rate : ℕ → Float
free_rate ffs = real 3600 ⊘ real ffs

-- what is computed for a row; `rate` and `limit` are 3600 / FFS and FFS as they are held
pub record AtRow (ffs : ℕ) : Type 0 where
  pub a : Within 249 (row_of ffs).a
  pub b : Within 249 (row_of ffs).b
  pub c : Within 249 (row_of ffs).c
  pub d : Within 249 (row_of ffs).d
  pub at_one : lt (curve_of (row_of ffs) (real 1)) (real 0) ≡ false
  pub rate : Float
  pub is : free_rate ffs ≡ rate
  pub above : T (positive rate)
  pub little : Within 66 rate
  pub kept : round binary64 false (num rate) (den rate) ≡ rate
  pub limit : Float
  pub limit_is : real ffs ≡ limit
  pub speed : real 3600 ⊘ rate ≡ limit

module _ (ffs : ℕ) (rate limit : Float) where
  by_tests : small 249 (row_of ffs).a ≡ true → small 249 (row_of ffs).b ≡ true → small 249 (row_of ffs).c ≡ true → small 249 (row_of ffs).d ≡ true
      → lt (curve_of (row_of ffs) (real 1)) (real 0) ≡ false → free_rate ffs ≡ rate → T (positive rate) → small 66 rate ≡ true → round binary64 false (num rate) (den rate) ≡ rate
      → real ffs ≡ limit → real 3600 ⊘ rate ≡ limit → AtRow ffs
  by_tests a b c d at_one is above little kept limit_is speed =
      record {
        a = small_within 249 _ a;
        b = small_within 249 _ b;
        c = small_within 249 _ c;
        d = small_within 249 _ d;
        at_one = at_one;
        rate = rate;
        is = is;
        above = above;
        little = small_within 66 rate little;
        kept = kept;
        limit = limit;
        limit_is = limit_is;
        speed = speed;
      }

at75 : AtRow 75
unfolding row_of row75 hundredths minus_hundredths round of_int add mul div lt curve_of
at75 = by_tests 75 (fin false 3 (pos 4)) (fin false 75 (pos 0)) refl refl refl refl refl refl tt refl refl refl refl

at70 : AtRow 70
unfolding row_of row70 hundredths minus_hundredths round of_int add mul div lt curve_of
at70 = by_tests 70 (fin false 3618963986279863 (negsuc 45)) (fin false 35 (pos 1)) refl refl refl refl refl refl tt refl refl refl refl

at65 : AtRow 65
unfolding row_of row65 hundredths minus_hundredths round of_int add mul div lt curve_of
at65 = by_tests 65 (fin false 1948672915689157 (negsuc 44)) (fin false 65 (pos 0)) refl refl refl refl refl refl tt refl refl refl refl

at60 : AtRow 60
unfolding row_of row60 hundredths minus_hundredths round of_int add mul div lt curve_of
at60 = by_tests 60 (fin false 15 (pos 2)) (fin false 15 (pos 2)) refl refl refl refl refl refl tt refl refl refl refl

at55 : AtRow 55
unfolding row_of row55 hundredths minus_hundredths round of_int add mul div lt curve_of
at55 = by_tests 55 (fin false 4605954164356189 (negsuc 45)) (fin false 55 (pos 0)) refl refl refl refl refl refl tt refl refl refl refl

by_row : (ffs : ℕ) (p q r s t : Bool) → eqb ffs 75 ≡ p → eqb ffs 70 ≡ q → eqb ffs 65 ≡ r → eqb ffs 60 ≡ s → eqb ffs 55 ≡ t
    → (p || q || r || s || t) ≡ true → AtRow ffs
by_row ffs true q r s t a b c d e h = subst AtRow (sym (eqb-true ffs 75 a)) at75
by_row ffs false true r s t a b c d e h = subst AtRow (sym (eqb-true ffs 70 b)) at70
by_row ffs false false true s t a b c d e h = subst AtRow (sym (eqb-true ffs 65 c)) at65
by_row ffs false false false true t a b c d e h = subst AtRow (sym (eqb-true ffs 60 d)) at60
by_row ffs false false false false true a b c d e h = subst AtRow (sym (eqb-true ffs 55 e)) at55
by_row ffs false false false false false a b c d e h = absurd (false≢true h)

pub at_row : (ffs : ℕ) → tabled ffs ≡ true → AtRow ffs
unfolding tabled
at_row ffs h = by_row ffs (eqb ffs 75) (eqb ffs 70) (eqb ffs 65) (eqb ffs 60) (eqb ffs 55) refl refl refl refl refl h
