-- RU of every section is zero or more, and of a queued one the printed rate. A section that isn't queued is never faster than its free-flow speed: its
-- travel rate is at least 3600 / FFS, and its speed at most FFS.
use mathlib.Core.Path.{◌≡◌, refl, sym, ap, subst, ◌∙◌}
use mathlib.Core.Bool.{Bool, true, false, not, true≢false}
use Prim.Native.Nat.{ℕ, ◌^◌, ◌≤◌, ◌<◌}
use native.Mathlib.Omega.{arith}
use lib.Dec.{T, ltb}
use lib.Ieee.{Float, nan, inf, fin, of_int, lt, le, is_nan}
use lib.Ieee.Bits.{is_true}
use lib.Ieee.Positive.{positive, above, above_of_le}
use borrow.Author.Tests.{le-ltb, ltb-false, ltb-true}
use Rattle.std.specs.Prelude.{if◌then◌else◌}
use Rattle.std.specs.Float.{NotNan}
use Rattle.std.proofs.lemmas.Float.{le_of_not-lt}
use Rattle.sections.specs.declared.table.Row.{Row}
use Rattle.sections.specs.declared.work.Work.{Work}
use Rattle.sections.specs.Real.{real, ◌⊕◌, ◌⊗◌, ◌⊘◌}
use Rattle.sections.specs.Table.{row_of}
use Rattle.sections.specs.Section.{SectionNumbers, Outcome, free, slowed, queued, capacity_of, ratio_of, curve_of, printed_of, under_of, over_of, travel_of, speed_of, work_of, judged_of, answer_of}
use Rattle.sections.specs.Claims.{NoFaster}
use Rattle.sections.specs.Good.{GoodSection}
use Rattle.sections.proofs.FiveRows.{small_within, free_rate, AtRow, at_row}
use Rattle.sections.proofs.Within.{Within, product_within, sum_within}
use Rattle.sections.proofs.Order.{plus_zero, zero_added, grows, falls}
use Rattle.sections.proofs.Ratio.{ratio_within, ratio_above, some_capacity, little_capacity}
use Rattle.sections.proofs.Floor.{never_below, above_one}

-- ---- what is within a bound is a number, and finite
is_number : (k : ℕ) (x : Float) → Within k x → NotNan x
unfolding is_nan
is_number k nan w = absurd w
is_number k (inf s) w = absurd w
is_number k (fin s m e) w = tt

finite : (k : ℕ) (x : Float) → Within k x → T (above x) → T (positive x)
finite k nan w a = absurd w
finite k (inf s) w a = absurd w
finite k (fin true m e) w a = absurd a
finite k (fin false m e) w a = a

module _ (ffs : ℕ) (row : AtRow ffs) where
  abbrev coefficients : Row
  coefficients = row_of ffs

  -- ---- RU is finite
  curve_within : (w : Float) → Within 1 w → Within 996 (curve_of coefficients w)
  unfolding curve_of
  curve_within w h =
      let one : Within 249 (coefficients.a ⊗ w) = product_within 249 1 _ w (omega arith) row.a h in
      let two : Within 498 ((coefficients.a ⊗ w ⊕ coefficients.b) ⊗ w) = product_within 498 1 _ w (omega arith) (sum_within 249 249 _ _ (omega arith) one row.b) h in
      let three : Within 747 (((coefficients.a ⊗ w ⊕ coefficients.b) ⊗ w ⊕ coefficients.c) ⊗ w) =
      product_within 747 1 _ w (omega arith) (sum_within 498 249 _ _ (omega arith) two row.c) h in
      sum_within 747 249 _ _ (omega arith) three row.d

  by_ratio : (p : Float) (t u : Bool) → (u ≡ false → Within 1 p) → Within 996 (if t then real 0 else curve_of coefficients (if u then real 1 else p))
  unfolding of_int
  by_ratio p true u h = small_within 996 (real 0) refl
  by_ratio p false true h = curve_within (real 1) (small_within 1 (real 1) refl)
  by_ratio p false false h = curve_within p (h refl)

  floored_within : (x : Float) (t : Bool) → Within 996 x → Within 996 (if t then real 0 else x)
  unfolding of_int
  floored_within x true h = small_within 996 (real 0) refl
  floored_within x false h = h

  under_within : (p : Float) → (lt (real 1) p ≡ false → Within 1 p) → Within 996 (under_of coefficients p)
  unfolding under_of printed_of
  under_within p h = floored_within _ (lt (printed_of coefficients p) (real 0)) (by_ratio p (lt p coefficients.e) (lt (real 1) p) h)

  -- ---- the travel rate and the speed without a queue
  module _ (ru : Float) (w : Within 996 ru) (up : lt ru (real 0) ≡ false) where
    abbrev delayed : Float
    delayed = (ru ⊕ real 0) ⊕ row.rate

    delay_within : Within 996 (ru ⊕ real 0)
    unfolding of_int
    delay_within = sum_within 996 0 ru plus_zero (omega arith) w (omega arith)

    least : T (le row.rate delayed)
    unfolding of_int
    least = subst (λ (x : Float). T (le x delayed)) row.kept (grows 996 (ru ⊕ real 0) row.rate delay_within (zero_added 996 ru w up) row.above)

    positive_delayed : T (positive delayed)
    positive_delayed =
        finite 1062 delayed (sum_within 996 66 (ru ⊕ real 0) row.rate (omega arith) delay_within row.little) (above_of_le row.rate delayed row.above least)

    travel_is : travel_of ffs ru (real 0) ≡ delayed
    unfolding travel_of
    travel_is = ap (λ (x : Float). (ru ⊕ real 0) ⊕ x) row.is

    rate_least : T (le (free_rate ffs) (travel_of ffs ru (real 0)))
    rate_least = rw (travel_is, row.is) least

    speed_most : T (le (speed_of (travel_of ffs ru (real 0))) (real ffs))
    unfolding speed_of of_int
    speed_most =
        rw (travel_is, row.limit_is)
        (subst (λ (x : Float). T (le (real 3600 ⊘ delayed) x)) row.speed (falls (real 3600) row.rate delayed tt row.above positive_delayed least))

-- ---- a section
module _ (s : SectionNumbers) (good : GoodSection s) (d : ℕ) (D : d ≤ 2 ^ 53) where
  abbrev c : ℕ
  c = capacity_of s

  abbrev ratio : Float
  ratio = ratio_of d c

  abbrev rate : Float
  rate = under_of (row_of s.ffs) ratio

  -- with a queue the ratio is above 1, and RU is the printed rate
  above_with_queue : c < d → lt (real 1) ratio ≡ true
  above_with_queue h = is_true _ (ratio_above d c D (some_capacity s good) (little_capacity s good) h)

  pub queued_as_printed : c < d → rate ≡ printed_of (row_of s.ffs) ratio
  queued_as_printed h = above_one s.ffs good.row ratio (above_with_queue h)

  within_by : (t : Bool) → ltb c d ≡ t → lt (real 1) ratio ≡ false → Within 1 ratio
  within_by true q e = absurd (true≢false (sym (above_with_queue (ltb-true c d q)) ∙ e))
  within_by false q e = ratio_within d c D (some_capacity s good) (little_capacity s good) (ltb-false c d q)

  rate_within : Within 996 rate
  rate_within = under_within s.ffs (at_row s.ffs good.row) ratio (within_by (ltb c d) refl)

  zero_or_more : le (real 0) rate ≡ true
  unfolding of_int is_nan
  zero_or_more =
      is_true _ (le_of_not-lt rate (real 0) (is_number 996 rate rate_within) tt (subst (λ (t : Bool). T (not t)) (sym (never_below (row_of s.ffs) ratio)) tt))

  module _ (room : d ≤ c) where
    no_over : over_of s.length d c ratio ≡ real 0
    unfolding over_of
    no_over = rw (le-ltb c d room)

    abbrev travel : Float
    travel = travel_of s.ffs rate (over_of s.length d c ratio)

    -- TR is at least 3600 / FFS
    pub travel_at_least : T (le (free_rate s.ffs) travel)
    travel_at_least = rw no_over (rate_least s.ffs (at_row s.ffs good.row) rate rate_within (never_below (row_of s.ffs) ratio))

    speed_at_most : T (le (speed_of travel) (real s.ffs))
    speed_at_most = rw no_over (speed_most s.ffs (at_row s.ffs good.row) rate rate_within (never_below (row_of s.ffs) ratio))

  -- an answer, by whether the section is queued and whether it is free
  abbrev answer_by : Bool → Bool → Work → Outcome
  answer_by t u w = if t then queued w.under w.over w.speed w.density else if u then free w.speed w.density else slowed w.under w.speed w.density

  answered : (t u : Bool) (w : Work) → le (real 0) w.under ≡ true → (t ≡ false → le w.speed (real s.ffs) ≡ true) → NoFaster s (answer_by t u w)
  unfolding of_int le
  answered true u w r v = record { rate = r; speed = λ q. absurd (true≢false q) }
  answered false true w r v = record { rate = refl; speed = λ q. v refl }
  answered false false w r v = record { rate = r; speed = λ q. v refl }

  pub no_faster : NoFaster s (answer_of s d)
  unfolding answer_of judged_of work_of
  no_faster = answered (ltb c d) _ (work_of (row_of s.ffs) s c d) zero_or_more (λ e. is_true _ (speed_at_most (ltb-false c d e)))
