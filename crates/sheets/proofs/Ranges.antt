-- The ranges of the layouts: the numbers in them have at most 32 bits.
use mathlib.Core.Path.{◌≡◌, refl}
use mathlib.Core.Bool.{Bool, true, false}
use Prim.Native.Nat.{ℕ, zero, suc, ◌-◌, ◌/◌, ◌%◌, ◌^◌, ◌≤◌, ◌<◌, min}
use mathlib.Core.List.{List, [], ◌∷◌}
use native.Mathlib.Omega.{arith}
use lib.ListN.{length, get_or}
use lib.Dec.{ltb, eqb}
use borrow.Author.Tests.{ltb-true, ltb-false, eqb-true, le-ltb, lt-ltb, eq-eqb}
use Rattle.std.specs.Prelude.{if◌then◌else◌}
use Rattle.numbers.specs.declared.Range.{Range}
use Rattle.numbers.proofs.Choices.{choose}
use Rattle.sheets.specs.declared.Layout.{Layout}
use Rattle.sheets.specs.declared.Layout.TheVariants.{Road, Period, FirstPeriod}
use Rattle.sheets.specs.Layout.{◌to◌, no_range, segment_table, road_table, road_range, same_segments, entry_table, lanes_of, period_range, first_range, range_of, count_of}

-- its numbers have at most 32 bits
abbrev Fits : Range → Type 0
Fits r = r.high < 2 ^ 32

abbrev AllOf : (Range → Type 0) → List Range → Type 0
AllOf P [] = Unit {0}
AllOf P (r ∷ rs) = P r × AllOf P rs

-- what holds of each range of the tables holds of the range of a place
module _ (P : Range → Type 0) where
  entry : (rs : List Range) (k : ℕ) → AllOf P rs → k < length rs → P (get_or rs k no_range)
  entry [] k e h = absurd (omega arith)
  entry (r ∷ rs) zero e h = e.0
  entry (r ∷ rs) (suc k) e h = entry rs k e.1 (omega arith)

  in_road : AllOf P road_table → AllOf P segment_table → (k : ℕ) → P (road_range k)
  unfolding road_range
  in_road a b k =
      choose P (ltb k 4) (get_or road_table k no_range) (get_or segment_table ((k - 4) % 7) no_range)
      (λ t. entry road_table k a (ltb-true _ _ t)) (λ t. entry segment_table ((k - 4) % 7) b (omega arith))

  in_period : (ns : ℕ) (road : List ℕ) (k : ℕ) → P (same_segments ns) → P (0 to 20000)
      → (3 ≤ k → AllOf P (entry_table (lanes_of road ((k - 3) / 3)))) → P (period_range ns road k)
  unfolding period_range
  in_period ns road k a b c =
      let table = entry_table (lanes_of road ((k - 3) / 3)) in
      choose P (eqb k 0) (same_segments ns) (if ltb k 3 then 0 to 20000 else get_or table ((k - 3) % 3) no_range) (λ t. a)
      (λ t. choose P (ltb k 3) (0 to 20000) (get_or table ((k - 3) % 3) no_range) (λ u. b)
      (λ u. entry table ((k - 3) % 3) (c (ltb-false k 3 u)) (omega arith)))

  in_first : (ns : ℕ) (road : List ℕ) (k : ℕ) → P (same_segments ns) → P (0 to 20000) → P (0 to 10000) → P (first_range ns road k)
  unfolding first_range
  in_first ns road k a b c =
      choose P (ltb k 3) (period_range ns road k) (0 to 10000) (λ t. in_period ns road k a b (λ l. absurd (omega (arith, ltb-true k 3 t)))) (λ t. c)

road_fits : (k : ℕ) → Fits (road_range k)
road_fits =
    in_road Fits (omega arith, (omega arith, (omega arith, (omega arith, tt))))
    (omega arith, (omega arith, (omega arith, (omega arith, (omega arith, (omega arith, (omega arith, tt)))))))

-- a layout whose ranges come from a road asks that its lanes have at most 32 bits
abbrev pub LanesFit : Layout → List ℕ → Type 0
LanesFit (Road ns) road = Unit {0}
LanesFit (Period ns) road = (i : ℕ) → i < min ns 64 → lanes_of road i < 2 ^ 32
LanesFit (FirstPeriod ns) road = Unit {0}

-- then the numbers of its ranges have
pub fits : (l : Layout) (road : List ℕ) → LanesFit l road → (k : ℕ) → k < count_of l → (range_of l road k).high < 2 ^ 32
unfolding range_of count_of
fits (Road ns) road lanes k h = road_fits k
fits (Period ns) road lanes k h =
    in_period Fits ns road k (omega arith) (omega arith) (λ l. (omega arith, (omega arith, (lanes ((k - 3) / 3) (omega arith), tt))))
fits (FirstPeriod ns) road lanes k h = in_first Fits ns road k (omega arith) (omega arith) (omega arith)

-- a layout has some numbers, and no more than a row
pub count_some : (l : Layout) → 0 < count_of l
unfolding count_of
count_some (Road ns) = omega arith
count_some (Period ns) = omega arith
count_some (FirstPeriod ns) = omega arith

pub count_most : (l : Layout) → count_of l ≤ 452
unfolding count_of
count_most (Road ns) = omega arith
count_most (Period ns) = omega arith
count_most (FirstPeriod ns) = omega arith

-- the choices, by the code's tests
pub road_first : (k : ℕ) → k < 4 → road_range k ≡ get_or road_table k no_range
unfolding road_range
road_first k h = rw (lt-ltb _ _ h)

pub road_later : (k : ℕ) → 4 ≤ k → road_range k ≡ get_or segment_table ((k - 4) % 7) no_range
unfolding road_range
road_later k h = rw (le-ltb _ _ h)

differs : (k : ℕ) (t : Bool) → eqb k 0 ≡ t → (k ≡ 0 → ⊥) → t ≡ false
differs k true e h = absurd (h (eqb-true _ _ e))
differs k false e h = refl

pub period_first : (ns : ℕ) (road : List ℕ) (k : ℕ) → k ≡ 0 → period_range ns road k ≡ same_segments ns
unfolding period_range
period_first ns road k h = rw (eq-eqb _ _ h)

pub period_flow : (ns : ℕ) (road : List ℕ) (k : ℕ) → (k ≡ 0 → ⊥) → k < 3 → period_range ns road k ≡ 0 to 20000
unfolding period_range
period_flow ns road k n h = rw (differs k (eqb k 0) refl n, lt-ltb _ _ h)

pub period_later : (ns : ℕ) (road : List ℕ) (k : ℕ) → 3 ≤ k
    → period_range ns road k ≡ get_or (entry_table (lanes_of road ((k - 3) / 3))) ((k - 3) % 3) no_range
unfolding period_range
period_later ns road k h = rw (differs k (eqb k 0) refl (λ z. omega arith), le-ltb _ _ h)

pub first_start : (ns : ℕ) (road : List ℕ) (k : ℕ) → k < 3 → first_range ns road k ≡ period_range ns road k
unfolding first_range
first_start ns road k h = rw (lt-ltb _ _ h)

pub first_later : (ns : ℕ) (road : List ℕ) (k : ℕ) → 3 ≤ k → first_range ns road k ≡ 0 to 10000
unfolding first_range
first_later ns road k h = rw (le-ltb _ _ h)

-- the numbers of an entry: ramp demand and meter rate, and open lanes
pub entry_flow : (n j : ℕ) → j < 2 → get_or (entry_table n) j no_range ≡ 0 to 10000
entry_flow n zero h = refl
entry_flow n (suc zero) h = refl
entry_flow n (suc (suc j)) h = absurd (omega arith)

pub entry_open : (n j : ℕ) → 2 ≤ j → j < 3 → get_or (entry_table n) j no_range ≡ 1 to n
entry_open n zero l h = absurd (omega arith)
entry_open n (suc zero) l h = absurd (omega arith)
entry_open n (suc (suc zero)) l h = refl
entry_open n (suc (suc (suc j))) l h = absurd (omega arith)
