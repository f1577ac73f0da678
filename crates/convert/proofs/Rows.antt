-- A row in the other layout, place by place: it is a row of that layout, and converted back it is the row again.
use Prim.Native.Nat.{ℕ, ◌+◌, ◌-◌, ◌*◌, ◌/◌, ◌%◌, ◌≤◌, ◌<◌, min}
use mathlib.Core.Path.{◌≡◌, refl, sym, ap, ◌∙◌}
use mathlib.Core.List.{List}
use native.Mathlib.Nat.{zero-add}
use native.Mathlib.Omega.{arith}
use lib.ListN.{length, get_or}
use lib.Dec.{ltb}
use borrow.Author.Tests.{ltb-true, ltb-false}
use Rattle.std.specs.Prelude.{if◌then◌else◌}
use Rattle.numbers.specs.Field.{In}
use Rattle.numbers.proofs.Choices.{choose}
use Rattle.sheets.specs.declared.Layout.{Layout}
use Rattle.sheets.specs.declared.Layout.TheVariants.{Period, FirstPeriod}
use Rattle.sheets.specs.Layout.{◌to◌, lanes_of, period_range, first_range, range_of, count_of, RowOf}
use Rattle.sheets.proofs.Ranges.{period_later, entry_flow, entry_open, first_start, first_later}
use Rattle.conditions.proofs.Values.{values_at, values_are, values_length}
use Rattle.convert.specs.declared.Way.{Way}
use Rattle.convert.specs.declared.Way.TheVariants.{ToSecond, ToFirst}
use Rattle.convert.specs.Sheet.{number_in_second, number_in_first, number_to, layout_from, layout_to, converted_row}
use Rattle.convert.specs.Statement.{NoneClosed, back_of}

-- ---- the numbers, by the place
-- what holds of each number that may stand at a place of the second layout holds of the one that does; and so of the first
pub by_second : (P : ℕ → Type 0) (k start flow last : ℕ) → (k < 3 → P start) → (3 ≤ k → (k - 3) % 3 < 2 → P flow) → (3 ≤ k → 2 ≤ (k - 3) % 3 → P last)
    → P (if ltb k 3 then start else if ltb ((k - 3) % 3) 2 then flow else last)
by_second P k start flow last a b c =
    choose P (ltb k 3) start (if ltb ((k - 3) % 3) 2 then flow else last) (λ t. a (ltb-true k 3 t))
    (λ t. choose P (ltb ((k - 3) % 3) 2) flow last (λ u. b (ltb-false k 3 t) (ltb-true _ _ u)) (λ u. c (ltb-false k 3 t) (ltb-false _ _ u)))

pub by_first : (P : ℕ → Type 0) (k start flow : ℕ) → (k < 3 → P start) → (3 ≤ k → P flow) → P (if ltb k 3 then start else flow)
by_first P k start flow a b = choose P (ltb k 3) start flow (λ t. a (ltb-true k 3 t)) (λ t. b (ltb-false k 3 t))

-- what is known of a road that was read: NS, and that each of its segments has lanes
pub record Laned (road : List ℕ) : Type 0 where
  pub segments : (1 ≤ get_or road 0 0) × (get_or road 0 0 ≤ 64)
  pub lanes : (i : ℕ) → i < get_or road 0 0 → (1 ≤ lanes_of road i) × (lanes_of road i ≤ 8)

-- the number at a place of a row is in the range of its place
pub at_place : (l : Layout) (road row : List ℕ) → RowOf l road row → (k : ℕ) → k < count_of l → In (range_of l road k) (get_or row k 0)
at_place l road row r k h =
    let e : 0 + k ≡ k = zero-add k in
    rw e at (r.1 k (omega (arith, r.0)))

-- each number is in the range of its place in the other layout
module _ (road : List ℕ) where
  second_in : Laned road → (first : List ℕ) → RowOf (FirstPeriod (get_or road 0 0)) road first → (k : ℕ) → k < count_of (Period (get_or road 0 0))
      → In (range_of (Period (get_or road 0 0)) road k) (number_in_second road first k)
  unfolding range_of count_of number_in_second
  second_in laned first r k h =
      let ns = get_or road 0 0 in
      let i = (k - 3) / 3 in
      let j = (k - 3) % 3 in
      let at : (m : ℕ) → m < 3 + 2 * min ns 64 → In (first_range ns road m) (get_or first m 0) = at_place (FirstPeriod ns) road first r in
      let flow : (m : ℕ) → 3 ≤ m → m < 3 + 2 * min ns 64 → In (0 to 10000) (get_or first m 0) = λ m l h. rw (first_later ns road m l) at (at m h) in
      by_second (λ v. In (period_range ns road k) v) k _ _ _
      (λ l. rw (first_start ns road k l) at (at k (omega arith)))
      (λ l small. rw (period_later ns road k l, entry_flow (lanes_of road i) j small) (flow _ (omega arith) (omega arith)))
      (λ l last. rw (period_later ns road k l, entry_open (lanes_of road i) j last (omega arith)) ((laned.lanes i (omega arith)).0, omega arith))

  first_in : (second : List ℕ) → RowOf (Period (get_or road 0 0)) road second → (k : ℕ) → k < count_of (FirstPeriod (get_or road 0 0))
      → In (range_of (FirstPeriod (get_or road 0 0)) road k) (number_in_first second k)
  unfolding range_of count_of number_in_first
  first_in second r k h =
      let ns = get_or road 0 0 in
      let i = (k - 3) / 2 in
      let j = (k - 3) % 2 in
      let m = 3 + 3 * i + j in
      let at : (m : ℕ) → m < 3 + 3 * min ns 64 → In (period_range ns road m) (get_or second m 0) = at_place (Period ns) road second r in
      let q : (m - 3) % 3 < 2 = omega arith in
      by_first (λ v. In (first_range ns road k) v) k _ _
      (λ l. rw (first_start ns road k l) (at k (omega arith)))
      (λ l. rw (first_later ns road k l) (rw (period_later ns road m (omega arith), entry_flow (lanes_of road ((m - 3) / 3)) ((m - 3) % 3) q) at (at m (omega arith))))

pub converted_length : (way : Way) (road row : List ℕ) → length (converted_row way road row) ≡ count_of (layout_to way (get_or road 0 0))
unfolding converted_row
converted_length way road row = values_length (number_to way road row) (count_of (layout_to way (get_or road 0 0)))

pub converted_at : (way : Way) (road row : List ℕ) (k : ℕ) → k < count_of (layout_to way (get_or road 0 0)) → get_or (converted_row way road row) k 0 ≡ number_to way road row k
unfolding converted_row
converted_at way road row k h = values_at (number_to way road row) (count_of (layout_to way (get_or road 0 0))) k 0 h

number_in : (way : Way) (road : List ℕ) → Laned road → (row : List ℕ) → RowOf (layout_from way (get_or road 0 0)) road row
    → (k : ℕ) → k < count_of (layout_to way (get_or road 0 0)) → In (range_of (layout_to way (get_or road 0 0)) road k) (number_to way road row k)
number_in ToSecond road laned row r k h = second_in road laned row r k h
number_in ToFirst road laned row r k h = first_in road row r k h

-- the row in the other layout is one of it
pub converted_row_lem : (way : Way) (road : List ℕ) → Laned road → (row : List ℕ) → RowOf (layout_from way (get_or road 0 0)) road row
    → RowOf (layout_to way (get_or road 0 0)) road (converted_row way road row)
converted_row_lem way road laned row r =
    let l = layout_to way (get_or road 0 0) in (
      converted_length way road row,
      λ j h.
          let k : j < count_of l = omega (arith, converted_length way road row) in
          let e : 0 + j ≡ j = zero-add j in
          rw (e, converted_at way road row j k) (number_in way road laned row r j k),
    )

-- with every lane open
pub converted_open : (road first : List ℕ) → Laned road → NoneClosed road (converted_row ToSecond road first)
unfolding count_of number_in_second
converted_open road first laned i h =
    let k : 3 + 3 * i + 2 < 3 + 3 * min (get_or road 0 0) 64 = omega (arith, laned.segments.1) in
    let e : (3 + 3 * i + 2 - 3) / 3 ≡ i = omega arith in
    converted_at ToSecond road first (3 + 3 * i + 2) k
    ∙ by_second (λ v. v ≡ lanes_of road i) (3 + 3 * i + 2) _ _ _ (λ l. absurd (omega arith)) (λ l small. absurd (omega arith)) (λ l last. ap (lanes_of road) e)

-- ---- and converted back it is the row again
number_in_first_again : (road first : List ℕ) (k : ℕ) → k < count_of (FirstPeriod (get_or road 0 0)) → number_in_first (converted_row ToSecond road first) k ≡ get_or first k 0
unfolding count_of number_in_first number_in_second
number_in_first_again road first k h =
    let m = 3 + 3 * ((k - 3) / 2) + (k - 3) % 2 in
    by_first (λ v. v ≡ get_or first k 0) k _ _
    (λ l. converted_at ToSecond road first k (omega arith)
    ∙ by_second (λ v. v ≡ get_or first k 0) k _ _ _ (λ a. refl) (λ a b. absurd (omega arith)) (λ a b. absurd (omega arith)))
    (λ l. converted_at ToSecond road first m (omega arith)
    ∙ by_second (λ v. v ≡ get_or first k 0) m _ _ _ (λ a. absurd (omega arith))
    (λ a b. let e : 3 + 2 * ((m - 3) / 3) + (m - 3) % 3 ≡ k = omega arith in ap (λ (x : ℕ). get_or first x 0) e)
    (λ a b. absurd (omega arith)))

number_in_second_again : (road second : List ℕ) → NoneClosed road second → (k : ℕ) → k < count_of (Period (get_or road 0 0))
    → number_in_second road (converted_row ToFirst road second) k ≡ get_or second k 0
unfolding count_of number_in_second number_in_first
number_in_second_again road second all k h =
    let i = (k - 3) / 3 in
    let m = 3 + 2 * i + (k - 3) % 3 in
    by_second (λ v. v ≡ get_or second k 0) k _ _ _
    (λ l. converted_at ToFirst road second k (omega arith) ∙ by_first (λ v. v ≡ get_or second k 0) k _ _ (λ a. refl) (λ a. absurd (omega arith)))
    (λ l small. converted_at ToFirst road second m (omega arith)
    ∙ by_first (λ v. v ≡ get_or second k 0) m _ _ (λ a. absurd (omega arith))
    (λ a. let e : 3 + 3 * ((m - 3) / 2) + (m - 3) % 2 ≡ k = omega arith in ap (λ (x : ℕ). get_or second x 0) e))
    (λ l last. let e : 3 + 3 * i + 2 ≡ k = omega arith in sym (all i (omega arith)) ∙ ap (λ (x : ℕ). get_or second x 0) e)

first_again : (road first : List ℕ) → RowOf (FirstPeriod (get_or road 0 0)) road first → converted_row ToFirst road (converted_row ToSecond road first) ≡ first
unfolding converted_row
first_again road first r =
    values_are (number_to ToFirst road (converted_row ToSecond road first)) (count_of (FirstPeriod (get_or road 0 0))) first 0 r.0 (number_in_first_again road first)

second_again : (road second : List ℕ) → RowOf (Period (get_or road 0 0)) road second → NoneClosed road second
    → converted_row ToSecond road (converted_row ToFirst road second) ≡ second
unfolding converted_row
second_again road second r all =
    values_are (number_to ToSecond road (converted_row ToFirst road second)) (count_of (Period (get_or road 0 0))) second 0 r.0 (number_in_second_again road second all)

-- no lane is closed in what is converted back
abbrev pub Open : Way → (road row : List ℕ) → Type 0
Open ToSecond road row = Unit {0}
Open ToFirst road row = NoneClosed road row

pub row_again : (way : Way) (road row : List ℕ) → RowOf (layout_from way (get_or road 0 0)) road row → Open way road row
    → converted_row (back_of way) road (converted_row way road row) ≡ row
row_again ToSecond road row r o = first_again road row r
row_again ToFirst road row r o = second_again road row r o

pub converted_back_open : (way : Way) (road : List ℕ) → Laned road → (row : List ℕ) → Open (back_of way) road (converted_row way road row)
converted_back_open ToSecond road laned row = converted_open road row laned
converted_back_open ToFirst road laned row = tt
