-- The first segment that has a lane closed: a sheet is converted back exactly if there is none.
use Prim.Native.Nat.{ℕ, zero, suc, ◌+◌, ◌-◌, ◌*◌, ◌/◌, ◌%◌, ◌≤◌, ◌<◌}
use mathlib.Core.Bool.{Bool, true, false}
use mathlib.Core.Path.{◌≡◌, refl}
use mathlib.Core.List.{List}
use native.Mathlib.Omega.{arith}
use lib.ListN.{get_or}
use lib.Dec.{ltb}
use borrow.Author.Tests.{ltb-true, ltb-false, lt-ltb, le-ltb}
use Rattle.std.specs.Prelude.{if◌then◌else◌, Option, Some, None, MatchOption}
use Rattle.numbers.specs.Number.{Bytes}
use Rattle.numbers.specs.Row.{ReadRow, RefusedAt}
use Rattle.sheets.specs.declared.Layout.TheVariants.{Period}
use Rattle.sheets.specs.Layout.{lanes_of, opened_of, range_of, count_of, RowOf}
use Rattle.sheets.specs.Read.{read_period}
use Rattle.sheets.proofs.Ranges.{period_first, period_later, entry_open}
use Rattle.sheets.proofs.Round.{row_first, period_ranged}
use Rattle.convert.specs.declared.Way.{Way}
use Rattle.convert.specs.declared.Way.TheVariants.{ToSecond, ToFirst}
use Rattle.convert.specs.Sheet.{layout_from, converted_row, first_closed, open_lanes_place, converted_from}
use Rattle.convert.specs.Statement.{ClosedLane}
use Rattle.convert.proofs.Rows.{Laned, at_place, Open}

-- all of so many segments from i on have their lanes open
abbrev Whole : (road second : List ℕ) (left i : ℕ) → Type 0
Whole road second left i = (j : ℕ) → i ≤ j → j < i + left → lanes_of road j ≤ opened_of second j

module _ (road second : List ℕ) where
  -- the first of so many segments from i on that has a lane closed
  record Found (i n : ℕ) : Type 0 where
    from : i ≤ n
    closed : opened_of second n < lanes_of road n
    before : (j : ℕ) → i ≤ j → j < n → lanes_of road j ≤ opened_of second j

  before_or_here : (i j : ℕ) → i ≤ j → lanes_of road i ≤ opened_of second i → (i + 1 ≤ j → lanes_of road j ≤ opened_of second j)
      → (t : Bool) → ltb i j ≡ t → lanes_of road j ≤ opened_of second j
  before_or_here i j l here rest true t = rest (omega (arith, ltb-true i j t))
  before_or_here i j l here rest false t =
      let e : i ≡ j = omega (arith, ltb-false i j t) in
      rw e at here

  closed_step : (left i : ℕ) → (t : Bool) → ltb (opened_of second i) (lanes_of road i) ≡ t
      → (i + 1 + left ≤ first_closed road second left (i + 1) → Whole road second left (i + 1))
      → i + suc left ≤ (if t then i else first_closed road second left (i + 1)) → Whole road second (suc left) i
  closed_step left i true t ih h j l m = absurd (omega arith)
  closed_step left i false t ih h j l m =
      before_or_here i j l (ltb-false _ _ t) (λ k. ih (omega arith) j k (omega arith)) (ltb i j) refl

  none_found : (left i : ℕ) → i + left ≤ first_closed road second left i → Whole road second left i
  unfolding first_closed
  none_found zero i h = λ j l m. absurd (omega arith)
  none_found (suc left) i h = closed_step left i (ltb (opened_of second i) (lanes_of road i)) refl (none_found left (i + 1)) h

  -- and where n is the first, it is n
  none_before : (left i n : ℕ) → i ≤ n → n < i + left → opened_of second n < lanes_of road n → ((j : ℕ) → i ≤ j → j < n → lanes_of road j ≤ opened_of second j)
      → first_closed road second left i ≡ n
  unfolding first_closed
  none_before zero i n h inside closed before = absurd (omega arith)
  none_before (suc left) i n h inside closed before =
      by (ltb i n) refl (λ l. none_before left (i + 1) n (omega arith) (omega arith) closed (λ j k m. before j (omega arith) m))
    where
      by : (t : Bool) → ltb i n ≡ t → (i < n → first_closed road second left (i + 1) ≡ n)
          → (if ltb (opened_of second i) (lanes_of road i) then i else first_closed road second left (i + 1)) ≡ n
      by true t ih =
          let l = ltb-true i n t in
          rw (le-ltb (opened_of second i) (lanes_of road i) (before i (omega arith) l)) (ih l)
      by false t ih =
          let e : n ≡ i = omega (arith, ltb-false i n t) in
          rw (lt-ltb (opened_of second i) (lanes_of road i) (rw e at closed), e)

  none_there : (left i : ℕ) → Whole road second left i → first_closed road second left i ≡ i + left
  unfolding first_closed
  none_there zero i h = omega arith
  none_there (suc left) i h =
      let here = le-ltb (opened_of second i) (lanes_of road i) (h i (omega arith) (omega arith)) in
      rw here (omega (arith, none_there left (i + 1) (λ j l m. h j (omega arith) (omega arith))))

  -- and where there is one, none is closed before it
  found_step : (left i : ℕ) (t : Bool) → ltb (opened_of second i) (lanes_of road i) ≡ t
      → (first_closed road second left (i + 1) < i + 1 + left → Found (i + 1) (first_closed road second left (i + 1)))
      → (if t then i else first_closed road second left (i + 1)) < i + suc left → Found i (if t then i else first_closed road second left (i + 1))
  found_step left i true t ih h = record { from = omega arith; closed = ltb-true _ _ t; before = λ j l m. absurd (omega arith) }
  found_step left i false t ih h =
      let f = ih (omega arith) in
      record {
        from = omega (arith, f.from);
        closed = f.closed;
        before = λ j l m. before_or_here i j l (ltb-false _ _ t) (λ k. f.before j k m) (ltb i j) refl;
      }

  found : (left i : ℕ) → first_closed road second left i < i + left → Found i (first_closed road second left i)
  unfolding first_closed
  found zero i h = absurd (omega arith)
  found (suc left) i h = found_step left i (ltb (opened_of second i) (lanes_of road i)) refl (found left (i + 1)) h

-- a search over the segments in order finds it
pub first_is : (road second : List ℕ) (ns : ℕ) (r : Option ℕ)
    → MatchOption r ((k : ℕ) → 0 ≤ k → k < ns → lanes_of road k ≤ opened_of second k)
    (λ i. (0 ≤ i) × (i < ns) × (opened_of second i < lanes_of road i) × ((k : ℕ) → 0 ≤ k → k < i → lanes_of road k ≤ opened_of second k))
    → MatchOption r (first_closed road second ns 0 ≡ ns) (λ i. (i < ns) × (first_closed road second ns 0 ≡ i))
first_is road second ns None h = omega (arith, none_there road second ns 0 (λ j l m. h j l (omega arith)))
first_is road second ns (Some i) h = (h.1, none_before road second ns 0 i h.0 (omega (arith, h.1)) h.2 h.3)

-- a period's road has at most 64 segments
pub period_few : (road second : List ℕ) → RowOf (Period (get_or road 0 0)) road second → get_or road 0 0 ≤ 64
unfolding range_of count_of
period_few road second r =
    let h = rw (period_first (get_or road 0 0) road 0 refl) at (at_place (Period (get_or road 0 0)) road second r 0 (omega arith)) in
    omega (arith, h.0, h.1)

-- an open-lane number is at most N
opened_most : (road second : List ℕ) → get_or road 0 0 ≤ 64 → RowOf (Period (get_or road 0 0)) road second → (i : ℕ) → i < get_or road 0 0 → opened_of second i ≤ lanes_of road i
unfolding range_of count_of
opened_most road second few r i h =
    let ns = get_or road 0 0 in
    let k = 3 + 3 * i + 2 in
    let e : (k - 3) / 3 ≡ i = omega arith in
    let a = at_place (Period ns) road second r k (omega arith) in
    let b = rw (period_later ns road k (omega arith), entry_open (lanes_of road ((k - 3) / 3)) ((k - 3) % 3) (omega arith) (omega arith)) at a in
    rw e at b.1

-- ---- what a sheet that was read comes to
converted_by_lem : (road second row : List ℕ) (used n place : ℕ) (t : Bool) → (if t then RefusedAt 16 place else ReadRow (converted_row ToFirst road second) used) ≡ ReadRow row n
    → (row ≡ converted_row ToFirst road second) × (n ≡ used) × (t ≡ false)
converted_by_lem road second row used n place true e = absurd (let z : ◌≡◌ {A = ℕ} 0 1 = cc in omega arith)
converted_by_lem road second row used n place false e = (cc, cc, refl)

pub converted_is : (way : Way) (road from : List ℕ) (used : ℕ) (row : List ℕ) (n : ℕ) → converted_from way road from used ≡ ReadRow row n
    → (row ≡ converted_row way road from) × (n ≡ used)
unfolding converted_from
converted_is ToSecond road from used row n e = (cc, cc)
converted_is ToFirst road from used row n e =
    let c = first_closed road from (get_or road 0 0) 0 in
    let t = converted_by_lem road from row used n _ (ltb c (get_or road 0 0)) e in
    (t.0, t.1)

-- it is converted exactly if no lane is closed
pub converted_open_back : (way : Way) (road from : List ℕ) → Laned road → RowOf (layout_from way (get_or road 0 0)) road from → (used : ℕ) (row : List ℕ) (n : ℕ)
    → converted_from way road from used ≡ ReadRow row n → Open way road from
unfolding converted_from
converted_open_back ToSecond road from laned r used row n e = tt
converted_open_back ToFirst road from laned r used row n e =
    let c = first_closed road from (get_or road 0 0) 0 in
    let t = converted_by_lem road from row used n _ (ltb c (get_or road 0 0)) e in
    let l = ltb-false c (get_or road 0 0) t.2 in
    λ i h. omega (arith, opened_most road from laned.segments.1 r i h, none_found road from (get_or road 0 0) 0 (omega arith) i (omega arith) (omega arith))

pub converted_read : (way : Way) (road from : List ℕ) → Open way road from → (used : ℕ) → converted_from way road from used ≡ ReadRow (converted_row way road from) used
unfolding converted_from
converted_read ToSecond road from o used = refl
converted_read ToFirst road from o used =
    let ns = get_or road 0 0 in
    let e : first_closed road from ns 0 ≡ 0 + ns = none_there road from ns 0 (λ j l m. omega (arith, o j (omega arith))) in
    rw (le-ltb (first_closed road from ns 0) ns (omega (arith, e)))

-- ---- what 16 tells
refused_by_closed : (road second : List ℕ) (used number offset place : ℕ) (t : Bool)
    → (if t then RefusedAt 16 place else ReadRow (converted_row ToFirst road second) used) ≡ RefusedAt number offset → (t ≡ true) × (number ≡ 16) × (offset ≡ place)
refused_by_closed road second used number offset place true e = (refl, cc, cc)
refused_by_closed road second used number offset place false e = absurd (let z : ◌≡◌ {A = ℕ} 0 1 = cc in omega arith)

pub closed_lane : (road bytes row : List ℕ) (used number offset : ℕ) → Bytes bytes → read_period road bytes ≡ ReadRow row used
    → converted_from ToFirst road row used ≡ RefusedAt number offset → (number ≡ 16) × ClosedLane road bytes row offset
unfolding converted_from read_period open_lanes_place count_of
closed_lane road bytes row used number offset by e r =
    let ns = get_or road 0 0 in
    let n = first_closed road row ns 0 in
    let c = refused_by_closed road row used number offset _ (ltb n ns) r in
    let p = period_ranged road bytes row used e in
    let inside : n < ns = ltb-true n ns c.0 in
    let f = found road row ns 0 (omega arith) in
    let few : ns ≤ 64 = period_few road row p.0 in
    let there = row_first (Period ns) road bytes row used (3 + 3 * n + 2) by e (omega arith) in (
      c.1,
      record {
        segment = n;
        inside = inside;
        closed = f.closed;
        before = λ i h. omega (arith, f.before i (omega arith) h, opened_most road row few p.0 i (omega arith));
        there = rw c.2 there;
      },
    )

-- only a closed lane refuses a sheet that was read
abbrev pub NotClosed : Way → (number : ℕ) → Type 0
NotClosed ToSecond number = Unit {0}
NotClosed ToFirst number = number ≡ 16 → ⊥

pub never_refused : (way : Way) (road from : List ℕ) (used number offset : ℕ) → NotClosed way number → converted_from way road from used ≡ RefusedAt number offset → ⊥
unfolding converted_from
never_refused ToSecond road from used number offset n e = let z : ◌≡◌ {A = ℕ} 0 1 = cc in omega arith
never_refused ToFirst road from used number offset n e =
    let c = first_closed road from (get_or road 0 0) 0 in
    n (refused_by_closed road from used number offset _ (ltb c (get_or road 0 0)) e).1
