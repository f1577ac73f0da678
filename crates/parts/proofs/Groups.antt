-- The test of a row's numbers, group by group: a start, then the numbers of each segment.
use mathlib.Core.Path.{◌≡◌, sym, ◌∙◌}
use mathlib.Core.Bool.{Bool, ◌&&◌, and-true, and_assoc}
use mathlib.Core.List.{List}
use Prim.Native.Nat.{ℕ, zero, suc, ◌+◌, ◌-◌, ◌*◌, ◌/◌, ◌%◌, ◌<◌, min}
use native.Mathlib.Nat.{add-zero, add-suc, add_assoc, mul-suc, mul-zero}
use native.Mathlib.Omega.{arith}
use lib.ListN.{get_or}
use Rattle.numbers.specs.declared.Range.{Range}
use Rattle.sheets.specs.Layout.{no_range, segment_table, road_table, road_range, entry_table, lanes_of, period_range, range_of, count_of}
use Rattle.parts.specs.Allowed.{within, all_below, allowed, road_allowed, period_allowed}
use Rattle.sheets.proofs.Ranges.{road_later, period_later}

-- p over k places, then over n more, which q tests by their place in the group
all_after : (p q : ℕ → Bool) (k n : ℕ) → ((j : ℕ) → j < n → q j ≡ p (k + j)) → (all_below p k && all_below q n) ≡ all_below p (k + n)
unfolding all_below
all_after p q k zero h = rw (and-true, add-zero)
all_after p q k (suc n) h = rw (add-suc, ← all_after p q k n (λ j l. h j (omega arith)), ← h n (omega arith), and_assoc)

module _ (row : List ℕ) where
  -- the first n places, each by its range
  abbrev pub each_place : (ℕ → Range) → ℕ → Bool
  each_place range n = all_below (λ k. within (range k) (get_or row k 0)) n

  module _ (group : ℕ → ℕ → Range) (a b : ℕ) where
    -- the b numbers of group i, after a start of a numbers
    abbrev pub in_group : ℕ → Bool
    in_group i = all_below (λ j. within (group i j) (get_or row (a + b * i + j) 0)) b

    pub groups : (range : ℕ → Range) → ((i j : ℕ) → j < b → range (a + b * i + j) ≡ group i j)
        → (n : ℕ) → (each_place range a && all_below in_group n) ≡ each_place range (a + b * n)
    unfolding all_below
    groups range same zero = rw (and-true, mul-zero, add-zero)
    groups range same (suc n) =
        let p : ℕ → Bool = λ k. within (range k) (get_or row k 0) in
        let q : ℕ → Bool = λ j. within (group n j) (get_or row (a + b * n + j) 0) in
        sym (and_assoc (each_place range a) (all_below in_group n) (in_group n))
        ∙ rw (groups range same n, all_after p q (a + b * n) b (λ j h. rw (same n j h)), mul-suc, add_assoc)

-- the range of a segment's number, and of an entry's
abbrev pub of_segment : ℕ → Range
of_segment j = get_or segment_table j no_range

pub segment_range_at : (i j : ℕ) → j < 7 → road_range (4 + 7 * i + j) ≡ of_segment j
segment_range_at i j h =
    let e : (4 + 7 * i + j - 4) % 7 ≡ j = omega arith in
    road_later _ (omega arith) ∙ rw e

abbrev pub of_entry : (road : List ℕ) (i : ℕ) → ℕ → Range
of_entry road i j = get_or (entry_table (lanes_of road i)) j no_range

pub entry_range_at : (ns : ℕ) (road : List ℕ) (i j : ℕ) → j < 3 → period_range ns road (3 + 3 * i + j) ≡ of_entry road i j
entry_range_at ns road i j h =
    let a : (3 + 3 * i + j - 3) / 3 ≡ i = omega arith in
    let b : (3 + 3 * i + j - 3) % 3 ≡ j = omega arith in
    period_later ns road _ (omega arith) ∙ rw (a, b)

-- a road by its start and its segments
pub road_grouped : (row : List ℕ) →
    (each_place row (λ k. get_or road_table k no_range) 4 && all_below (in_group row (λ _. of_segment) 4 7) (min (get_or row 0 0) 64))
    ≡ road_allowed row
unfolding all_below road_range road_allowed allowed range_of count_of
road_grouped row = groups row (λ _. of_segment) 4 7 road_range segment_range_at (min (get_or row 0 0) 64)

-- a period by its start and its entries
pub period_grouped : (road row : List ℕ) →
    (each_place row (period_range (get_or road 0 0) road) 3 && all_below (in_group row (of_entry road) 3 3) (min (get_or road 0 0) 64))
    ≡ period_allowed road row
unfolding all_below period_allowed allowed range_of count_of
period_grouped road row =
    groups row (of_entry road) 3 3 (period_range (get_or road 0 0) road) (entry_range_at (get_or road 0 0) road) (min (get_or road 0 0) 64)
