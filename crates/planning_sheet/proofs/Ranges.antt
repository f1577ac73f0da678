-- An accepted sheet's numbers are within their ranges, so that every section of it is good.
use mathlib.Core.Path.{◌≡◌, refl, sym, ap, ◌∙◌}
use mathlib.Core.Bool.{Bool, true, false}
use mathlib.Core.List.{List}
use Prim.Native.Nat.{ℕ, ◌+◌, ◌*◌, ◌%◌, ◌≤◌, ◌<◌}
use native.Mathlib.Omega.{arith}
use lib.ListN.{length, get_or}
use borrow.Author.Tests.{lt-ltb, le-ltb}
use Rattle.std.specs.Prelude.{if◌then◌else◌}
use Rattle.std.proofs.lemmas.Bool.Decides.{nat_tests}
use Rattle.numbers.specs.declared.Number.{Number}
use Rattle.numbers.specs.Number.{Reading, Read, Refused, read_number}
use Rattle.numbers.specs.Field.{read_field}
use Rattle.numbers.proofs.Fields.{field_back}
use Rattle.numbers.specs.Row.{Rows, ReadRow, RefusedAt, fields, padded_to}
use Rattle.numbers.specs.Filled.{filled}
use Rattle.numbers.proofs.Rows.{fields_each, each_padded}
use Rattle.sections.specs.Table.{tabled}
use Rattle.planning_sheet.specs.Sheet.{between, section_field, allowed_at, held_to, field_at, Reads, ReadSections, NoSections, sections_of, sections_from, count_range, sheet_from, read_sheet, section_of, section_at}
use Rattle.sections.specs.Good.{GoodSection}
use Rattle.planning_sheet.specs.Good.{GoodSections}
use Rattle.planning_sheet.proofs.Listed.{length_first, get_or-first}

-- ---- what a reading shows of its numbers
held_by : (v next w m : ℕ) (t : Bool) → (if t then Read v next else Refused 4) ≡ Read w m → (t ≡ true) × (v ≡ w)
held_by v next w m true e = (refl, cc)
held_by v next w m false e = absurd cc

held_back : (n k : ℕ) (x : Reading) (w m : ℕ) → held_to n k x ≡ Read w m → allowed_at n k w ≡ true
unfolding held_to
held_back n k (Read v next) w m e =
    let h = held_by v next w m (allowed_at n k v) e in
    ap (allowed_at n k) (sym h.1) ∙ h.0
held_back n k (Refused x) w m e = absurd cc

-- every one of the 6 n numbers is
abbrev Allowed : ℕ → List ℕ → Type 0
Allowed n row = (j : ℕ) → j < 6 * n → allowed_at n j (get_or row j 0) ≡ true

field_allowed : (n : ℕ) (bytes : List ℕ) (k at v next : ℕ) → field_at n bytes k at ≡ Read v next → allowed_at n k v ≡ true
unfolding field_at
field_allowed n bytes k at v next e = held_back n k (read_number bytes at) v next e

row_allowed : (n : ℕ) (bytes : List ℕ) (at : ℕ) (row : List ℕ) (used : ℕ) → fields (field_at n bytes) (6 * n) 0 at ≡ ReadRow row used → Allowed n (padded_to 384 row)
row_allowed n bytes at row used e =
    let h = fields_each (field_at n bytes) (λ k v. allowed_at n k v ≡ true) (field_allowed n bytes) (6 * n) 0 at row used e in
    λ j l. each_padded (λ k v. allowed_at n k v ≡ true) 384 row h.1 j (omega (arith, h.0))

-- ---- what a value that its place may have is
most : (low high v : ℕ) → between low high v ≡ true → v ≤ high
most low high v e = grind (arith, nat_tests)

least : (low high v : ℕ) → between low high v ≡ true → low ≤ v
least low high v e = grind (arith, nat_tests)

-- a free-flow speed of the table is at least 55
pub tabled_least : (v : ℕ) → tabled v ≡ true → 55 ≤ v
unfolding tabled
tabled_least v e = grind (arith, nat_tests)

module _ (n : ℕ) (row : List ℕ) (ok : Allowed n row) (i : ℕ) (h : i < n) where
  -- the j-th field of section i
  of_section : (j : ℕ) → j < 4 → section_field j (get_or row (4 * i + j) 0) ≡ true
  unfolding allowed_at
  of_section j l =
      let e : (4 * i + j) % 4 ≡ j = omega arith in
      let a : allowed_at n (4 * i + j) (get_or row (4 * i + j) 0) ≡ true = ok (4 * i + j) (omega arith) in
      let b : section_field ((4 * i + j) % 4) (get_or row (4 * i + j) 0) ≡ true = rw (lt-ltb (4 * i + j) (4 * n) (omega arith)) at a in
      rw e at b

  -- its flows
  of_flow : (k : ℕ) → 4 * n ≤ k → k < 6 * n → get_or row k 0 ≤ 20000
  unfolding allowed_at
  of_flow k l m =
      let b : between 0 20000 (get_or row k 0) ≡ true = rw (le-ltb k (4 * n) l) at (ok k m) in
      most 0 20000 _ b

  section_good : GoodSection (section_of n row i)
  unfolding section_of section_field
  section_good =
      let z : 4 * i + 0 ≡ 4 * i = omega arith in
      let length_in : between 300 26400 (get_or row (4 * i) 0) ≡ true = rw z at (of_section 0 (omega arith)) in
      record {
        short = most 300 26400 _ length_in;
        wide = least 1 8 _ (of_section 1 (omega arith));
        narrow = most 1 8 _ (of_section 1 (omega arith));
        row = of_section 2 (omega arith);
        least = least 100 1000 _ (of_section 3 (omega arith));
        share = most 100 1000 _ (of_section 3 (omega arith));
        enters = of_flow (4 * n + 2 * i) (omega arith) (omega arith);
        leaves = of_flow (4 * n + 2 * i + 1) (omega arith) (omega arith);
      }

filled_back : (r : Rows) (row : List ℕ) (used : ℕ) → filled 384 r ≡ ReadRow row used → (ys : List ℕ) × (r ≡ ReadRow ys used) × (row ≡ padded_to 384 ys)
unfolding filled
filled_back (ReadRow ys u) row used e = (ys, cc, cc)
filled_back (RefusedAt x at) row used e = absurd cc

-- every section of a row that was read is good
pub filled_good : (n : ℕ) (bytes : List ℕ) (at : ℕ) (row : List ℕ) (used : ℕ)
    → ReadRow row used ≡ filled 384 (fields (field_at n bytes) (6 * n) 0 at) → GoodSections n row
filled_good n bytes at row used e =
    let b = filled_back (fields (field_at n bytes) (6 * n) 0 at) row used (sym e) in
    let ok : Allowed n row = rw b.2 (row_allowed n bytes at b.0 used b.1) in
    λ i h. section_good n row ok i h

-- ---- the whole sheet
-- a sheet has at most 64 sections, each good
abbrev pub GoodSheet : Reads → Type 0
GoodSheet (ReadSections sections used) =
    (length sections ≤ 64) × ((i : ℕ) → i < length sections → GoodSection (section_at sections i))
GoodSheet (NoSections e at) = Unit {0}

row_sheet : (n : ℕ) (bytes : List ℕ) (at : ℕ) (r : Rows) → n ≤ 64 → r ≡ filled 384 (fields (field_at n bytes) (6 * n) 0 at) → GoodSheet (sections_of n r)
unfolding sections_of
row_sheet n bytes at (ReadRow row used) h e =
    let g = section_of n row in
    let long = length_first g n in
    (rw long h, λ i l. let inside : i < n = rw long at l in rw (get_or-first g n i _ inside) (filled_good n bytes at row used e i inside))
row_sheet n bytes at (RefusedAt x place) h e = tt

good_from : (bytes : List ℕ) (x : Reading) → read_field count_range bytes 0 ≡ x → GoodSheet (sheet_from bytes x)
unfolding sheet_from sections_from
good_from bytes (Read n next) e = row_sheet n bytes next _ (field_back count_range bytes 0 n next e).1.1 refl
good_from bytes (Refused x) e = tt

pub sheet_good : (bytes : List ℕ) → GoodSheet (read_sheet bytes)
unfolding read_sheet
sheet_good bytes = good_from bytes (read_field count_range bytes 0) refl

-- a section count that was read is at most 64
pub count_few : (bytes : List ℕ) (n : Number) → Read n.value n.next ≡ read_field count_range bytes 0 → n.value ≤ 64
count_few bytes n e = (field_back count_range bytes 0 n.value n.next (sym e)).1.1
