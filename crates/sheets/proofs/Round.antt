-- A sheet written and read again is the same sheet, with the written count used, wherever it stands in a buffer; one read and written
-- again is the bytes that its reading used. Once for every layout; a road's layout is known by its first number. A number of more than
-- 32 bits has no bytes, so a period is written and read on a road whose lanes have no more.
use mathlib.Core.Path.{◌≡◌, refl, sym, ap, subst, ◌∙◌}
use Prim.Native.Nat.{ℕ, zero, suc, ◌+◌, ◌-◌, ◌^◌, ◌≤◌, ◌<◌}
use mathlib.Core.List.{List, [], ◌∷◌, ◌++◌, append_assoc}
use native.Mathlib.Nat.{zero-add, add-zero, add_assoc}
use native.Mathlib.Omega.{arith}
use lib.ListN.{length, take, drop, get_or, replicate, length-append}
use lib.Seq.{take-add, drop-drop, take_at, drop_at, length-take-le}
use Rattle.numbers.specs.Number.{Reading, Read, Refused, number_bytes, Bytes}
use Rattle.numbers.specs.Field.{In, read_field}
use Rattle.numbers.proofs.Fields.{field_value, field_back}
use Rattle.numbers.specs.Writing.{write_into}
use Rattle.numbers.proofs.Writings.{written}
use Rattle.numbers.proofs.Round.{written_reads, read_writes, number_bytes_lem, bytes_both}
use Rattle.sheets.specs.declared.Layout.{Layout}
use Rattle.sheets.specs.declared.Layout.TheVariants.{Road, Period, FirstPeriod}
use Rattle.sheets.specs.Layout.{road_range, same_segments, range_of, count_of, RowOf}
use Rattle.numbers.specs.Row.{Each, ReadRow, onto, and_then, fields}
use Rattle.numbers.proofs.Rows.{field_before, then_back, each_head, each_tail, fields_each, fields_first}
use Rattle.sheets.specs.Read.{field_of, read_row, road_from, read_road, read_period, read_first_period, padded, sheet_reading, read_as}
use Rattle.sheets.specs.Write.{row_bytes, sheet_row, road_row, period_row}
use Rattle.sheets.proofs.Ranges.{LanesFit, fits, count_some, period_first, first_start}
use Rattle.sheets.proofs.Turns.{road_read}

-- the number is in the range of its place
abbrev Ranged : Layout → List ℕ → ℕ → ℕ → Type 0
Ranged l road k v = In (range_of l road k) v

-- and has at most 32 bits
abbrev Writable : Layout → List ℕ → ℕ → ℕ → Type 0
Writable l road k v = Ranged l road k v × (v < 2 ^ 32)

-- all numbers of the row have
abbrev pub Fitting : List ℕ → Type 0
Fitting row = Each (λ k v. v < 2 ^ 32) 0 row

-- ---- what was written is read back
value_reads : (l : Layout) (road : List ℕ) (k v : ℕ) (before rest : List ℕ) → Writable l road k v
    → read_field (range_of l road k) (before ++ (number_bytes v ++ rest)) (length before) ≡ Read v (length before + length (number_bytes v))
value_reads l road k v before rest h = field_value _ _ _ _ _ (written_reads v before rest h.1) h.0

reads_fields : (l : Layout) (road row : List ℕ) (k : ℕ) (before rest : List ℕ) → Each (Writable l road) k row
    → fields (field_of l road (before ++ (row_bytes row ++ rest))) (length row) k (length before) ≡ ReadRow row (length before + length (row_bytes row))
unfolding fields and_then onto row_bytes
reads_fields l road [] k before rest h = rw add-zero
reads_fields l road (v ∷ row) k before rest h =
    let f = value_reads l road k v before (row_bytes row ++ rest) (each_head (Writable l road) k v row h) in
    let more = reads_fields l road row (k + 1) (before ++ number_bytes v) rest (each_tail (Writable l road) k v row h) in
    let ih = simp (append_assoc, length-append, add_assoc) at more in
    let bytes : row_bytes (v ∷ row) ++ rest ≡ number_bytes v ++ (row_bytes row ++ rest) = simp append_assoc in
    let P : List ℕ → Type 0 = λ s. fields (field_of l road (before ++ s)) (suc (length row)) k (length before)
    ≡ ReadRow (v ∷ row) (length before + length (row_bytes (v ∷ row))) in
    subst P (sym bytes)
    (field_before _ (length row) k (length before) v _ f
    ∙ ap (onto (v ∷ [])) ih
    ∙ ap (λ (n : ℕ). ReadRow (v ∷ row) (length before + n)) (sym (length-append (number_bytes v) (row_bytes row))))

pub written_row : (l : Layout) (road row rest : List ℕ) → RowOf l road row → Fitting row
    → read_row l road (row_bytes row ++ rest) ≡ ReadRow row (length (row_bytes row))
unfolding read_row
written_row l road row rest h fit = rw (← h.0) (rw zero-add at (reads_fields l road row 0 [] rest (λ j i. (h.1 j i, fit j i))))

-- by its ranges a row's numbers have at most 32 bits, a period's where its road's lanes have
pub fitting : (l : Layout) (road row : List ℕ) → LanesFit l road → RowOf l road row → Fitting row
fitting l road row lanes h j i = omega (arith, fits l road lanes (0 + j) (omega (arith, h.0)), (h.1 j i).1)

pub written_road : (row rest : List ℕ) → RowOf (Road (get_or row 0 0)) [] row → read_road (row_bytes row ++ rest) ≡ ReadRow row (length (row_bytes row))
unfolding row_bytes range_of count_of
written_road [] rest h = absurd (omega (arith, h.0))
written_road (ns ∷ row) rest h =
    let f : read_field (road_range 0) (number_bytes ns ++ (row_bytes row ++ rest)) 0 ≡ Read ns (0 + length (number_bytes ns)) =
    value_reads (Road ns) [] 0 ns [] (row_bytes row ++ rest) (h.1 0 (omega arith), fitting (Road ns) [] (ns ∷ row) tt h 0 (omega arith)) in
    let g : read_field (road_range 0) ((number_bytes ns ++ row_bytes row) ++ rest) 0 ≡ Read ns (0 + length (number_bytes ns)) = rw append_assoc f in
    road_read _ _ _ g ∙ written_row (Road ns) [] (ns ∷ row) rest h (fitting (Road ns) [] (ns ∷ row) tt h)

-- ---- what was read is the bytes of its row
-- the bytes from `at` to next are the row's
record Back (s : List ℕ) (at : ℕ) (row : List ℕ) (next : ℕ) : Type 0 where
  bytes : take (length (row_bytes row)) (drop at s) ≡ row_bytes row
  place : next ≡ at + length (row_bytes row)

back_end : (s : List ℕ) (at : ℕ) → Back s at [] at
unfolding row_bytes
back_end s at = record { bytes = refl; place = omega arith }

back_more : (l : Layout) (road : List ℕ) (k : ℕ) (s : List ℕ) (at v n : ℕ) (row : List ℕ) (next : ℕ) → Bytes s
    → read_field (range_of l road k) s at ≡ Read v n → Back s n row next → Back s at (v ∷ row) next
unfolding row_bytes
back_more l road k s at v n row next by e b =
    let w = read_writes s at v n by (field_back (range_of l road k) s at v n e).0 in
    let m : n - at ≡ length (number_bytes v) = omega (arith, w.2) in
    let t : take (length (number_bytes v)) (drop at s) ≡ number_bytes v = rw m at w.0 in
    record { bytes = rw (length-append, take-add, t, drop-drop, ← w.2, b.bytes); place = rw length-append (omega (arith, w.2, b.place)) }

fields_back : (l : Layout) (road : List ℕ) (left k : ℕ) (s : List ℕ) (at : ℕ) (row : List ℕ) (next : ℕ) → Bytes s
    → fields (field_of l road s) left k at ≡ ReadRow row next → Back s at row next
unfolding fields
fields_back l road zero k s at row next by e =
    let r : [] ≡ row = cc in
    let n : at ≡ next = cc in
    rw (← r, ← n) (back_end s at)
fields_back l road (suc left) k s at row next by e =
    let g = then_back at (field_of l road s k at) (fields (field_of l road s) left (k + 1)) row next e in
    let b = fields_back l road left (k + 1) s g.1 g.2 next by g.4 in
    rw g.5 (back_more l road k s at g.0 g.1 g.2 next by g.3 b)

-- a row that was read is one of its layout, and the bytes that its reading used are its bytes
pub row_ranged : (l : Layout) (road s row : List ℕ) (used : ℕ) → read_row l road s ≡ ReadRow row used → RowOf l road row
unfolding read_row
row_ranged l road s row used e =
    fields_each (field_of l road s) (Ranged l road) (λ k at v next r. (field_back (range_of l road k) s at v next r).1) (count_of l) 0 0 row used e

-- what was read has at most 32 bits
pub row_fitting : (l : Layout) (road s row : List ℕ) (used : ℕ) → Bytes s → read_row l road s ≡ ReadRow row used → Fitting row
unfolding read_row
row_fitting l road s row used by e =
    (fields_each (field_of l road s) (λ k v. v < 2 ^ 32)
    (λ k at v next r. (read_writes s at v next by (field_back (range_of l road k) s at v next r).0).1) (count_of l) 0 0 row used e).1

pub row_back : (l : Layout) (road s row : List ℕ) (used : ℕ) → Bytes s → read_row l road s ≡ ReadRow row used
    → (take used s ≡ row_bytes row) × (used ≡ length (row_bytes row))
unfolding read_row
row_back l road s row used by e =
    let b = fields_back l road (count_of l) 0 s 0 row used by e in
    let u : used ≡ length (row_bytes row) = omega (arith, b.place) in
    (rw u b.bytes, u)

-- the numbers before a place are read up to where the bytes of these end
pub row_first : (l : Layout) (road s row : List ℕ) (used m : ℕ) → Bytes s → read_row l road s ≡ ReadRow row used → m ≤ count_of l
    → fields (field_of l road s) m 0 0 ≡ ReadRow (take m row) (length (row_bytes (take m row)))
unfolding read_row
row_first l road s row used m by e h =
    let f = fields_first (field_of l road s) m (count_of l) 0 0 row used h e in
    let b = fields_back l road m 0 s 0 (take m row) f.0 by f.1 in
    f.1 ∙ ap (ReadRow (take m row)) (b.place ∙ zero-add (length (row_bytes (take m row))))

-- written rows are bytes
pub row_bytes_lem : (row : List ℕ) → Fitting row → Bytes (row_bytes row)
unfolding row_bytes
row_bytes_lem [] fit = λ i. omega arith
row_bytes_lem (v ∷ row) fit =
    bytes_both (number_bytes v) (row_bytes row) (number_bytes_lem v (each_head (λ k v. v < 2 ^ 32) 0 v row fit))
    (row_bytes_lem row (λ j h. each_tail (λ k v. v < 2 ^ 32) 0 v row fit j h))

-- ---- the first number is NS
first_number : (l : Layout) (road s row : List ℕ) (used ns n : ℕ) → read_field (range_of l road 0) s 0 ≡ Read ns n → read_row l road s ≡ ReadRow row used → get_or row 0 0 ≡ ns
unfolding read_row fields
first_number l road s row used ns n f e = first_of (count_of l) (count_some l) e
  where
    first_of : (c : ℕ) → 0 < c → fields (field_of l road s) c 0 0 ≡ ReadRow row used → get_or row 0 0 ≡ ns
    first_of zero h g = absurd (omega arith)
    first_of (suc c) h g =
        let b = then_back 0 (field_of l road s 0 0) (fields (field_of l road s) c (0 + 1)) row used g in
        let v : b.0 ≡ ns = cc b.3 in
        ap (λ (r : List ℕ). get_or r 0 0) b.5 ∙ v

from_back : (s : List ℕ) (x : Reading) (row : List ℕ) (used : ℕ) → road_from s x ≡ ReadRow row used
    → (ns : ℕ) × (n : ℕ) × (x ≡ Read ns n) × (read_row (Road ns) [] s ≡ ReadRow row used)
unfolding road_from
from_back s (Read ns n) row used e = (ns, n, refl, e)
from_back s (Refused x) row used e = absurd (let z : ◌≡◌ {A = ℕ} 0 1 = cc in omega arith)

-- a road that was read, by its own first number
pub road_back : (s row : List ℕ) (used : ℕ) → read_road s ≡ ReadRow row used → read_row (Road (get_or row 0 0)) [] s ≡ ReadRow row used
unfolding read_road range_of
road_back s row used e =
    let r = from_back s (read_field (road_range 0) s 0) row used e in
    let ns : get_or row 0 0 ≡ r.0 = first_number (Road r.0) [] s row used r.0 r.1 r.2 r.3 in
    rw ns r.3

pub road_ranged : (s row : List ℕ) (used : ℕ) → read_road s ≡ ReadRow row used → RowOf (Road (get_or row 0 0)) [] row
road_ranged s row used e = row_ranged (Road (get_or row 0 0)) [] s row used (road_back s row used e)

-- a period's is the road's, in both layouts
own_number : (l : Layout) (ns : ℕ) (road row : List ℕ) → range_of l road 0 ≡ same_segments ns → RowOf l road row → get_or row 0 0 ≡ ns
own_number l ns road [] e a = absurd (omega (arith, a.0, count_some l))
own_number l ns road (v ∷ row) e a =
    let h = rw e at (each_head (Ranged l road) 0 v row a.1) in
    omega (arith, h.0, h.1)

pub period_ranged : (road s row : List ℕ) (used : ℕ) → read_period road s ≡ ReadRow row used
    → RowOf (Period (get_or road 0 0)) road row × (get_or row 0 0 ≡ get_or road 0 0)
unfolding read_period range_of
period_ranged road s row used e =
    let l = Period (get_or road 0 0) in
    let r = row_ranged l road s row used e in
    (r, own_number l (get_or road 0 0) road row (period_first (get_or road 0 0) road 0 refl) r)

first_period_ranged : (road s row : List ℕ) (used : ℕ) → read_first_period road s ≡ ReadRow row used
    → RowOf (FirstPeriod (get_or road 0 0)) road row × (get_or row 0 0 ≡ get_or road 0 0)
unfolding read_first_period range_of
first_period_ranged road s row used e =
    let ns = get_or road 0 0 in
    let r = row_ranged (FirstPeriod ns) road s row used e in
    (r, own_number (FirstPeriod ns) ns road row (first_start ns road 0 (omega arith) ∙ period_first ns road 0 refl) r)

-- ---- the same of the code's rows, which have zeros after the sheet's numbers
pub padded_row : (layout : ℕ → Layout) (row : List ℕ) → length row ≡ count_of (layout (get_or row 0 0)) → sheet_row layout (padded row) ≡ row
unfolding sheet_row
padded_row layout [] h = absurd (omega (arith, h, count_some (layout 0)))
padded_row layout (ns ∷ row) h = take_at (ns ∷ row) (replicate (452 - length (ns ∷ row)) 0) _ h

-- a row written at a place of a buffer stands there
written_there : (buffer row : List ℕ) (at : ℕ) → at + length (row_bytes row) ≤ length buffer
    → drop at (write_into buffer at (row_bytes row)) ≡ row_bytes row ++ drop (at + length (row_bytes row)) buffer
written_there buffer row at h =
    rw ((written buffer at (row_bytes row) h).1, append_assoc)
    (drop_at (take at buffer) (row_bytes row ++ drop (at + length (row_bytes row)) buffer) at (length-take-le at buffer (omega arith)))

module _ (buffer row : List ℕ) (at : ℕ) (room : at + length (row_bytes row) ≤ length buffer) where
  pub road_written_read : RowOf (Road (get_or row 0 0)) [] row
      → sheet_reading (read_road (drop at (write_into buffer at (row_bytes row)))) ≡ read_as row (length (row_bytes row))
  unfolding sheet_reading
  road_written_read h = rw (written_there buffer row at room, written_road row (drop (at + length (row_bytes row)) buffer) h)

  fitting_written_read : (l : Layout) (road : List ℕ) → RowOf l road row → Fitting row
      → sheet_reading (read_row l road (drop at (write_into buffer at (row_bytes row)))) ≡ read_as row (length (row_bytes row))
  unfolding sheet_reading
  fitting_written_read l road h fit = rw (written_there buffer row at room, written_row l road row (drop (at + length (row_bytes row)) buffer) h fit)

  pub period_written_read : (road : List ℕ) → LanesFit (Period (get_or road 0 0)) road → RowOf (Period (get_or road 0 0)) road row
      → sheet_reading (read_period road (drop at (write_into buffer at (row_bytes row)))) ≡ read_as row (length (row_bytes row))
  unfolding read_period
  period_written_read road lanes h = fitting_written_read (Period (get_or road 0 0)) road h (fitting (Period (get_or road 0 0)) road row lanes h)

  pub first_period_written_read : (road : List ℕ) → RowOf (FirstPeriod (get_or road 0 0)) road row
      → sheet_reading (read_first_period road (drop at (write_into buffer at (row_bytes row)))) ≡ read_as row (length (row_bytes row))
  unfolding read_first_period
  first_period_written_read road h = fitting_written_read (FirstPeriod (get_or road 0 0)) road h (fitting (FirstPeriod (get_or road 0 0)) road row tt h)

module _ (s row : List ℕ) (used : ℕ) (by : Bytes s) where
  pub road_read_written : read_road s ≡ ReadRow row used → row_bytes (road_row (sheet_reading (read_road s)).row) ≡ take used s
  unfolding sheet_reading
  road_read_written e =
      let back = row_back (Road (get_or row 0 0)) [] s row used by (road_back s row used e) in
      rw (e, padded_row Road row (road_ranged s row used e).0) (sym back.0)

  -- a sheet whose layout is by the number that it begins with
  read_written : (layout : ℕ → Layout) (ns : ℕ) (road : List ℕ) → read_row (layout ns) road s ≡ ReadRow row used → get_or row 0 0 ≡ ns
      → row_bytes (sheet_row layout (sheet_reading (read_row (layout ns) road s)).row) ≡ take used s
  unfolding sheet_reading
  read_written layout ns road e own =
      let size : length row ≡ count_of (layout (get_or row 0 0)) = rw own (row_ranged (layout ns) road s row used e).0 in
      rw (e, padded_row layout row size) (sym (row_back (layout ns) road s row used by e).0)

  pub period_read_written : (road : List ℕ) → read_period road s ≡ ReadRow row used → row_bytes (period_row (sheet_reading (read_period road s)).row) ≡ take used s
  unfolding read_period
  period_read_written road e = read_written Period (get_or road 0 0) road e (period_ranged road s row used e).1

  pub first_period_read_written : (road : List ℕ) → read_first_period road s ≡ ReadRow row used
      → row_bytes (sheet_row FirstPeriod (sheet_reading (read_first_period road s)).row) ≡ take used s
  unfolding read_first_period
  first_period_read_written road e = read_written FirstPeriod (get_or road 0 0) road e (first_period_ranged road s row used e).1

  -- and what a reading used, written anywhere, reads back as the same sheet
  module _ (buffer : List ℕ) (at : ℕ) (room : at + length (take used s) ≤ length buffer) where
    pub road_again : read_road s ≡ ReadRow row used → sheet_reading (read_road (drop at (write_into buffer at (take used s)))) ≡ sheet_reading (read_road s)
    unfolding sheet_reading
    road_again e =
        let b = row_back (Road (get_or row 0 0)) [] s row used by (road_back s row used e) in
        let w = road_written_read buffer row at (rw b.0 at room) (road_ranged s row used e) in
        rw (e, b.0) (w ∙ ap (read_as row) (sym b.1))

    pub period_again : (road : List ℕ) → read_period road s ≡ ReadRow row used
        → sheet_reading (read_period road (drop at (write_into buffer at (take used s)))) ≡ sheet_reading (read_period road s)
    unfolding sheet_reading read_period
    period_again road e =
        let b = row_back (Period (get_or road 0 0)) road s row used by e in
        let fit = row_fitting (Period (get_or road 0 0)) road s row used by e in
        let w = fitting_written_read buffer row at (rw b.0 at room) (Period (get_or road 0 0)) road (period_ranged road s row used e).0 fit in
        rw (e, b.0) (w ∙ ap (read_as row) (sym b.1))
