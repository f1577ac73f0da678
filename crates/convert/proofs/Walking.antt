-- A walk over a study: what stands in `out` so far, and the sheets that are left.
use Prim.Native.Nat.{ℕ, suc, ◌+◌, ◌-◌, ◌*◌, ◌≤◌, ◌<◌}
use mathlib.Core.Path.{◌≡◌, refl, sym, ap, ◌∙◌}
use mathlib.Core.List.{List, ◌++◌, append_assoc, append-nil}
use native.Mathlib.Nat.{zero-add}
use native.Mathlib.Omega.{arith}
use lib.ListN.{length, take, drop, get_or, length-append, length-drop, length-take}
use lib.Seq.{take_at, length-take-le, drop-append_seam, drop-append-add, drop-drop}
use lib.Dec.{ltb}
use Rattle.numbers.specs.Row.{Rows, ReadRow, RefusedAt}
use Rattle.numbers.specs.Writing.{write_into}
use Rattle.numbers.proofs.Writings.{written}
use Rattle.numbers.proofs.Choices.{choose}
use Rattle.sheets.specs.Layout.{count_of}
use Rattle.sheets.specs.Read.{read_row, padded}
use Rattle.sheets.specs.Write.{row_bytes, rows_bytes}
use Rattle.sheets.proofs.Ranges.{count_most}
use Rattle.sheets.proofs.Round.{row_ranged}
use Rattle.sheets.proofs.Turns.{row_most, put_more, length_part}
use Rattle.sheets.proofs.Within.{RowWithin, row_within}
use Rattle.convert.specs.declared.Way.{Way}
use Rattle.convert.specs.declared.Way.TheVariants.{ToSecond, ToFirst}
use Rattle.convert.specs.Sheet.{layout_from, layout_to, converted_row, first_closed, open_lanes_place, converted_from, converted_by, sheet_in, converted_sheet}
use Rattle.convert.specs.Convert.{Sheets, AllSheets, RefusedSheet, onto_sheets, and_sheets, sheets_from, Conversion, Converted, Unconverted, behind, Written, RefusedAs}
use Rattle.numbers.specs.Filled.{filled}
use Rattle.numbers.proofs.Rows.{filled_refused}
use Rattle.convert.specs.Walked.{walked_of, Filled, placed_rows}
use Rattle.convert.proofs.Rows.{converted_length}
use Rattle.convert.proofs.Closed.{converted_is}
use Rattle.convert.proofs.Read.{sheet_in_lem}
use Rattle.convert.proofs.Sheets.{from_more, from_full, from_end}

-- ---- a sheet that is converted stays within its bytes, or the bytes of its row, of which there are at most 5 × 452
abbrev Near : ℕ → Rows → Type 0
Near m (ReadRow row used) = used ≤ m
Near m (RefusedAt number offset) = offset ≤ m + 2260

place_most : (row : List ℕ) (i : ℕ) → length row ≤ 452 → open_lanes_place row i ≤ 2260
unfolding open_lanes_place
place_most row i h = omega (arith, length_part row (3 + 3 * i + 2), row_most row)

converted_near : (way : Way) (road row : List ℕ) (used m : ℕ) → used ≤ m → length row ≤ 452 → Near m (converted_from way road row used)
unfolding converted_from
converted_near ToSecond road row used m u h = u
converted_near ToFirst road row used m u h =
    let closed = first_closed road row (get_or road 0 0) 0 in
    choose (Near m) (ltb closed (get_or road 0 0)) (RefusedAt 16 _) (ReadRow (converted_row ToFirst road row) used) (λ t. omega (arith, place_most row closed h)) (λ t. u)

by_near : (way : Way) (road : List ℕ) (m : ℕ) (r : Rows) → RowWithin m r → ((row : List ℕ) (used : ℕ) → r ≡ ReadRow row used → length row ≤ 452) → Near m (converted_by way road r)
by_near way road m (ReadRow row used) w h = converted_near way road row used m w (h row used refl)
by_near way road m (RefusedAt number offset) w h = omega arith

sheet_near : (way : Way) (road s : List ℕ) → Near (length s) (converted_sheet way road s)
unfolding converted_sheet
sheet_near way road s =
    let l = layout_from way (get_or road 0 0) in
    rw (sheet_in_lem way road s)
    (by_near way road (length s) (read_row l road s) (row_within l road s) (λ row used e. omega (arith, (row_ranged l road s row used e).0, count_most l)))

converted_size : (way : Way) (road : List ℕ) (r : Rows) (row : List ℕ) (used : ℕ) → converted_by way road r ≡ ReadRow row used → length row ≡ count_of (layout_to way (get_or road 0 0))
converted_size way road (RefusedAt number offset) row used e = absurd (let z : ◌≡◌ {A = ℕ} 0 1 = cc in omega arith)
converted_size way road (ReadRow from n) row used e = ap length (converted_is way road from n row used e).0 ∙ converted_length way road from

-- the offset of its refusal
pub place_near : (way : Way) (road s : List ℕ) (number offset : ℕ) → RefusedAt number offset ≡ filled 452 (converted_sheet way road s) → offset ≤ length s + 2260
place_near way road s number offset e = rw (filled_refused 452 (converted_sheet way road s) number offset e) at (sheet_near way road s)

-- the reading of one at a place, as the code has it, back
row_back : (at : ℕ) (r : Rows) (given : List ℕ) (used : ℕ) → ReadRow given used ≡ placed_rows at (filled 452 r) → (row : List ℕ) × (r ≡ ReadRow row used) × (given ≡ padded row)
unfolding filled placed_rows
row_back at (ReadRow row n) given used e = (row, cc, cc)
row_back at (RefusedAt a b) given used e = absurd (let z : ◌≡◌ {A = ℕ} 0 1 = cc in omega arith)

refusal_back : (at : ℕ) (r : Rows) (number place : ℕ) → RefusedAt number place ≡ placed_rows at (filled 452 r) → (offset : ℕ) × (r ≡ RefusedAt number offset) × (place ≡ at + offset)
unfolding filled placed_rows
refusal_back at (ReadRow row n) number place e = absurd (let z : ◌≡◌ {A = ℕ} 0 1 = cc in omega arith)
refusal_back at (RefusedAt a b) number place e = (b, cc, cc)

-- ---- behind what stands there, one sheet more
behind_more : (part row : List ℕ) (s : Sheets) → behind part (onto_sheets row s) ≡ behind (part ++ row_bytes row) s
unfolding behind onto_sheets rows_bytes
behind_more part row (AllSheets rows) = rw append_assoc
behind_more part row (RefusedSheet number offset) = refl

pub record Turn (way : Way) (study road before : List ℕ) (start : ℕ) (out : List ℕ) (at count left : ℕ) : Type 0 where
  pub done : List ℕ
  pub whole : behind (take start study) (sheets_from (converted_sheet way road) 96 study start) ≡ behind done (sheets_from (converted_sheet way road) left study at)
  pub size : length done ≡ count
  pub from : start ≤ count
  pub up_to : at ≤ length study
  pub most : count + 2260 * left ≤ length study + 216960
  pub room : length out ≡ length before
  pub put : length done ≤ length before → out ≡ done ++ drop (length done) before

-- the part before the sheets is copied to the start of what was lent, where there is room
module _ (lent front copy : List ℕ) (is : copy ≡ write_into lent 0 front) (fits : length front ≤ length lent) where
  copy_is : copy ≡ front ++ drop (length front) lent
  copy_is =
      let z : 0 + length front ≡ length front = zero-add (length front) in
      is ∙ (written lent 0 front (omega arith)).1 ∙ rw z

  copy_again : copy ≡ front ++ drop (length front) copy
  copy_again =
      let e : drop (length front) copy ≡ drop (length front) lent = ap (drop (length front)) copy_is ∙ drop-append_seam front (drop (length front) lent) in
      rw e copy_is

  -- what stands behind it stays
  copy_behind : (m : ℕ) → length front ≤ m → drop m copy ≡ drop m lent
  copy_behind m h =
      let e : m ≡ length front + (m - length front) = omega arith in
      ap (drop m) copy_is
      ∙ rw (e, drop-append-add, drop-drop)

pub turn_start : (way : Way) (study road lent : List ℕ) (start : ℕ) (copy : List ℕ) → start ≤ length study → copy ≡ write_into lent 0 (take start study)
    → length copy ≡ length lent → Turn way study road copy start copy start start 96
turn_start way study road lent start copy h is len =
    let size : length (take start study) ≡ start = length-take-le start study h in
    record {
      done = take start study;
      whole = refl;
      size = size;
      from = omega arith;
      up_to = h;
      most = omega arith;
      room = refl;
      put = λ fits. copy_again lent (take start study) copy is (omega (arith, len));
    }

module _ (way : Way) (study road before : List ℕ) (start : ℕ) (out : List ℕ) (at count left : ℕ) (t : Turn way study road before start out at count left) where
  abbrev all : Conversion
  all = behind (take start study) (sheets_from (converted_sheet way road) 96 study start)

  -- a 97th sheet
  pub turn_full : (lent : List ℕ) → left ≡ 0 → at < length study → (RefusedAs 13 at ≡ walked_of all) × Filled all lent out
  unfolding behind
  turn_full lent z h =
      let e : all ≡ Unconverted 13 at = t.whole ∙ rw (z, from_full (converted_sheet way road) study at h) in
      rw e (refl, tt)

  -- the end of the study
  turn_end : length study ≤ at → all ≡ Converted t.done
  unfolding behind rows_bytes
  turn_end h = t.whole ∙ rw (from_end (converted_sheet way road) study left at h, append-nil)

  pub turn_last : (lent : List ℕ) → start ≤ length study → before ≡ write_into lent 0 (take start study) → length before ≡ length lent → length study ≤ at
      → (Written count ≡ walked_of all) × Filled all lent out
  turn_last lent long is len h =
      let size : length (take start study) ≡ start = length-take-le start study long in
      let filled : length t.done ≤ length lent → out ≡ t.done ++ drop (length t.done) lent =
      λ fits. t.put (omega (arith, len))
      ∙ ap (λ (xs : List ℕ). t.done ++ xs) (copy_behind lent (take start study) before is (omega (arith, t.from, t.size)) (length t.done) (omega (arith, t.from, t.size))) in
      rw (turn_end h) (rw t.size, filled)

  -- a sheet more
  module _ (going : at ≡ length study → ⊥) (some : 0 < left) where
    inside : at < length study
    inside = omega (arith, t.up_to)

    next : behind t.done (sheets_from (converted_sheet way road) left study at) ≡
        behind t.done (and_sheets at (converted_sheet way road (drop at study)) (sheets_from (converted_sheet way road) (left - 1) study))
    next =
        let e : left ≡ suc (left - 1) = omega arith in
        ap (λ (k : ℕ). behind t.done (sheets_from (converted_sheet way road) k study at)) e
        ∙ ap (behind t.done) (from_more (converted_sheet way road) study (left - 1) at inside)

    near : Near (length study - at) (converted_sheet way road (drop at study))
    near = rw (length-drop at study) at (sheet_near way road (drop at study))

    pub turn_refused : (number place : ℕ) → RefusedAt number place ≡ placed_rows at (filled 452 (converted_sheet way road (drop at study))) → (lent : List ℕ)
        → (RefusedAs number place ≡ walked_of all) × Filled all lent out
    unfolding behind and_sheets
    turn_refused number place is lent =
        let r = refusal_back at (converted_sheet way road (drop at study)) number place is in
        let e : all ≡ Unconverted number place =
        t.whole ∙ next ∙ ap (λ (x : Rows). behind t.done (and_sheets at x (sheets_from (converted_sheet way road) (left - 1) study))) r.1 ∙ ap (Unconverted number) (sym r.2) in
        rw e (refl, tt)

    module _ (given : List ℕ) (used : ℕ) (is : ReadRow given used ≡ placed_rows at (filled 452 (converted_sheet way road (drop at study)))) where
      got : (row : List ℕ) × (converted_sheet way road (drop at study) ≡ ReadRow row used) × (given ≡ padded row)
      got = row_back at (converted_sheet way road (drop at study)) given used is

      pub next_within : at + used ≤ length study
      next_within = omega (arith, rw got.1 at near)

      -- its bytes
      row_of : (n : ℕ) → n ≡ count_of (layout_to way (get_or road 0 0)) → take n given ≡ got.0
      unfolding converted_sheet
      row_of n e =
          let size = converted_size way road (sheet_in way road (drop at study)) got.0 used got.1 in
          ap (take n) got.2 ∙ take_at got.0 _ n (size ∙ sym e)

      bytes_few : (n : ℕ) → n ≡ count_of (layout_to way (get_or road 0 0)) → length (row_bytes (take n given)) ≤ 2260
      bytes_few n e = omega (arith, row_most (take n given), length-take n given, e, count_most (layout_to way (get_or road 0 0)))

      pub count_fits : (n : ℕ) → n ≡ count_of (layout_to way (get_or road 0 0)) → count + length (row_bytes (take n given)) ≤ length study + 216960
      count_fits n e = omega (arith, bytes_few n e, t.most)

      pub turn_more : (n m : ℕ) (after : List ℕ) → n ≡ count_of (layout_to way (get_or road 0 0)) → m ≡ length (row_bytes (take n given))
          → after ≡ write_into out count (row_bytes (take n given)) → length after ≡ length out
          → Turn way study road before start after (at + used) (count + m) (left - 1)
      unfolding and_sheets
      turn_more n m after e em ea len =
          let w = row_bytes (take n given) in
          let w_is : w ≡ row_bytes got.0 = ap row_bytes (row_of n e) in
          let size : length (t.done ++ w) ≡ count + m = length-append t.done w ∙ rw (t.size, em) in
          record {
            done = t.done ++ w;
            whole = t.whole ∙ next ∙ rw (got.1, behind_more, w_is);
            size = size;
            from = omega (arith, t.from);
            up_to = next_within;
            most = omega (arith, bytes_few n e, t.most, em);
            room = len ∙ t.room;
            put = λ fits.
                let l : length t.done + length w ≤ length before = rw (length-append t.done w) at fits in
                let o : out ≡ t.done ++ drop count before = t.put (omega arith) ∙ rw t.size in
                ea ∙ put_more out t.done w before count o t.size (omega (arith, t.size)) ∙ rw (length-append, ← t.size);
          }
