-- The sheets of a study, one after the other: read and converted, their bytes, and read again from these.
use Prim.Native.Nat.{ℕ, zero, suc, ◌+◌, ◌≤◌, ◌<◌}
use mathlib.Core.Bool.{Bool, true, false}
use mathlib.Core.Path.{◌≡◌, refl, sym, ◌∙◌}
use mathlib.Core.List.{List, [], ◌∷◌, ◌++◌, append_assoc, append-nil}
use native.Mathlib.Omega.{arith}
use lib.ListN.{length, drop, length-append, take-append-drop, drop_of_length-le}
use lib.Seq.{drop-drop, drop-append_seam, get_or-drop}
use lib.Dec.{ltb}
use borrow.Author.Tests.{lt-ltb, le-ltb, ltb-true, ltb-false}
use Rattle.numbers.specs.Number.{Bytes}
use Rattle.numbers.specs.Row.{Rows, ReadRow, RefusedAt}
use Rattle.sheets.specs.declared.Layout.{Layout}
use Rattle.sheets.specs.Layout.{RowOf}
use Rattle.sheets.specs.Read.{read_row}
use Rattle.sheets.specs.Write.{row_bytes, rows_bytes}
use Rattle.sheets.proofs.Ranges.{count_some}
use Rattle.sheets.proofs.Turns.{row_some}
use Rattle.sheets.proofs.Round.{Fitting, written_row, row_ranged, row_back}
use Rattle.convert.specs.Convert.{Sheets, AllSheets, RefusedSheet, onto_sheets, and_sheets, sheets_from}
use Rattle.convert.specs.Statement.{EverySheet}

-- ---- sheets that are all read
pub data Sheeted (sheet : List ℕ → Rows) (bytes : List ℕ) : (left at : ℕ) → List (List ℕ) → Type 0 where
  end : {left at : ℕ} → length bytes ≤ at → Sheeted sheet bytes left at []
  more : {left at : ℕ} {row : List ℕ} {used : ℕ} {rows : List (List ℕ)} → at < length bytes → sheet (drop at bytes) ≡ ReadRow row used
      → Sheeted sheet bytes left (at + used) rows → Sheeted sheet bytes (suc left) at (row ∷ rows)

onto_back : (row : List ℕ) (s : Sheets) (rows : List (List ℕ)) → onto_sheets row s ≡ AllSheets rows
    → (others : List (List ℕ)) × (s ≡ AllSheets others) × (rows ≡ row ∷ others)
unfolding onto_sheets
onto_back row (AllSheets others) rows e = (others, refl, cc)
onto_back row (RefusedSheet number offset) rows e = absurd (let z : ◌≡◌ {A = ℕ} 0 1 = cc in omega arith)

and_back : (at : ℕ) (r : Rows) (rest : ℕ → Sheets) (rows : List (List ℕ)) → and_sheets at r rest ≡ AllSheets rows
    → (row : List ℕ) × (used : ℕ) × (others : List (List ℕ)) × (r ≡ ReadRow row used) × (rest (at + used) ≡ AllSheets others) × (rows ≡ row ∷ others)
unfolding and_sheets
and_back at (ReadRow row used) rest rows e =
    let o = onto_back row (rest (at + used)) rows e in
    (row, used, o.0, refl, o.1, o.2)
and_back at (RefusedAt number offset) rest rows e = absurd (let z : ◌≡◌ {A = ℕ} 0 1 = cc in omega arith)

module _ (sheet : List ℕ → Rows) (bytes : List ℕ) where
  -- the sheets from a place on, by whether the bytes go on there
  pub from_more : (left at : ℕ) → at < length bytes
      → sheets_from sheet (suc left) bytes at ≡ and_sheets at (sheet (drop at bytes)) (sheets_from sheet left bytes)
  unfolding sheets_from
  from_more left at h = rw (lt-ltb at (length bytes) h)

  pub from_full : (at : ℕ) → at < length bytes → sheets_from sheet zero bytes at ≡ RefusedSheet 13 at
  unfolding sheets_from
  from_full at h = rw (lt-ltb at (length bytes) h)

  pub from_end : (left at : ℕ) → length bytes ≤ at → sheets_from sheet left bytes at ≡ AllSheets []
  unfolding sheets_from
  from_end zero at h = rw (le-ltb at (length bytes) h)
  from_end (suc left) at h = rw (le-ltb at (length bytes) h)

  sheeted_end : (left at : ℕ) (rows : List (List ℕ)) → length bytes ≤ at → sheets_from sheet left bytes at ≡ AllSheets rows → Sheeted sheet bytes left at rows
  sheeted_end left at rows h e =
      let r : [] ≡ rows = cc (from_end left at h) in
      rw (← r) (end h)

  sheeted_none : (at : ℕ) (rows : List (List ℕ)) → sheets_from sheet zero bytes at ≡ AllSheets rows → (t : Bool) → ltb at (length bytes) ≡ t
      → Sheeted sheet bytes zero at rows
  sheeted_none at rows e true t = absurd (let z : ◌≡◌ {A = ℕ} 0 1 = cc (from_full at (ltb-true at (length bytes) t)) in omega arith)
  sheeted_none at rows e false t = sheeted_end zero at rows (ltb-false at (length bytes) t) e

  sheeted_more : (left at : ℕ) (rows : List (List ℕ)) → sheets_from sheet (suc left) bytes at ≡ AllSheets rows
      → ((at : ℕ) (rows : List (List ℕ)) → sheets_from sheet left bytes at ≡ AllSheets rows → Sheeted sheet bytes left at rows)
      → (t : Bool) → ltb at (length bytes) ≡ t → Sheeted sheet bytes (suc left) at rows
  sheeted_more left at rows e ih true t =
      let h = ltb-true at (length bytes) t in
      let g = and_back at (sheet (drop at bytes)) (sheets_from sheet left bytes) rows (sym (from_more left at h) ∙ e) in
      rw g.5 (more h g.3 (ih (at + g.1) g.2 g.4))
  sheeted_more left at rows e ih false t = sheeted_end (suc left) at rows (ltb-false at (length bytes) t) e

  pub sheeted : (left at : ℕ) (rows : List (List ℕ)) → sheets_from sheet left bytes at ≡ AllSheets rows → Sheeted sheet bytes left at rows
  sheeted zero at rows e = sheeted_none at rows e (ltb at (length bytes)) refl
  sheeted (suc left) at rows e = sheeted_more left at rows e (sheeted left) (ltb at (length bytes)) refl

  pub all_sheets : {left at : ℕ} {rows : List (List ℕ)} → Sheeted sheet bytes left at rows → sheets_from sheet left bytes at ≡ AllSheets rows
  unfolding and_sheets onto_sheets
  all_sheets (end {left} {at} h) = from_end left at h
  all_sheets (more {left} {at} h e t) = from_more left at h ∙ rw (e, all_sheets t)

-- ---- the bytes of sheets that were read
module _ (l : Layout) (road : List ℕ) where
  pub sheets_back : (bytes : List ℕ) → Bytes bytes → {left at : ℕ} {rows : List (List ℕ)} → Sheeted (read_row l road) bytes left at rows
      → (drop at bytes ≡ rows_bytes rows) × EverySheet (RowOf l road) rows × (length rows ≤ left)
  unfolding rows_bytes
  sheets_back bytes by (end {left} {at} h) = (drop_of_length-le bytes h, tt, omega arith)
  sheets_back bytes by (more {left} {at} {row} {used} {rows} h e t) =
      let b = row_back l road (drop at bytes) row used (λ i. rw get_or-drop (by (at + i))) e in
      let others = sheets_back bytes by t in
      let rest : drop used (drop at bytes) ≡ rows_bytes rows = drop-drop used at bytes ∙ others.0 in
      let whole : drop at bytes ≡ row_bytes row ++ rows_bytes rows = sym (take-append-drop used (drop at bytes)) ∙ rw (b.0, rest) in
      (whole, (row_ranged l road (drop at bytes) row used e, others.1), omega (arith, others.2))

  -- and the sheets that are read from bytes of rows
  pub sheets_written : (rows : List (List ℕ)) (front : List ℕ) (left : ℕ) → EverySheet (λ row. RowOf l road row × Fitting row) rows → length rows ≤ left
      → Sheeted (read_row l road) (front ++ rows_bytes rows) left (length front) rows
  unfolding rows_bytes
  sheets_written [] front left h few =
      let l : length (front ++ []) ≤ length front = rw append-nil (omega arith) in
      end {left = left} {at = length front} l
  sheets_written (row ∷ rows) front zero h few = absurd (omega arith)
  sheets_written (row ∷ rows) front (suc left) h few =
      let rest = row_bytes row ++ rows_bytes rows in
      let inside : length front < length (front ++ rest) =
      rw (length-append, length-append) (omega (arith, row_some row (omega (arith, h.0.0.0, count_some l)))) in
      let read : read_row l road (drop (length front) (front ++ rest)) ≡ ReadRow row (length (row_bytes row)) =
      rw drop-append_seam (written_row l road row (rows_bytes rows) h.0.0 h.0.1) in
      let others = sheets_written rows (front ++ row_bytes row) left h.1 (omega arith) in
      more inside read (simp (append_assoc, length-append) at others)
