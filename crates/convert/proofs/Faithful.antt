-- Conversions there and back: a study that converts is read whole, its result is read whole with the same road, and converts back to its bytes.
use Prim.Native.Nat.{ℕ, zero, suc, ◌≤◌}
use mathlib.Core.Path.{◌≡◌, refl, sym, ap, ◌∙◌, fun_ext}
use mathlib.Core.List.{List, [], ◌∷◌, ◌++◌, map}
use native.Mathlib.Omega.{arith}
use lib.ListN.{length, take, drop, get_or, take-append-drop}
use lib.Seq.{take_at}
use Rattle.std.proofs.lemmas.List.{length-map}
use Rattle.numbers.specs.Number.{Bytes}
use Rattle.numbers.proofs.Round.{bytes_both}
use Rattle.numbers.specs.Row.{Rows, ReadRow, RefusedAt}
use Rattle.sheets.specs.declared.Layout.{Layout}
use Rattle.sheets.specs.declared.Layout.TheVariants.{Road}
use Rattle.sheets.specs.Layout.{RowOf}
use Rattle.sheets.specs.Read.{read_row, read_road, padded}
use Rattle.sheets.specs.Write.{row_bytes, rows_bytes}
use Rattle.sheets.proofs.Ranges.{LanesFit}
use Rattle.sheets.proofs.Round.{Fitting, fitting, row_bytes_lem, row_ranged, row_back, road_back, road_ranged, written_road}
use Rattle.parts.specs.Parts.{road_globals, segment_of}
use Rattle.parts.specs.Good.{GoodRoad}
use Rattle.parts.proofs.Good.{good_road, read_road_allowed}
use Rattle.convert.specs.declared.Way.{Way}
use Rattle.convert.specs.declared.Way.TheVariants.{ToSecond, ToFirst}
use Rattle.convert.specs.Sheet.{layout_from, layout_to, converted_row, converted_by, converted_sheet}
use Rattle.convert.specs.Convert.{Sheets, AllSheets, RefusedSheet, sheets_from, Converted, behind, converted_on, conversion_of}
use Rattle.convert.specs.Statement.{EverySheet, back_of, ReadWhole, Faithful, BackExactly}
use Rattle.convert.proofs.Rows.{Laned, Open, converted_row_lem, converted_back_open, row_again}
use Rattle.convert.proofs.Closed.{converted_is, converted_open_back, converted_read}
use Rattle.convert.proofs.Sheets.{Sheeted, end, more, sheeted, all_sheets, sheets_back, sheets_written}
use Rattle.convert.proofs.Read.{sheet_in_lem}

-- a road that was read has lanes
good_laned : (road : List ℕ) → GoodRoad road → Laned road
unfolding road_globals segment_of
good_laned road good = record { segments = good.segments; lanes = λ i h. (good.segment i h).lanes }

pub laned : (bytes row : List ℕ) (used : ℕ) → read_road bytes ≡ ReadRow row used → Laned (padded row)
laned bytes row used e = good_laned (padded row) (good_road (padded row) (read_road_allowed bytes row used e))

-- ---- the sheets converted are those read, each converted
-- the layout of the sheets of a study on a road, by where the conversion leads
abbrev layout_in : Way → List ℕ → Layout
layout_in way road = layout_from way (get_or road 0 0)

module _ (way : Way) (road : List ℕ) (has : Laned road) where
  from_by : (s : List ℕ) (r : Rows) → read_row (layout_in way road) road s ≡ r → (row : List ℕ) (used : ℕ) → converted_by way road r ≡ ReadRow row used
      → (from : List ℕ) × (read_row (layout_in way road) road s ≡ ReadRow from used) × (row ≡ converted_row way road from) × Open way road from
  from_by s (ReadRow from n) e row used t =
      let i = converted_is way road from n row used t in
      let o = converted_open_back way road from has (row_ranged (layout_in way road) road s from n e) n row used t in
      (from, e ∙ ap (ReadRow from) (sym i.1), i.0, o)
  from_by s (RefusedAt number offset) e row used t = absurd (let z : ◌≡◌ {A = ℕ} 0 1 = cc in omega arith)

  converted_from_lem : (s row : List ℕ) (used : ℕ) → converted_sheet way road s ≡ ReadRow row used
      → (from : List ℕ) × (read_row (layout_in way road) road s ≡ ReadRow from used) × (row ≡ converted_row way road from) × Open way road from
  unfolding converted_sheet
  converted_from_lem s row used t = from_by s (read_row (layout_in way road) road s) refl row used (rw (sheet_in_lem way road s) at t)

  converted_to : (s from : List ℕ) (used : ℕ) → read_row (layout_in way road) road s ≡ ReadRow from used → Open way road from → converted_sheet way road s ≡ ReadRow (converted_row way road from) used
  unfolding converted_sheet
  converted_to s from used e o = ap (converted_by way road) (sheet_in_lem way road s ∙ e) ∙ converted_read way road from o used

  -- the sheets that were converted
  record Origin (bytes : List ℕ) (left at : ℕ) (rows : List (List ℕ)) : Type 0 where
    from : List (List ℕ)
    read : Sheeted (read_row (layout_in way road) road) bytes left at from
    each : rows ≡ map (converted_row way road) from
    opened : EverySheet (Open way road) from

  sheets_from_lem : (bytes : List ℕ) {left at : ℕ} {rows : List (List ℕ)} → Sheeted (converted_sheet way road) bytes left at rows → Origin bytes left at rows
  sheets_from_lem bytes (end h) = record { from = []; read = end h; each = refl; opened = tt }
  sheets_from_lem bytes (more {left} {at} {row} {used} {rows} h e t) =
      let g = converted_from_lem (drop at bytes) row used e in
      let others = sheets_from_lem bytes t in
      record {
        from = g.0 ∷ others.from;
        read = more h g.1 others.read;
        each = ap (λ (x : List ℕ). x ∷ rows) g.2 ∙ ap (◌∷◌ (converted_row way road g.0)) others.each;
        opened = (g.3, others.opened);
      }

  sheets_to : (bytes : List ℕ) {left at : ℕ} {from : List (List ℕ)} → Sheeted (read_row (layout_in way road) road) bytes left at from → EverySheet (Open way road) from
      → Sheeted (converted_sheet way road) bytes left at (map (converted_row way road) from)
  sheets_to bytes (end h) o = end h
  sheets_to bytes (more {left} {at} {row} {used} {rows} h e t) o = more h (converted_to (drop at bytes) row used e o.0) (sheets_to bytes t o.1)

-- ---- a study that converts, by its parts
pub record Study (way : Way) (bytes out : List ℕ) : Type 0 where
  pub row : List ℕ
  pub used : ℕ
  pub rows : List (List ℕ)
  pub road : read_road bytes ≡ ReadRow row used
  pub sheets : Sheeted (read_row (layout_in way (padded row)) (padded row)) bytes 96 used rows
  pub opened : EverySheet (Open way (padded row)) rows
  pub result : out ≡ take used bytes ++ rows_bytes (map (converted_row way (padded row)) rows)

behind_back : (part : List ℕ) (s : Sheets) (out : List ℕ) → behind part s ≡ Converted out → (rows : List (List ℕ)) × (s ≡ AllSheets rows) × (out ≡ part ++ rows_bytes rows)
unfolding behind
behind_back part (AllSheets rows) out e = (rows, refl, cc)
behind_back part (RefusedSheet number offset) out e = absurd (let z : ◌≡◌ {A = ℕ} 0 1 = cc in omega arith)

study_on : (way : Way) (bytes out : List ℕ) (r : Rows) → read_road bytes ≡ r → converted_on way bytes r ≡ Converted out → Study way bytes out
study_on way bytes out (RefusedAt number offset) road e = absurd (let z : ◌≡◌ {A = ℕ} 0 1 = cc in omega arith)
study_on way bytes out (ReadRow row used) road e =
    let b = behind_back (take used bytes) (sheets_from (converted_sheet way (padded row)) 96 bytes used) out e in
    let o = sheets_from_lem way (padded row) (laned bytes row used road) bytes (sheeted (converted_sheet way (padded row)) bytes 96 used b.0 b.1) in
    record {
      row = row;
      used = used;
      rows = o.from;
      road = road;
      sheets = o.read;
      opened = o.opened;
      result = b.2 ∙ ap (λ (rows : List (List ℕ)). take used bytes ++ rows_bytes rows) o.each;
    }

pub study_of : (way : Way) (bytes out : List ℕ) → conversion_of way bytes ≡ Converted out → Study way bytes out
unfolding conversion_of
study_of way bytes out e = study_on way bytes out (read_road bytes) refl e

converts : (way : Way) (bytes out : List ℕ) → Study way bytes out → conversion_of way bytes ≡ Converted out
unfolding conversion_of behind
converts way bytes out s =
    let road = padded s.row in
    let all = all_sheets (converted_sheet way road) bytes (sheets_to way road (laned bytes s.row s.used s.road) bytes s.sheets s.opened) in
    ap (converted_on way bytes) s.road ∙ ap (behind (take s.used bytes)) all ∙ ap Converted (sym s.result)

-- its sheets, read whole
pub read_whole : (way : Way) (bytes out : List ℕ) (s : Study way bytes out) → ReadWhole way bytes s.row s.used s.rows
read_whole way bytes out s =
    let road = padded s.row in
    record {
      road = s.road;
      sheets = ap (λ (sheet : List ℕ → Rows). sheets_from sheet 96 bytes s.used) (fun_ext (sheet_in_lem way road)) ∙ all_sheets (read_row (layout_in way road) road) bytes s.sheets;
    }

-- ---- there and back
bytes_taken : (n : ℕ) (s : List ℕ) → Bytes s → Bytes (take n s)
bytes_taken zero s by i = omega arith
bytes_taken (suc n) [] by i = omega arith
bytes_taken (suc n) (b ∷ s) by zero = by 0
bytes_taken (suc n) (b ∷ s) by (suc i) = bytes_taken n s (λ j. by (suc j)) i

rows_bytes_lem : (rows : List (List ℕ)) → EverySheet (λ row. Bytes (row_bytes row)) rows → Bytes (rows_bytes rows)
unfolding rows_bytes
rows_bytes_lem [] h = λ i. omega arith
rows_bytes_lem (row ∷ rows) h = bytes_both (row_bytes row) (rows_bytes rows) h.0 (rows_bytes_lem rows h.1)

every_map : (f : List ℕ → List ℕ) (P Q : List ℕ → Type 0) → ((row : List ℕ) → P row → Q (f row)) → (rows : List (List ℕ)) → EverySheet P rows → EverySheet Q (map f rows)
every_map f P Q h [] e = tt
every_map f P Q h (row ∷ rows) e = (h row e.0, every_map f P Q h rows e.1)

every_on : (P Q : List ℕ → Type 0) → ((row : List ℕ) → P row → Q row) → (rows : List (List ℕ)) → EverySheet P rows → EverySheet Q rows
every_on P Q h [] e = tt
every_on P Q h (row ∷ rows) e = (h row e.0, every_on P Q h rows e.1)

every_both : (P Q : List ℕ → Type 0) (rows : List (List ℕ)) → EverySheet P rows → EverySheet Q rows → EverySheet (λ row. P row × Q row) rows
every_both P Q [] p q = tt
every_both P Q (row ∷ rows) p q = ((p.0, q.0), every_both P Q rows p.1 q.1)

map_again : (f g : List ℕ → List ℕ) (P : List ℕ → Type 0) → ((row : List ℕ) → P row → g (f row) ≡ row) → (rows : List (List ℕ)) → EverySheet P rows → map g (map f rows) ≡ rows
map_again f g P h [] e = refl
map_again f g P h (row ∷ rows) e = rw (h row e.0, map_again f g P h rows e.1)

layout_back : (way : Way) (ns : ℕ) → layout_from (back_of way) ns ≡ layout_to way ns
layout_back ToSecond ns = refl
layout_back ToFirst ns = refl

to_fits : (way : Way) (road : List ℕ) → Laned road → LanesFit (layout_to way (get_or road 0 0)) road
to_fits ToSecond road has = λ i h. omega (arith, (has.lanes i (omega arith)).1)
to_fits ToFirst road has = tt

sheeted_as : (sheet : List ℕ → Rows) (a b : List ℕ) (left i j : ℕ) (rows : List (List ℕ)) → a ≡ b → i ≡ j → Sheeted sheet a left i rows → Sheeted sheet b left j rows
sheeted_as sheet a b left i j rows e f h = rw (← e, ← f) h

module _ (way : Way) (bytes out : List ℕ) (by : Bytes bytes) (s : Study way bytes out) where
  abbrev land : List ℕ
  land = padded s.row

  has : Laned land
  has = laned bytes s.row s.used s.road

  -- the road's bytes, and those of the sheets
  road_bytes : (take s.used bytes ≡ row_bytes s.row) × (s.used ≡ length (row_bytes s.row))
  road_bytes = row_back (Road (get_or s.row 0 0)) [] bytes s.row s.used by (road_back bytes s.row s.used s.road)

  road_size : length (take s.used bytes) ≡ s.used
  road_size = ap length road_bytes.0 ∙ sym road_bytes.1

  rest : (drop s.used bytes ≡ rows_bytes s.rows) × EverySheet (RowOf (layout_in way land) land) s.rows × (length s.rows ≤ 96)
  rest = sheets_back (layout_in way land) land bytes by s.sheets

  abbrev others : List (List ℕ)
  others = map (converted_row way land) s.rows

  -- the result has the same road
  same_road : read_road out ≡ ReadRow s.row s.used
  same_road =
      ap read_road (s.result ∙ ap (λ (front : List ℕ). front ++ rows_bytes others) road_bytes.0)
      ∙ written_road s.row (rows_bytes others) (road_ranged bytes s.row s.used s.road)
      ∙ ap (ReadRow s.row) (sym road_bytes.1)

  same_part : take s.used out ≡ take s.used bytes
  same_part = ap (take s.used) s.result ∙ take_at (take s.used bytes) (rows_bytes others) s.used road_size

  -- and the sheets converted
  others_rows : EverySheet (RowOf (layout_to way (get_or land 0 0)) land) others
  others_rows = every_map (converted_row way land) (RowOf (layout_in way land) land) (RowOf (layout_to way (get_or land 0 0)) land) (converted_row_lem way land has) s.rows rest.1

  fits : EverySheet Fitting others
  fits = every_on (RowOf (layout_to way (get_or land 0 0)) land) Fitting (λ row r. fitting (layout_to way (get_or land 0 0)) land row (to_fits way land has) r) others others_rows

  -- they are bytes
  out_bytes : Bytes out
  out_bytes =
      let others_bytes = rows_bytes_lem others (every_on Fitting (λ row. Bytes (row_bytes row)) row_bytes_lem others fits) in
      rw s.result (bytes_both (take s.used bytes) (rows_bytes others) (bytes_taken s.used bytes by) others_bytes)

  written_others : Sheeted (read_row (layout_to way (get_or land 0 0)) land) out 96 s.used others
  written_others =
      let l = layout_to way (get_or land 0 0) in
      let fine = every_both (RowOf l land) Fitting others others_rows fits in
      sheeted_as (read_row l land) (take s.used bytes ++ rows_bytes others) out 96 (length (take s.used bytes)) s.used others (sym s.result) road_size
      (sheets_written l land others (take s.used bytes) 96 fine (omega (arith, length-map s.rows (converted_row way land), rest.2)))

  -- which is a study that converts back
  rows_again : map (converted_row (back_of way) land) others ≡ s.rows
  rows_again =
      map_again (converted_row way land) (converted_row (back_of way) land) (λ row. RowOf (layout_in way land) land row × Open way land row) (λ row h. row_again way land row h.0 h.1) s.rows
      (every_both (RowOf (layout_in way land) land) (Open way land) s.rows rest.1 s.opened)

  bytes_again : bytes ≡ take s.used out ++ rows_bytes (map (converted_row (back_of way) land) others)
  bytes_again =
      sym (take-append-drop s.used bytes)
      ∙ ap (λ (tail : List ℕ). take s.used bytes ++ tail) (rest.0 ∙ ap rows_bytes (sym rows_again))
      ∙ ap (λ (front : List ℕ). front ++ rows_bytes (map (converted_row (back_of way) land) others)) (sym same_part)

  study_back : Study (back_of way) out bytes
  study_back = record {
    row = s.row;
    used = s.used;
    rows = others;
    road = same_road;
    sheets = rw (layout_back way (get_or land 0 0)) written_others;
    opened = every_map (converted_row way land) (RowOf (layout_in way land) land) (Open (back_of way) land) (λ row r. converted_back_open way land has row) s.rows rest.1;
    result = bytes_again;
  }

  pub whole_back : ReadWhole (back_of way) out s.row s.used others
  unfolding study_back
  whole_back = read_whole (back_of way) out bytes study_back

-- ---- the claims
same_row : (a b : List ℕ) (m n : ℕ) → ReadRow a m ≡ ReadRow b n → (a ≡ b) × (m ≡ n)
same_row a b m n e = (cc, cc)

pub faithful : (way : Way) (bytes out : List ℕ) → Bytes bytes → conversion_of way bytes ≡ Converted out → Faithful way bytes out
faithful way bytes out by e =
    let s = study_of way bytes out e in
    record {
      bytes_too = out_bytes way bytes out by s;
      back = converts (back_of way) out bytes (study_back way bytes out by s);
      road = λ row used r.
          let same = same_row s.row row s.used used (sym s.road ∙ r) in
          (same_road way bytes out by s ∙ sym s.road ∙ r, rw same.1 at (same_part way bytes out by s));
    }

pub back_exactly : (bytes : List ℕ) → BackExactly bytes
back_exactly bytes = record {
  only = λ out e.
      let s = study_of ToFirst bytes out e in
      record { row = s.row; used = s.used; rows = s.rows; whole = read_whole ToFirst bytes out s; opened = s.opened };
  whenever = λ b.
      let road = padded b.row in
      let read = sym (ap (λ (sheet : List ℕ → Rows). sheets_from sheet 96 bytes b.used) (fun_ext (sheet_in_lem ToFirst road))) ∙ b.whole.sheets in
      let out = take b.used bytes ++ rows_bytes (map (converted_row ToFirst road) b.rows) in (
        out,
        converts ToFirst bytes out (record {
          row = b.row;
          used = b.used;
          rows = b.rows;
          road = b.whole.road;
          sheets = sheeted (read_row (layout_in ToFirst road) road) bytes 96 b.used b.rows read;
          opened = b.opened;
          result = refl;
        }),
      );
}
