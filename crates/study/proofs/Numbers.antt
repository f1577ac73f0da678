-- The numbers of a forecast: the first nine, then four for each line.
use Rattle.std.proofs.Common.{◌≡◌, ℕ, ◌+◌, ◌*◌, ◌≤◌, ◌<◌, refl, ap, ◌∙◌, List, ◌++◌, length, drop, get_or, replicate, slice_index_or, arith, Option, Ok}
use Rattle.std.specs.Prelude.{map}
use Rattle.std.proofs.lemmas.List.{length-map, get_or-map}
use borrow.Author.Tests.{lt-ltb, le-ltb}
use Rattle.numbers.proofs.Stores.{stored_to}
use Rattle.exports.specs.Rows.{joined, put_row}
use Rattle.exports.proofs.Joined.{row_more, rows_more, in_front, stored_all, joined_length}
use Rattle.facility.specs.Ledger.{Rules, present}
use Rattle.study.specs.declared.shown.Line.{Line as SegmentLine}
use Rattle.study.specs.declared.shown.Listing.{Listing as Shown}
use Rattle.study.specs.Forecast.{Line, Listing, listed, refused_listing, Outcome, Ended, RefusedStudy, listing, outcome_by, forecast_by, forecast_of}
use Rattle.study.specs.Export.{line_row, head_row, listing_numbers, room, export_answer, export_into}
use Rattle.study.specs.Shown.{line_shown, told}
use Rattle.study.proofs.Lines.{lines_length}

-- ---- every forecast has 64 lines, and so 265 numbers
outcome_lines : (rules : Rules) (o : Outcome) → length (listing rules o).lines ≡ 64
unfolding listed refused_listing
outcome_lines rules (Ended b) = lines_length _ _
outcome_lines rules (RefusedStudy number place) = refl

forecast_lines : (bytes : List ℕ) → length (forecast_of bytes).lines ≡ 64
unfolding forecast_by
forecast_lines bytes = outcome_lines present (outcome_by present bytes)

line_width : (l : Line) → length (line_row l) ≡ 4
unfolding line_row
line_width l = refl

number_count : (bytes : List ℕ) → length (listing_numbers (forecast_of bytes)) ≡ room
unfolding listing_numbers
number_count bytes = omega (arith, joined_length line_row 4 line_width (forecast_of bytes).lines, forecast_lines bytes)

module _ (x : Shown) where
  abbrev lines : List Line
  lines = map line_shown x.lines

  -- the first numbers of x as they are, and zeros behind them
  abbrev pub put_to : ℕ → List ℕ
  put_to k = stored_to (listing_numbers (told (Ok x))) (replicate room 0) k

  many_lines : length lines ≡ 64
  many_lines = length-map x.lines line_shown ∙ x.room

  all_length : length (listing_numbers (told (Ok x))) ≡ room
  unfolding listing_numbers
  all_length = omega (arith, joined_length line_row 4 line_width lines, many_lines)

  -- the head, and a line more
  pub put_head : put_row (head_row (told (Ok x))) (replicate room 0) 0 ≡ put_to 9
  unfolding listing_numbers
  put_head = row_more (listing_numbers (told (Ok x))) (replicate room 0) (head_row (told (Ok x))) (joined line_row lines) 0 (omega arith) refl

  pub put_more : (i : ℕ) (d : Option SegmentLine) → i < 64 → put_row (line_row (line_shown (get_or x.lines i d))) (put_to (9 + 4 * i)) (9 + 4 * i) ≡ put_to (9 + 4 * (i + 1))
  unfolding listing_numbers
  put_more i d h =
      let there : get_or lines i (line_shown d) ≡ line_shown (get_or x.lines i d) = get_or-map line_shown x.lines i d (line_shown d) (omega (arith, x.room)) in
      let end : 9 + 4 * i + 4 ≡ 9 + 4 * (i + 1) = omega arith in
      rw (← there)
      (rows_more line_row 4 line_width (head_row (told (Ok x))) lines (replicate room 0) (9 + 4 * i) i (line_shown d) (omega (arith, many_lines)) refl (omega (arith, all_length))
      ∙ ap put_to end)

  pub put_all : put_to room ≡ listing_numbers (told (Ok x))
  put_all = stored_all (listing_numbers (told (Ok x))) (replicate room 0) room all_length refl

-- ---- the export
pub too_short : (study out : List ℕ) → length out < room → (7 ≡ export_answer study out) × (out ≡ export_into study out)
unfolding export_answer export_into
too_short study out h = rw (lt-ltb (length out) room h) (refl, refl)

-- the first number is the refusal
first_number : (x : Listing) → slice_index_or (listing_numbers x) 0 0 ≡ x.refusal
unfolding listing_numbers
first_number x = refl

-- as many as there is room for
pub counted : (study numbers : List ℕ) → numbers ≡ listing_numbers (forecast_of study) → length numbers ≡ room
counted study numbers is = ap (length {A = ℕ}) is ∙ number_count study

pub filled : (study out numbers handed : List ℕ) → room ≤ length out → numbers ≡ listing_numbers (forecast_of study) → handed ≡ put_row numbers out 0
    → (slice_index_or numbers 0 0 ≡ export_answer study out) × (handed ≡ export_into study out)
unfolding export_answer export_into
filled study out numbers handed enough is put =
    let front = put ∙ in_front numbers out room (counted study numbers is) in
    rw (le-ltb (length out) room enough)
    (ap (λ (l : List ℕ). slice_index_or l 0 0) is ∙ first_number (forecast_of study), front ∙ ap (λ (l : List ℕ). l ++ drop room out) is)
