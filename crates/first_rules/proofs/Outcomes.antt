-- What a study comes to by any rules, from the rows of its sheets: each is put in force, and its period run whole.
use Prim.Native.Nat.{ℕ, zero, suc, ◌+◌, ◌-◌, ◌≤◌, ◌<◌}
use mathlib.Core.Bool.{Bool, true, false}
use mathlib.Core.Path.{◌≡◌, refl, sym, ap, ◌∙◌}
use mathlib.Core.List.{List, [], ◌∷◌}
use native.Mathlib.Nat.{add-zero}
use native.Mathlib.Omega.{arith}
use lib.ListN.{length, drop, length-drop}
use lib.Dec.{ltb}
use borrow.Author.Tests.{ltb-true, ltb-false}
use Rattle.numbers.specs.Row.{Rows, ReadRow, RefusedAt}
use Rattle.sheets.specs.Read.{read_road, padded}
use Rattle.conditions.specs.Conditions.{Under}
use Rattle.facility.specs.Ledger.{Book, Rules, opened, take_by, taken_as, with_period, with_taking, with_steps, with_run}
use Rattle.facility.specs.Verdicts.{Taking, NewSheet, as_read, unfinished}
use Rattle.facility.proofs.Verdicts.{take_full, take_reads}
use Rattle.study.specs.Forecast.{Outcome, Ended, RefusedStudy, after_sheet, whole, whole_period, periods, on_road, outcome_by}
use Rattle.study.proofs.Periods.{finished, goes_whole, sheet_by_lem, end_by}
use Rattle.convert.specs.Convert.{Sheets, AllSheets, RefusedSheet, onto_sheets, and_sheets, sheets_from}
use Rattle.convert.proofs.Sheets.{from_more, from_full, from_end}

-- the book after a sheet's period
abbrev pub after_period : Rules → Book → (row : List ℕ) → Book
after_period rules b row = with_steps rules whole (with_period b (Under (padded row)))

abbrev pub ran_over : Rules → Book → List (List ℕ) → Book
ran_over rules b [] = b
ran_over rules b (row ∷ rows) = ran_over rules (after_period rules b row) rows

abbrev pub came_to : Rules → Book → Sheets → Outcome
came_to rules b (AllSheets rows) = Ended (ran_over rules b rows)
came_to rules b (RefusedSheet number offset) = RefusedStudy number offset

module _ (rules : Rules) (bytes : List ℕ) where
  ran_onto : (b : Book) (row : List ℕ) (s : Sheets) → came_to rules (after_period rules b row) s ≡ came_to rules b (onto_sheets row s)
  unfolding onto_sheets
  ran_onto b row (AllSheets rows) = refl
  ran_onto b row (RefusedSheet number offset) = refl

  -- a sheet that is taken has its period run whole
  period_is : (b : Book) (s row : List ℕ) (used : ℕ) → take_by rules b s ≡ NewSheet row used → whole_period rules b s ≡ after_period rules b row
  period_is b s row used e =
      ap (with_run rules (with_taking b (take_by rules b s)) whole) (goes_whole rules b s used (ap taken_as e))
      ∙ ap (λ (t : Taking). with_steps rules whole (with_taking b t)) e

  sheet_step : (b : Book) (at : ℕ) (on : ℕ → Outcome) (rest : ℕ → Sheets) (r : Rows)
      → ((row : List ℕ) (used : ℕ) → r ≡ ReadRow row used → on (at + used) ≡ came_to rules (after_period rules b row) (rest (at + used)))
      → after_sheet (taken_as (as_read r)) at on ≡ came_to rules b (and_sheets at r rest)
  unfolding and_sheets
  sheet_step b at on rest (ReadRow row used) h = h row used refl ∙ ran_onto b row (rest (at + used))
  sheet_step b at on rest (RefusedAt number offset) h = refl

  -- the periods from a book on are those of its sheets
  periods_end : (left : ℕ) (b : Book) (at : ℕ) → length bytes ≤ at → periods rules (suc left) b bytes at ≡ came_to rules b (sheets_from (rules.read b.road) left bytes at)
  periods_end left b at h = end_by rules (suc left) b bytes at h ∙ sym (ap (came_to rules b) (from_end (rules.read b.road) bytes left at h))

  periods_full : (b : Book) (at : ℕ) → unfinished b.taken b.made ≡ false → b.taken + 0 ≡ 96 → at < length bytes
      → periods rules 1 b bytes at ≡ came_to rules b (sheets_from (rules.read b.road) 0 bytes at)
  periods_full b at idle full h =
      sheet_by_lem rules 1 b bytes at (omega arith) h
      ∙ ap (λ (t : Taking). after_sheet (taken_as t) at (periods rules 0 (whole_period rules b (drop at bytes)) bytes)) (take_full (rules.read b.road) b.taken b.made (drop at bytes) idle (omega arith))
      ∙ ap (RefusedStudy 13) (add-zero at)
      ∙ sym (ap (came_to rules b) (from_full (rules.read b.road) bytes at h))

  periods_more : (left : ℕ) (b : Book) (at : ℕ) → unfinished b.taken b.made ≡ false → b.taken + suc left ≡ 96 → at < length bytes
      → ((c : Book) (n : ℕ) → unfinished c.taken c.made ≡ false → c.taken + left ≡ 96
      → periods rules (suc left) c bytes n ≡ came_to rules c (sheets_from (rules.read c.road) left bytes n))
      → periods rules (suc (suc left)) b bytes at ≡ came_to rules b (sheets_from (rules.read b.road) (suc left) bytes at)
  periods_more left b at idle room h ih =
      let read = rules.read b.road in
      let s = drop at bytes in
      let next = whole_period rules b s in
      let less : suc (suc left) - 1 ≡ suc left = omega arith in
      let taking : take_by rules b s ≡ as_read (read s) = take_reads read b.taken b.made s idle (omega arith) (omega (arith, h, length-drop at bytes)) in
      let on : (row : List ℕ) (used : ℕ) → read s ≡ ReadRow row used
      → periods rules (suc (suc left) - 1) next bytes (at + used) ≡ came_to rules (after_period rules b row) (sheets_from read left bytes (at + used)) =
      λ row used e.
      ap (λ (m : ℕ). periods rules m next bytes (at + used)) less
      ∙ ap (λ (c : Book). periods rules (suc left) c bytes (at + used)) (period_is b s row used (taking ∙ ap as_read e))
      ∙ ih (after_period rules b row) (at + used) (finished (b.taken + 1) (0 + whole) (omega arith)) (omega arith) in
      sheet_by_lem rules (suc (suc left)) b bytes at (omega arith) h
      ∙ ap (λ (t : Taking). after_sheet (taken_as t) at (periods rules (suc (suc left) - 1) next bytes)) taking
      ∙ sheet_step b at (periods rules (suc (suc left) - 1) next bytes) (sheets_from read left bytes) (read s) on
      ∙ sym (ap (came_to rules b) (from_more read bytes left at h))

  by_test : (left : ℕ) (b : Book) (at : ℕ) → unfinished b.taken b.made ≡ false → b.taken + left ≡ 96
      → (at < length bytes → periods rules (suc left) b bytes at ≡ came_to rules b (sheets_from (rules.read b.road) left bytes at))
      → (t : Bool) → ltb at (length bytes) ≡ t → periods rules (suc left) b bytes at ≡ came_to rules b (sheets_from (rules.read b.road) left bytes at)
  by_test left b at idle room h true t = h (ltb-true at (length bytes) t)
  by_test left b at idle room h false t = periods_end left b at (ltb-false at (length bytes) t)

  periods_by : (left : ℕ) (b : Book) (at : ℕ) → unfinished b.taken b.made ≡ false → b.taken + left ≡ 96
      → periods rules (suc left) b bytes at ≡ came_to rules b (sheets_from (rules.read b.road) left bytes at)
  periods_by zero b at idle room = by_test zero b at idle room (periods_full b at idle room) (ltb at (length bytes)) refl
  periods_by (suc left) b at idle room = by_test (suc left) b at idle room (λ h. periods_more left b at idle room h (periods_by left)) (ltb at (length bytes)) refl

  -- the whole study
  pub outcome_read : (row : List ℕ) (used : ℕ) → read_road bytes ≡ ReadRow row used
      → outcome_by rules bytes ≡ came_to rules (opened (padded row)) (sheets_from (rules.read (padded row)) 96 bytes used)
  unfolding outcome_by unfinished
  outcome_read row used e = ap (on_road rules bytes) e ∙ periods_by 96 (opened (padded row)) used refl refl

  pub outcome_refused : (number offset : ℕ) → read_road bytes ≡ RefusedAt number offset → outcome_by rules bytes ≡ RefusedStudy number offset
  unfolding outcome_by
  outcome_refused number offset e = ap (on_road rules bytes) e
