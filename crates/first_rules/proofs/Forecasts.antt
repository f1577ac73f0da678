-- A converted study forecasts as the original did by the first rules, and one that does not convert is refused by them.
use Prim.Native.Nat.{ℕ, ◌+◌}
use mathlib.Core.Path.{◌≡◌, refl, sym, ap, ◌∙◌, fun_ext}
use mathlib.Core.List.{List, [], ◌∷◌, map}
use lib.ListN.{take}
use Rattle.numbers.specs.Number.{Bytes}
use Rattle.numbers.specs.Row.{Rows}
use Rattle.sheets.specs.Read.{padded}
use Rattle.conditions.specs.Conditions.{Conditions, Under, conditions_of}
use Rattle.facility.specs.Ledger.{Report, Trail, more_steps, Book, Rules, present, opened, conditions_by, reported_as, answer_by}
use Rattle.facility.specs.Verdicts.{Verdict, GoesOn, RefusedBy, report_verdict}
use Rattle.study.specs.Forecast.{Ended, RefusedStudy, line_of, listed, listing, whole, outcome_by, forecast_by}
use Rattle.convert.specs.declared.Way.{Way}
use Rattle.convert.specs.declared.Way.TheVariants.{ToSecond, ToFirst}
use Rattle.convert.specs.Sheet.{converted_row, sheet_in}
use Rattle.convert.specs.Convert.{sheets_from, Converted, conversion_of, convert_of}
use Rattle.convert.proofs.Rows.{Laned}
use Rattle.convert.proofs.Replies.{call_converted, call_unconverted}
use Rattle.convert.proofs.Faithful.{laned, Study, study_of, read_whole, whole_back, faithful}
use Rattle.convert.proofs.Refusals.{NotRead, no_road, no_sheet_lem, not_read}
use Rattle.first_rules.specs.First.{first_conditions, first_rules}
use Rattle.first_rules.specs.Statement.{SameForecast, FirstStatement, BackStatement}
use Rattle.first_rules.proofs.Outcomes.{after_period, ran_over, came_to, outcome_read, outcome_refused}
use Rattle.first_rules.proofs.Same.{same_under, same_none, converted_says}

-- ---- two books side by side: one by the first rules, one by the present ones
record Beside (road : List ℕ) (b c : Book) : Type 0 where
  first_road : b.road ≡ road
  second_road : c.road ≡ road
  conditions : conditions_by present c ≡ conditions_by first_rules b
  trail : c.trail ≡ b.trail

steps_same : (k : ℕ) (x y : Conditions) (s t : Trail) → x ≡ y → s ≡ t → more_steps x k s ≡ more_steps y k t
steps_same k x y s t e f = rw (e, f)

module _ (road : List ℕ) (has : Laned road) where
  opened_beside : Beside road (opened road) (opened road)
  opened_beside = record { first_road = refl; second_road = refl; conditions = same_none road has; trail = refl }

  period_beside : (b c : Book) → Beside road b c → (row : List ℕ) → Beside road (after_period first_rules b row) (after_period present c (converted_row ToSecond road row))
  period_beside b c h row =
      let e : conditions_of c.road (Under (padded (converted_row ToSecond road row))) ≡ first_conditions b.road (Under (padded row)) =
      ap (λ (r : List ℕ). conditions_of r (Under (padded (converted_row ToSecond road row)))) h.second_road
      ∙ same_under road has (padded row) (padded (converted_row ToSecond road row)) (converted_says road has row)
      ∙ sym (ap (λ (r : List ℕ). first_conditions r (Under (padded row))) h.first_road) in
      record { first_road = h.first_road; second_road = h.second_road; conditions = e; trail = steps_same whole _ _ _ _ e h.trail }

  ran_beside : (b c : Book) → Beside road b c → (rows : List (List ℕ)) → Beside road (ran_over first_rules b rows) (ran_over present c (map (converted_row ToSecond road) rows))
  ran_beside b c h [] = h
  ran_beside b c h (row ∷ rows) = ran_beside (after_period first_rules b row) (after_period present c (converted_row ToSecond road row)) (period_beside b c h row) rows

  -- they report and list the same
  reported_same : (b c : Book) → Beside road b c → (i : ℕ) (v : Verdict) → reported_as present c i v ≡ reported_as first_rules b i v
  reported_same b c h i GoesOn = rw (h.trail, h.conditions)
  reported_same b c h i (RefusedBy number) = refl

  report_same : (b c : Book) → Beside road b c → (i : ℕ) → answer_by present c (Report i) ≡ answer_by first_rules b (Report i)
  report_same b c h i =
      reported_same b c h i (report_verdict c.road i)
      ∙ ap (λ (r : List ℕ). reported_as first_rules b i (report_verdict r i)) (h.second_road ∙ sym h.first_road)

  listed_same : (b c : Book) → Beside road b c → listed present c ≡ listed first_rules b
  unfolding listed
  listed_same b c h =
      let roads : c.road ≡ b.road = h.second_road ∙ sym h.first_road in
      let lines = fun_ext (λ i. ap line_of (report_same b c h (i + 1))) in
      rw (lines, roads, h.trail)

-- ---- a study that converts
same_by : (bytes out : List ℕ) → Bytes bytes → Study ToSecond bytes out → SameForecast bytes out
unfolding forecast_by
same_by bytes out by s =
    let land = padded s.row in
    let others = map (converted_row ToSecond land) s.rows in
    let book = ran_over first_rules (opened land) s.rows in
    let converted = ran_over present (opened land) others in
    let first : outcome_by first_rules bytes ≡ Ended book =
    outcome_read first_rules bytes s.row s.used s.road ∙ ap (came_to first_rules (opened land)) (read_whole ToSecond bytes out s).sheets in
    let back = whole_back ToSecond bytes out by s in
    let second : outcome_by present out ≡ Ended converted =
    outcome_read present out s.row s.used back.road ∙ ap (came_to present (opened land)) back.sheets in
    let has = laned bytes s.row s.used s.road in
    let beside = ran_beside land has (opened land) (opened land) (opened_beside land has) s.rows in
    record {
      book = book;
      by_first = first;
      converted = converted;
      by_present = second;
      trail = beside.trail;
      listing = ap (listing present) second ∙ listed_same land has book converted beside ∙ sym (ap (listing first_rules) first);
    }

pub same_forecast : (bytes out : List ℕ) → Bytes bytes → conversion_of ToSecond bytes ≡ Converted out → SameForecast bytes out
same_forecast bytes out by e = same_by bytes out by (study_of ToSecond bytes out e)

-- ---- one that does not convert, but for a closed lane: rules that read its layout refuse it
refused_by : (way : Way) (rules : Rules) → ((road s : List ℕ) → rules.read road s ≡ sheet_in way road s) → (bytes : List ℕ) (number offset : ℕ) → NotRead way bytes number offset
    → outcome_by rules bytes ≡ RefusedStudy number offset
refused_by way rules same bytes number offset (no_road e) = outcome_refused rules bytes number offset e
refused_by way rules same bytes number offset (no_sheet_lem row used road e) =
    let read = ap (λ (f : List ℕ → Rows). sheets_from f 96 bytes used) (fun_ext (same (padded row))) in
    outcome_read rules bytes row used road ∙ ap (came_to rules (opened (padded row))) (read ∙ e)

-- ---- THE STATEMENTS, of every study and every target
pub theorem : (study target : List ℕ) → Bytes study → FirstStatement study target
theorem study target by = record {
  converts = λ count e. same_forecast study (take count (convert_of ToSecond study target).target) by (call_converted ToSecond study target count e);
  refuses = λ number offset e n.
      refused_by ToSecond first_rules (λ road s. refl) study number offset (not_read ToSecond study number offset tt (call_unconverted ToSecond study target number offset e n));
}

pub back_theorem : (study target : List ℕ) → Bytes study → BackStatement study target
back_theorem study target by = record {
  converts = λ count e.
      let out = take count (convert_of ToFirst study target).target in
      let f = faithful ToFirst study out by (call_converted ToFirst study target count e) in
      same_forecast out study f.bytes_too f.back;
  refuses = λ number offset e n m.
      refused_by ToFirst present (λ road s. refl) study number offset (not_read ToFirst study number offset m (call_unconverted ToFirst study target number offset e n));
}
