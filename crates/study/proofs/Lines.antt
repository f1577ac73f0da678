-- The lines of the listing, from the segment reports: one line, one line more, and all that a book's facility shows.
use Rattle.std.proofs.Common.{◌≡◌, ℕ, ◌+◌, true, refl, sym, ap, ◌∙◌, List, length, get_or, set, rules, arith, add-one, Option, Some, None, Result, Ok, Err}
use Rattle.std.specs.Prelude.{map}
use Rattle.std.specs.Result.{result_ok, IsOk}
use Rattle.std.proofs.lemmas.List.{map-set}
use mathlib.Core.Path.{fun_ext}
use borrow.Author.Tests.{ne_eqb}
use Rattle.refusals.specs.declared.Refusal.{Refusal}
use Rattle.refusals.specs.Numbers.{refusal_number}
use Rattle.numbers.proofs.Refusals.{refusal_named}
use Rattle.conditions.specs.Conditions.{segments}
use Rattle.steps.specs.Step.{replaced}
use Rattle.steps.proofs.Sums.{length_replaced}
use Rattle.door.specs.declared.Facility.{Facility}
use Rattle.door.specs.Sound.{sound}
use Rattle.door.proofs.Sound.{few_segments}
use Rattle.parts.specs.Parts.{road_globals}
use Rattle.facility.specs.declared.SegmentReport.{SegmentReport}
use Rattle.facility.specs.declared.Sums.{Sums}
use Rattle.facility.specs.Calls.{ReportReply, SumsReply, report_of, totals_of}
use Rattle.facility.specs.Results.{report_told, sums_told}
use Rattle.facility.specs.Answers.{report_says}
use Rattle.facility.specs.Ledger.{Report, Book, present, answer}
use Rattle.facility.proofs.Cases.{totals_sound}
use Rattle.facility.proofs.Partfeet.{kept_driven}
use Rattle.facility.proofs.Trail.{KeptBook}
use Rattle.facility.specs.View.{view}
use Rattle.facility.proofs.OneCall.{sound_view, reports}
use Rattle.study.specs.declared.shown.Line.{Line as SegmentLine}
use Rattle.study.specs.Forecast.{Line, Listing, no_line, line_of, lines_by, listed}
use Rattle.study.specs.Shown.{line_shown, line_at, shown}

-- a report's line, and none of a refused one
module _ (f : Facility) (i : ℕ) where
  pub line_is : (r : Result SegmentReport Refusal) (x : SegmentReport) → report_told r ≡ report_of f (i + 1) → result_ok r ≡ Some x
      → line_shown (Some (record { n = x.n; q = x.q; level = x.level; partfeet = x.partfeet })) ≡ line_at f i
  unfolding line_at
  line_is (Ok y) x e s =
      let same : y ≡ x = cc in
      ap (λ (z : SegmentReport). line_shown (Some (record { n = z.n; q = z.q; level = z.level; partfeet = z.partfeet }))) (sym same)
      ∙ ap (λ (q : ReportReply). line_of (report_says q)) e
  line_is (Err e) x h s = cc

  pub line_is_none : (r : Result SegmentReport Refusal) → report_told r ≡ report_of f (i + 1) → result_ok r ≡ None → no_line ≡ line_at f i
  unfolding line_at
  line_is_none (Ok y) e s = cc
  line_is_none (Err e) h s =
      let named = ne_eqb (refusal_number e) 0 (λ z. omega (arith, refusal_named e)) in
      rw (← h, named)

-- one line more
pub lines_more : (g : ℕ → Line) (i : ℕ) (lines : List (Option SegmentLine)) (line : Option SegmentLine)
    → map line_shown lines ≡ lines_by g i → line_shown line ≡ g i → map line_shown (set lines i line) ≡ lines_by g (i + 1)
unfolding lines_by replaced
lines_more g i lines line e h = rw (map-set, add-one, e, h)

pub lines_length : (g : ℕ → Line) (i : ℕ) → length (lines_by g i) ≡ 64
unfolding lines_by
lines_length g i = length_replaced g i _

lines_same : (g h : ℕ → Line) (k : ℕ) → ((i : ℕ) → g i ≡ h i) → lines_by g k ≡ lines_by h k
lines_same g h k e = ap (λ (x : ℕ → Line). lines_by x k) (fun_ext e)

-- the facility that shows a book shows the book's listing
pub shows : (b : Book) → KeptBook b → shown (view b) ≡ listed present b
unfolding shown listed line_at
shows b f =
    let lines =
    lines_same (λ i. line_of (report_says (report_of (view b) (i + 1)))) (λ i. line_of (answer b (Report (i + 1)))) (segments b.road)
    (λ i. ap line_of (reports b (i + 1) f)) in
    rw (totals_sound (view b) (sound_view b f), lines, kept_driven b.road b.trail (few_segments b.road f.road) f.kept.on_road)

-- a sound facility has totals
pub totals_given : (f : Facility) (r : Result Sums Refusal) → sound f ≡ true → sums_told r ≡ totals_of f → IsOk r
totals_given f (Ok s) h e = search rules
totals_given f (Err e) h k = absurd (omega (arith, refusal_named e, ap (λ (q : SumsReply). q.refusal) (k ∙ totals_sound f h)))

-- what it shows
pub shown_is : (f : Facility) (s : Sums) (lines : List (Option SegmentLine)) → sums_told (Ok s) ≡ totals_of f
    → map line_shown lines ≡ lines_by (line_at f) (get_or f.road 0 0)
    → ◌≡◌ {A = Listing} (record {
      refusal = 0;
      place = 0;
      segments = get_or f.road 0 0;
      arrived = s.arrived;
      left = s.left;
      stored = s.stored;
      partsteps = s.partsteps;
      origin = f.state.origin;
      lines = map line_shown lines;
      partfeet = s.partfeet;
    }) (shown f)
unfolding shown road_globals
shown_is f s lines e h = rw (← e, h) refl
