-- THE THEOREM of the listing's foot: of every study, whatever its bytes, the last line is the sum of the lines above it.
use Prim.Native.Nat.{ℕ, zero, suc, ◌+◌, ◌-◌, ◌<◌}
use mathlib.Core.Bool.{Bool, true, false}
use mathlib.Core.Path.{◌≡◌, refl, sym, ap, ◌∙◌}
use mathlib.Core.List.{List}
use native.Mathlib.Omega.{arith}
use lib.ListN.{length, drop}
use lib.Dec.{ltb}
use Rattle.std.specs.Prelude.{if◌then◌else◌}
use Rattle.parts.proofs.Good.{read_road_allowed}
use Rattle.numbers.specs.Row.{Rows, ReadRow, RefusedAt}
use Rattle.sheets.specs.Read.{read_road, padded}
use Rattle.conditions.specs.Conditions.{segments}
use Rattle.steps.specs.Step.{sum_to}
use Rattle.steps.proofs.Sums.{replaced_at, sum_same}
use Rattle.door.proofs.Sound.{few_segments}
use Rattle.facility.specs.Ledger.{Take, Run, Report, Answer, Refused, Taken, Ran, Reported, Summed, Book, present, partfeet_at, answer, after, reported_as}
use Rattle.facility.specs.Verdicts.{Verdict}
use Rattle.facility.proofs.Verdicts.{report_goes}
use Rattle.facility.proofs.Partfeet.{driven_summed}
use Rattle.facility.proofs.Trail.{KeptBook, kept_opened, kept_after}
use Rattle.study.specs.Forecast.{Line, no_line, line_of, lines_by, listed, refused_listing, Outcome, RefusedStudy, listing, after_sheet, whole, whole_period, periods, on_road, outcome_by, forecast_by, forecast_of}
use Rattle.study.specs.Foot.{AddsUp}

-- ---- of a book
module _ (b : Book) (k : KeptBook b) where
  line : ℕ → Line
  line i = line_of (answer b (Report (i + 1)))

  -- a segment's line has its part-feet
  line_feet : (i : ℕ) → i < segments b.road → (line i).partfeet ≡ partfeet_at b.trail i
  unfolding line
  line_feet i h =
      let goes = report_goes b.road (i + 1) (omega arith) (omega (arith, h)) in
      let back : i + 1 - 1 ≡ i = omega arith in
      ap (λ (v : Verdict). (line_of (reported_as present b (i + 1) v)).partfeet) goes ∙ ap (partfeet_at b.trail) back

  book_adds_up : AddsUp (listed present b)
  unfolding listed lines_by line
  book_adds_up =
      driven_summed b.road b.trail k.kept.on_road
      ∙ sum_same _ _ (segments b.road) (λ i h.
      sym (ap (λ (l : Line). l.partfeet) (replaced_at line (segments b.road) i _ no_line h (omega (arith, h, few_segments b.road k.road))) ∙ line_feet i h))

-- ---- of a study, sheet by sheet
OutcomeAddsUp : Outcome → Type 0
OutcomeAddsUp o = AddsUp (listing present o)

refused_adds_up : (number place : ℕ) → OutcomeAddsUp (RefusedStudy number place)
unfolding OutcomeAddsUp refused_listing sum_to
refused_adds_up number place = refl

sheet_adds_up : (a : Answer) (at : ℕ) (on : ℕ → Outcome) → ((n : ℕ) → OutcomeAddsUp (on n)) → OutcomeAddsUp (after_sheet a at on)
sheet_adds_up (Taken used) at on h = h (at + used)
sheet_adds_up (Refused number offset) at on h = refused_adds_up number (at + offset)
sheet_adds_up Ran at on h = h at
sheet_adds_up (Reported figures level tally partfeet) at on h = h at
sheet_adds_up (Summed arrived left stored partsteps partfeet) at on h = h at

either : (t : Bool) (o p : Outcome) → OutcomeAddsUp o → OutcomeAddsUp p → OutcomeAddsUp (if t then o else p)
either true o p h k = h
either false o p h k = k

module _ (bytes : List ℕ) where
  periods_add_up : (most : ℕ) (b : Book) (at : ℕ) → KeptBook b → OutcomeAddsUp (periods present most b bytes at)
  unfolding periods OutcomeAddsUp
  periods_add_up zero b at k = book_adds_up b k
  periods_add_up (suc most) b at k =
      let sheet = drop at bytes in
      let next = whole_period present b sheet in
      let kept = kept_after (after b (Take sheet)) (Run whole) (kept_after b (Take sheet) k) in
      either (ltb at (length bytes)) _ _ (sheet_adds_up (answer b (Take sheet)) at (periods present most next bytes) (λ n. periods_add_up most next n kept)) (book_adds_up b k)

  road_adds_up : (r : Rows) → read_road bytes ≡ r → OutcomeAddsUp (on_road present bytes r)
  road_adds_up (ReadRow row used) e = periods_add_up 97 _ used (kept_opened (padded row) (read_road_allowed bytes row used e))
  road_adds_up (RefusedAt number offset) e = refused_adds_up number offset

  -- THE THEOREM
  pub adds_up : AddsUp (forecast_of bytes)
  unfolding forecast_by outcome_by OutcomeAddsUp
  adds_up = road_adds_up (read_road bytes) refl
