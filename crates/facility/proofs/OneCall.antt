-- One call: the facility that shows a book becomes the one that shows the book after the call, and the answer is the ledger's.
use Prim.Native.Nat.{ℕ, zero, suc, ◌+◌, ◌-◌, ◌≤◌, ◌<◌}
use mathlib.Core.Bool.{true, false}
use mathlib.Core.Path.{◌≡◌, refl, ap, ◌∙◌}
use mathlib.Core.List.{List, ◌∷◌}
use native.Mathlib.Omega.{arith}
use native.Mathlib.Nat.{add-zero}
use lib.Dec.{eqb}
use lib.ListN.{length}
use borrow.Author.Tests.{ne_eqb}
use Rattle.numbers.specs.Row.{Rows, ReadRow, RefusedAt}
use Rattle.sheets.specs.Read.{read_period}
use Rattle.sheets.proofs.Refusals.{period_refusal}
use Rattle.parts.specs.Allowed.{road_allowed}
use Rattle.conditions.specs.Conditions.{Conditions, SheetInForce, conditions_of, segments}
use Rattle.conditions.proofs.Good.{conditions_segments}
use Rattle.door.specs.Sound.{sheeted, sound}
use Rattle.running.specs.Steps.{sheet_by, conditions_on, step_of, steps_of}
use Rattle.facility.specs.Calls.{Reply, fresh_on, with_sheet, taken_by, take_of, ran_by, run_of, level_at, reported_by, report_of, totals_of}
use Rattle.facility.specs.Ledger.{Take, Run, Report, Totals, state_after, arrived_in, left_in, partsteps_in, step_from, more_steps, Book, present, conditions_by, take_by, opened, taken_as, with_taking, with_steps, ran_as, with_run, reported_as, answer, after}
use Rattle.facility.specs.Verdicts.{Verdict, GoesOn, RefusedBy, Taking, NotTaken, as_read, run_verdict, report_verdict}
use Rattle.facility.proofs.Verdicts.{take_cases, run_named, report_named, report_accepted}
use Rattle.facility.proofs.Cases.{take_by_lem, run_by, report_by, totals_sound}
use Rattle.facility.specs.View.{row_in, view}
use Rattle.facility.specs.Answers.{take_says, run_says, report_says, totals_say}
use Rattle.door.proofs.Sound.{sound_is, few_segments}
use Rattle.running.proofs.InForce.{sheeted_by_some}
use Rattle.facility.proofs.Tallies.{no_tallies, tally_at, tallies_more}
use Rattle.facility.proofs.Partfeet.{none_driven, partfeet_kept_at, partfeet_more, kept_driven}
use Rattle.facility.proofs.Trail.{KeptBook, SheetFits, unsheeted, sheeted_as, cells_more}

pub view_opened : (road : List ℕ) → road_allowed road ≡ true → fresh_on road ≡ view (opened road)
unfolding fresh_on arrived_in left_in partsteps_in
view_opened road ok = rw (← no_tallies (segments road) (few_segments road ok), ← none_driven (segments road) (few_segments road ok))

-- the facility has the book's sheet in force
fits_by : {road : List ℕ} {n : ℕ} {s : SheetInForce} → SheetFits road n s → sheet_by n (row_in s) ≡ s
fits_by unsheeted = refl
fits_by (sheeted_as some e) = sheeted_by_some _ _ some

fits_sheeted : {road : List ℕ} {n : ℕ} {s : SheetInForce} → SheetFits road n s → sheeted n road (row_in s) ≡ true
unfolding sheeted
fits_sheeted unsheeted = refl
fits_sheeted (sheeted_as {n = n} some e) = rw (ne_eqb n 0 (λ z. omega arith)) e

pub in_force_view : (b : Book) → SheetFits b.road b.taken b.sheet → conditions_on (view b) ≡ conditions_by present b
in_force_view b s = ap (conditions_of b.road) (fits_by s)

-- a number that is not 0 is told from 0
named : (e : ℕ) → 1 ≤ e → eqb e 0 ≡ false
named e h = ne_eqb e 0 (λ z. omega arith)

pub sound_view : (b : Book) → KeptBook b → sound (view b) ≡ true
sound_view b f = sound_is (view b) (record {
  road = f.road;
  few = f.few;
  short = f.short;
  sheet = fits_sheeted f.sheet;
  bounds = rw (← f.made) f.kept.bounds;
  tallies = rw (← f.made) f.kept.tallies;
  partfeet = rw (← f.made) f.kept.partfeet;
  sums = rw (← f.made) f.kept.sums;
})

-- a step of the facility is a step of the book
abbrev step_more : Book → Conditions → Book
step_more b c = record b { made = b.made + 1; trail = step_from c (state_after b.trail) ∷ b.trail }

one : (b : Book) → road_allowed b.road ≡ true → length (state_after b.trail).cells ≡ 64
    → step_of (view b) ≡ view (step_more b (conditions_on (view b)))
unfolding step_of arrived_in left_in partsteps_in
one b ok long =
    let c = conditions_on (view b) in
    let n = conditions_segments b.road _ in
    let few = few_segments b.road ok in
    rw (tallies_more c (segments b.road) b.trail n few long, partfeet_more c (segments b.road) b.trail n few)

pub steps_view : (b : Book) → KeptBook b → (n : ℕ) → steps_of n (view b) ≡ view (with_steps present n b)
unfolding steps_of
steps_view b k zero = rw add-zero
steps_view b k (suc n) =
    ap step_of (steps_view b k n)
    ∙ one (with_steps present n b) k.road (cells_more (conditions_by present b) n b.trail ∙ k.kept.cells)
    ∙ ap (λ (c : Conditions). view (step_more (with_steps present n b) c)) (in_force_view b k.sheet)
    ∙ ap (λ (m : ℕ). view (record b { made = m; trail = more_steps (conditions_by present b) (suc n) b.trail })) (omega arith)

-- a taking, by its verdict: the call answers and leaves what the ledger does
Takes : Book → Taking → Type 0
Takes b t = (take_says (taken_by (view b) t) ≡ taken_as t) × ((taken_by (view b) t).facility ≡ view (with_taking b t))

not_taken : (b : Book) (e at : ℕ) → 1 ≤ e → Takes b (NotTaken e at)
unfolding Takes
not_taken b e at h = (rw (named e h), refl)

takes_reading : (b : Book) (r : Rows) → ((e at : ℕ) → r ≡ RefusedAt e at → 1 ≤ e) → Takes b (as_read r)
unfolding Takes with_sheet
takes_reading b (ReadRow row used) h = (refl, refl)
takes_reading b (RefusedAt e at) h = not_taken b e at (h e at refl)

takes_by : (b : Book) (bytes : List ℕ) → Takes b (take_by present b bytes)
unfolding Takes with_sheet
takes_by b bytes =
    take_cases (read_period b.road) b.taken b.made bytes (Takes b) (not_taken b 12 0 (omega arith)) (not_taken b 13 0 (omega arith)) (not_taken b 10 0 (omega arith))
    (λ idle room some. (refl, refl)) (λ idle room. takes_reading b (read_period b.road bytes) (period_refusal b.road bytes))

pub takes : (b : Book) (bytes : List ℕ) → KeptBook b
    → (take_says (take_of (view b) bytes) ≡ answer b (Take bytes)) × ((take_of (view b) bytes).facility ≡ view (after b (Take bytes)))
unfolding Takes
takes b bytes f =
    let v = take_by_lem (view b) (sound_view b f) bytes _ refl in
    let r = takes_by b bytes in
    (ap take_says v ∙ r.0, ap (λ (q : Reply). q.facility) v ∙ r.1)

ran_by_lem : (b : Book) → KeptBook b → (k : ℕ) (v : Verdict) → ((e : ℕ) → v ≡ RefusedBy e → 1 ≤ e)
    → (run_says (ran_by (view b) k v) ≡ ran_as v) × ((ran_by (view b) k v).facility ≡ view (with_run present b k v))
ran_by_lem b s k GoesOn h = (refl, steps_view b s k)
ran_by_lem b s k (RefusedBy e) h = (rw (named e (h e refl)), refl)

pub runs : (b : Book) (k : ℕ) → KeptBook b
    → (run_says (run_of (view b) k) ≡ answer b (Run k)) × ((run_of (view b) k).facility ≡ view (after b (Run k)))
runs b k f =
    let v = run_by (view b) (sound_view b f) k _ refl in
    let r = ran_by_lem b f k (run_verdict b.taken b.made k) (run_named b.taken b.made k) in
    (ap run_says v ∙ r.0, ap (λ (q : Reply). q.facility) v ∙ r.1)

reported_by_lem : (b : Book) → KeptBook b → (i : ℕ) (v : Verdict) → ((e : ℕ) → v ≡ RefusedBy e → 1 ≤ e)
    → (v ≡ GoesOn → (1 ≤ i) × (i ≤ segments b.road)) → report_says (reported_by (view b) i v) ≡ reported_as present b i v
unfolding level_at
reported_by_lem b k i GoesOn h within =
    let w = within refl in
    let few = few_segments b.road k.road in
    let inside : i - 1 < segments b.road = omega (arith, w.0, w.1) in
    rw (in_force_view b k.sheet, tally_at (segments b.road) b.trail few (i - 1) inside, partfeet_kept_at (segments b.road) b.trail few (i - 1) inside)
reported_by_lem b k i (RefusedBy e) h within = rw (named e (h e refl))

pub reports : (b : Book) (i : ℕ) → KeptBook b → report_says (report_of (view b) i) ≡ answer b (Report i)
reports b i f =
    ap report_says (report_by (view b) (sound_view b f) i _ refl)
    ∙ reported_by_lem b f i (report_verdict b.road i) (report_named b.road i) (report_accepted b.road i)

pub sums : (b : Book) → KeptBook b → totals_say (totals_of (view b)) ≡ answer b Totals
sums b f = rw (totals_sound (view b) (sound_view b f), kept_driven b.road b.trail (few_segments b.road f.road) f.kept.on_road)
