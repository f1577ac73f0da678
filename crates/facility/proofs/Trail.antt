-- Every book that a list of calls leads to: its steps are right, its sums balance, and its counts fit. It names no facility.
use Prim.Native.Nat.{ℕ, zero, suc, ◌+◌, ◌-◌, ◌≤◌, ◌<◌}
use mathlib.Core.Bool.{Bool, true, false, ◌&&◌}
use mathlib.Core.Path.{◌≡◌, refl, ap, ◌∙◌, subst}
use mathlib.Core.List.{List, [], ◌∷◌}
use native.Mathlib.Omega.{arith}
use native.Mathlib.Numerals.{add-one}
use lib.ListN.{length}
use lib.Dec.{ltb}
use borrow.Author.Tests.{ltb-false}
use Rattle.parts.specs.Allowed.{road_allowed, period_allowed}
use Rattle.parts.specs.Good.{GoodRoad}
use Rattle.parts.proofs.Good.{good_road, good_period, read_period_allowed}
use Rattle.numbers.specs.Row.{Rows, ReadRow, RefusedAt}
use Rattle.sheets.specs.Read.{read_period}
use Rattle.segment.specs.declared.Cell.{Cell}
use Rattle.conditions.specs.Conditions.{Conditions, SheetInForce, None, Under, conditions_of, segments}
use Rattle.steps.specs.Step.{cell_in, stepped, fresh_state, arrived_of, left_of, stored_of, sum_to}
use Rattle.conditions.proofs.Good.{GoodSheet, none as none-sheet, under, good_conditions, conditions_segments}
use Rattle.steps.specs.Tallies.{tallied}
use Rattle.steps.specs.Driven.{driven}
use Rattle.steps.specs.Bounded.{Bounded, BoundedTallies, BoundedPartfeet}
use Rattle.steps.proofs.Tallies.{tallied_bounded, bounded_fresh as tallies_fresh}
use Rattle.steps.proofs.Driven.{bounded_driven, partfeet_fresh}
use Rattle.steps.proofs.Laws.{stepped_length}
use Rattle.steps.proofs.Bounds.{bounded_after, bounded_fresh, cell_fresh, arrived_most, left_most}
use Rattle.steps.proofs.Claims.{stepped_holds}
use Rattle.door.specs.Sound.{steps_by}
use Rattle.facility.specs.Ledger.{Call, Take, Run, Report, Totals, Trail, state_after, arrived_in, left_in, partsteps_in, step_from, more_steps, Book, present, conditions_by, opened, with_period, with_taking, with_run, after}
use Rattle.facility.specs.Verdicts.{Verdict, GoesOn, RefusedBy, as_read, unfinished, run_verdict}
use Rattle.facility.proofs.Verdicts.{take_cases, run_accepted}
use Rattle.facility.specs.Claims.{Every, none, and, Chained, start, link, Right, Balanced, nothing, still}
use Rattle.facility.specs.View.{tallies_of, partfeet_kept}
use Rattle.facility.proofs.Tallies.{OnRoad, on_road, no_tallies, tallies_more}
use Rattle.facility.proofs.Partfeet.{none_driven, partfeet_more}
use Rattle.door.proofs.Sound.{BoundedSums, few_segments}

-- the invariant of a trail on a road: its steps are right and made on that road, and what it leaves is bounded
pub record KeptTrail (road : List ℕ) (t : Trail) : Type 0 where
  pub right : Every Right t
  pub on_road : Every (OnRoad road) t
  pub chained : Chained t
  pub balanced : Balanced t
  pub cells : length (state_after t).cells ≡ 64
  pub bounds : Bounded (segments road) (length t) (state_after t)
  pub tallies : BoundedTallies (segments road) (length t) (tallies_of (segments road) t)
  pub partfeet : BoundedPartfeet (segments road) (length t) (partfeet_kept (segments road) t)
  pub balance : arrived_in t ≡ left_in t + stored_of (segments road) (state_after t)
  pub sums : BoundedSums (length t) (arrived_in t) (left_in t) (partsteps_in t)

length_more : (c : Conditions) (n : ℕ) (t : Trail) → length (more_steps c n t) ≡ length t + n
length_more c zero t = omega arith
length_more c (suc n) t = omega (arith, length_more c n t)

pub cells_more : (c : Conditions) (n : ℕ) (t : Trail) → length (state_after (more_steps c n t)).cells ≡ length (state_after t).cells
cells_more c zero t = refl
cells_more c (suc n) t = stepped_length c (state_after (more_steps c n t)) ∙ cells_more c n t

module _ (road : List ℕ) (good : GoodRoad road) where
  -- a step more
  kept_step : (sheet : SheetInForce) → GoodSheet road sheet → (t : Trail) → length t < 5760 → KeptTrail road t
      → KeptTrail road (step_from (conditions_of road sheet) (state_after t) ∷ t)
  unfolding arrived_in left_in partsteps_in
  kept_step sheet fits t few k =
      let c = conditions_of road sheet in
      let n : c.segments ≡ segments road = conditions_segments road sheet in
      let state = state_after t in
      let long : c.segments ≤ length state.cells = omega (arith, k.cells, good.segments.1) in
      let force = good_conditions road sheet good fits in
      let bounds : Bounded c.segments (length t) state = rw n k.bounds in
      let holds = stepped_holds c state force bounds long in
      let a = arrived_most c force in
      let l = left_most c state force bounds in
      let s = k.sums in
      let kept : arrived_in t ≡ left_in t + stored_of c.segments state = rw n k.balance in
      let balance : arrived_in t + arrived_of c ≡ left_in t + left_of c.segments (stepped c state) + stored_of c.segments (stepped c state) =
      omega (arith, holds.balanced) in
      let counted = tallied_bounded c state (tallies_of (segments road) t) force bounds (rw n k.tallies) in
      let feet = bounded_driven c state long (length t) (partfeet_kept (segments road) t) force (rw n k.partfeet) in
      record {
        right = and holds k.right;
        on_road = and (on_road road sheet t) k.on_road;
        chained = link refl k.chained;
        balanced = still balance k.balanced;
        cells = stepped_length c state ∙ k.cells;
        bounds = rw (← add-one (length t)) (subst (λ (m : ℕ). Bounded m (length t + 1) (stepped c state)) n (bounded_after c state force bounds));
        tallies = rw (← add-one (length t), ← tallies_more c (segments road) t n good.segments.1 k.cells)
            (subst (λ (m : ℕ). BoundedTallies m (length t + 1) (tallied c state (tallies_of (segments road) t))) n counted);
        partfeet = rw (← add-one (length t), ← partfeet_more c (segments road) t n good.segments.1)
            (subst (λ (m : ℕ). BoundedPartfeet m (length t + 1) (driven c (stepped c state) (partfeet_kept (segments road) t))) n feet);
        balance = subst (λ (m : ℕ). arrived_in t + arrived_of c ≡ left_in t + left_of c.segments (stepped c state) + stored_of m (stepped c state)) n balance;
        sums = record {
          arrived_most = omega (arith, s.arrived_most);
          left_most = omega (arith, s.left_most);
          partsteps_most = omega (arith, s.partsteps_most, s.arrived_most);
        };
      }

  pub kept_more : (sheet : SheetInForce) → GoodSheet road sheet → (n : ℕ) (t : Trail) → length t + n ≤ 5760 → KeptTrail road t
      → KeptTrail road (more_steps (conditions_of road sheet) n t)
  kept_more sheet fits zero t few k = k
  kept_more sheet fits (suc n) t few k =
      let c = conditions_of road sheet in
      kept_step sheet fits (more_steps c n t) (omega (arith, length_more c n t)) (kept_more sheet fits n t (omega arith) k)

-- before any sheet is taken there is none; then it is one of the road's
pub data SheetFits (road : List ℕ) : ℕ → SheetInForce → Type 0 where
  unsheeted : SheetFits road 0 None
  sheeted_as : {n : ℕ} {period : List ℕ} → 0 < n → period_allowed road period ≡ true → SheetFits road n (Under period)

-- the invariant of a book
pub record KeptBook (b : Book) : Type 0 where
  pub road : road_allowed b.road ≡ true
  pub few : b.taken ≤ 96
  pub short : b.made ≤ 60
  pub sheet : SheetFits b.road b.taken b.sheet
  pub made : length b.trail ≡ steps_by b.taken b.made
  pub kept : KeptTrail b.road b.trail

-- a fresh road holds nothing
zeros : (g : ℕ → ℕ) (k : ℕ) → ((i : ℕ) → g i ≡ 0) → sum_to g k ≡ 0
unfolding sum_to
zeros g zero h = refl
zeros g (suc k) h = omega (arith, zeros g k h, h k)

kept_fresh : (road : List ℕ) → segments road ≤ 64 → KeptTrail road []
unfolding arrived_in left_in partsteps_in stored_of
kept_fresh road few = record {
  right = none;
  on_road = none;
  chained = start;
  balanced = nothing;
  cells = refl;
  bounds = bounded_fresh (segments road);
  tallies = rw (← no_tallies (segments road) few) (tallies_fresh (segments road));
  partfeet = rw (← none_driven (segments road) few) (partfeet_fresh (segments road) 0);
  balance = omega (arith, zeros (λ i. (cell_in fresh_state i).n + (cell_in fresh_state i).q) (segments road) (λ i. ap (λ (c : Cell). c.n + c.q) (cell_fresh i)));
  sums = record { arrived_most = omega arith; left_most = omega arith; partsteps_most = omega arith };
}

pub kept_opened : (road : List ℕ) → road_allowed road ≡ true → KeptBook (opened road)
unfolding steps_by
kept_opened road ok = record {
  road = ok;
  few = omega arith;
  short = omega arith;
  sheet = unsheeted;
  made = refl;
  kept = kept_fresh road (few_segments road ok);
}

-- where no period is running, the next one starts where the last one ended
pub idle_steps : (taken made : ℕ) (x y : Bool) → ltb 0 taken ≡ x → ltb made 60 ≡ y → (x && y) ≡ false → made ≤ 60 → steps_by taken made ≡ steps_by (taken + 1) 0
unfolding steps_by
idle_steps taken made true true p q e m = absurd (let z : ◌≡◌ {A = ℕ} 0 1 = cc in omega arith)
idle_steps taken made true false p q e m = omega (arith, ltb-false made 60 q)
idle_steps taken made false y p q e m = omega (arith, ltb-false 0 taken p)

-- the sheet in force is good
pub good_sheet_in : (b : Book) → KeptBook b → GoodSheet b.road b.sheet
good_sheet_in b f = fits_good b.road (good_road b.road f.road) f.sheet
  where
    fits_good : (road : List ℕ) → GoodRoad road → {n : ℕ} {s : SheetInForce} → SheetFits road n s → GoodSheet road s
    fits_good road good unsheeted = none-sheet
    fits_good road good (sheeted_as some e) = under (good_period road _ good e)

-- the sheet in force still fits where it is taken once more
fits_again : {road : List ℕ} {n : ℕ} {s : SheetInForce} → SheetFits road n s → 0 < n → SheetFits road (n + 1) s
fits_again unsheeted some = absurd (omega (arith, some))
fits_again (sheeted_as some e) again = sheeted_as (omega arith) e

-- a taking, where no period is unfinished and fewer than 96 are taken
module _ (b : Book) (f : KeptBook b) (idle : unfinished b.taken b.made ≡ false) (room : b.taken < 96) where
  kept_period : (sheet : SheetInForce) → SheetFits b.road (b.taken + 1) sheet → KeptBook (with_period b sheet)
  unfolding unfinished
  kept_period sheet fits = record {
    road = f.road;
    few = omega (arith, room);
    short = omega arith;
    sheet = fits;
    made = f.made ∙ idle_steps b.taken b.made (ltb 0 b.taken) (ltb b.made 60) refl refl idle f.short;
    kept = f.kept;
  }

  kept_reading : (bytes : List ℕ) (r : Rows) → read_period b.road bytes ≡ r → KeptBook (with_taking b (as_read r))
  kept_reading bytes (ReadRow row used) e = kept_period _ (sheeted_as (omega arith) (read_period_allowed b.road bytes row used e))
  kept_reading bytes (RefusedAt number offset) e = f

-- a run, by the verdict
run_by : (b : Book) (k : ℕ) → KeptBook b → (v : Verdict) → (v ≡ GoesOn → (0 < b.taken) × (k ≤ 60 - b.made)) → KeptBook (with_run present b k v)
unfolding steps_by
run_by b k f (RefusedBy e) h = f
run_by b k f GoesOn h =
    let some = (h refl).0 in
    let room = (h refl).1 in
    let good = good_road b.road f.road in
    record {
      road = f.road;
      few = f.few;
      short = omega (arith, f.short);
      sheet = f.sheet;
      made = omega (arith, length_more (conditions_by present b) k b.trail, f.made, f.short);
      kept = kept_more b.road good b.sheet (good_sheet_in b f) k b.trail (omega (arith, f.made, f.few, f.short)) f.kept;
    }

pub kept_after : (b : Book) (c : Call) → KeptBook b → KeptBook (after b c)
kept_after b (Take bytes) f =
    take_cases (read_period b.road) b.taken b.made bytes (λ t. KeptBook (with_taking b t)) f f f
    (λ idle room some. kept_period b f idle room b.sheet (fits_again f.sheet some))
    (λ idle room. kept_reading b f idle room bytes (read_period b.road bytes) refl)
kept_after b (Run k) f = run_by b k f (run_verdict b.taken b.made k) (run_accepted b.taken b.made k)
kept_after b (Report i) f = f
kept_after b Totals f = f
