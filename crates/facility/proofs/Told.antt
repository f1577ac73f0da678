-- Each reply of the definitions is one that a result of the code tells: its refusal's number is that of a refusal.
use Prim.Native.Nat.{ℕ, ◌-◌}
use mathlib.Core.Bool.{Bool, true, false}
use mathlib.Core.Path.{◌≡◌, refl, ap}
use mathlib.Core.List.{List}
use lib.Dec.{ltb, eqb}
use Rattle.std.specs.Prelude.{Result, Ok, Err, if◌then◌else◌}
use Rattle.refusals.specs.declared.Refusal.{Refusal}
use Rattle.refusals.specs.declared.Refusal.TheVariants.{NoSuchRun, NoSuchSegment, EmptyFacility, NoPeriod, TooFewSteps, Unfinished, TooManyPeriods}
use Rattle.refusals.specs.declared.Refused.{Refused}
use Rattle.refusals.specs.Numbers.{refusal_number}
use Rattle.numbers.specs.Row.{Rows, ReadRow, RefusedAt}
use Rattle.numbers.proofs.Rows.{ToldRow}
use Rattle.sheets.specs.Read.{read_road, read_period}
use Rattle.sheets.proofs.Refusals.{told_road, told_period}
use Rattle.conditions.specs.Conditions.{segments}
use Rattle.steps.specs.Step.{cell_in, stored_of}
use Rattle.steps.specs.Tallies.{tally_in}
use Rattle.steps.specs.Driven.{partfeet_in, partfeet_of}
use Rattle.door.specs.declared.Facility.{Facility}
use Rattle.door.specs.Sound.{sound}
use Rattle.facility.specs.declared.SegmentReport.{SegmentReport}
use Rattle.facility.specs.declared.Sums.{Sums}
use Rattle.facility.specs.Calls.{empty, refused, laid_by, lay_of, taken_by, take_of, ran_by, run_of, level_at, no_report, reported_by, report_of, no_sums, totals_of}
use Rattle.facility.specs.Results.{replied, ran, report_told, sums_told}
use Rattle.facility.specs.Verdicts.{Verdict, GoesOn, RefusedBy, Taking, NewSheet, SameSheet, NotTaken, as_read, outside, take_verdict, run_verdict, report_verdict}
use Rattle.facility.proofs.Verdicts.{take_cases}

-- the number of a refusal
abbrev pub IsRefusal : ℕ → Type 0
IsRefusal number = (e : Refusal) × (refusal_number e ≡ number)

each : (e : Refusal) → IsRefusal (refusal_number e)
each e = (e, refl)

-- what a result tells, with the facility after the call
pub facility_after : (r : Result ℕ Refused) (f : Facility) → (replied r f).facility ≡ f
facility_after (Ok used) f = refl
facility_after (Err e) f = refl

pub facility_after_run : (r : Result (Unit {0}) Refusal) (f : Facility) → (ran r f).facility ≡ f
facility_after_run (Ok nothing) f = refl
facility_after_run (Err e) f = refl

-- ---- the refusals of a verdict
abbrev ToldVerdict : Verdict → Type 0
ToldVerdict GoesOn = Unit {0}
ToldVerdict (RefusedBy number) = IsRefusal number

either : (x : Bool) (v w : Verdict) → ToldVerdict v → ToldVerdict w → ToldVerdict (if x then v else w)
either true v w p q = p
either false v w p q = q

ToldTaking : Taking → Type 0
ToldTaking (NewSheet row used) = Unit {0}
ToldTaking SameSheet = Unit {0}
ToldTaking (NotTaken number offset) = IsRefusal number

told_reading : (r : Rows) → ToldRow IsRefusal r → ToldTaking (as_read r)
unfolding ToldTaking
told_reading (ReadRow row used) h = tt
told_reading (RefusedAt number offset) h = h

told_take : (f : Facility) (bytes : List ℕ) → ToldTaking (take_verdict (read_period f.road) f.taken f.made bytes)
unfolding ToldTaking
told_take f bytes =
    let reads = told_reading _ (told_period IsRefusal each f.road bytes) in
    take_cases (read_period f.road) f.taken f.made bytes ToldTaking (Unfinished, refl) (TooManyPeriods, refl) (NoPeriod, refl)
    (λ idle room some. tt) (λ idle room. reads)

told_run : (taken made k : ℕ) → ToldVerdict (run_verdict taken made k)
unfolding run_verdict
told_run taken made k =
    let short = either (ltb (60 - made) k) (RefusedBy 11) GoesOn (TooFewSteps, refl) tt in
    let none = either (eqb taken 0) (RefusedBy 10) _ (NoPeriod, refl) short in
    either (outside 1 60 k) (RefusedBy 5) _ (NoSuchRun, refl) none

told_report : (road : List ℕ) (i : ℕ) → ToldVerdict (report_verdict road i)
unfolding report_verdict
told_report road i = either (outside 1 (segments road) i) (RefusedBy 6) GoesOn (NoSuchSegment, refl) tt

-- ---- a laying
laid_told : (x : Rows) → ToldRow IsRefusal x → (r : Result ℕ Refused) × (replied r (laid_by x).facility ≡ laid_by x)
laid_told (ReadRow row used) t = (Ok used, refl)
laid_told (RefusedAt number at) t = (Err (record { refusal = t.0; offset = at }), ap (λ (n : ℕ). refused empty n at) t.1)

pub lay_told : (bytes : List ℕ) → (r : Result ℕ Refused) × (replied r (lay_of bytes).facility ≡ lay_of bytes)
unfolding lay_of
lay_told bytes = laid_told (read_road bytes) (told_road IsRefusal each bytes)

-- ---- a taking
module _ (f : Facility) where
  taken_told : (t : Taking) → ToldTaking t → (r : Result ℕ Refused) × (replied r (taken_by f t).facility ≡ taken_by f t)
  unfolding ToldTaking
  taken_told (NewSheet row used) h = (Ok used, refl)
  taken_told SameSheet h = (Ok 0, refl)
  taken_told (NotTaken number at) h = (Err (record { refusal = h.0; offset = at }), ap (λ (n : ℕ). refused f n at) h.1)

  take_by_door : (x : Bool) (v : Taking) → ToldTaking v
      → (r : Result ℕ Refused) × (replied r (if x then taken_by f v else refused f 9 0).facility ≡ (if x then taken_by f v else refused f 9 0))
  take_by_door true v t = taken_told v t
  take_by_door false v t = (Err (record { refusal = EmptyFacility; offset = 0 }), refl)

  pub take_told : (bytes : List ℕ) → (r : Result ℕ Refused) × (replied r (take_of f bytes).facility ≡ take_of f bytes)
  unfolding take_of
  take_told bytes = take_by_door (sound f) (take_verdict (read_period f.road) f.taken f.made bytes) (told_take f bytes)

  -- ---- a run
  ran_told : (k : ℕ) (v : Verdict) → ToldVerdict v → (r : Result (Unit {0}) Refusal) × (ran r (ran_by f k v).facility ≡ ran_by f k v)
  ran_told k GoesOn t = (Ok tt, refl)
  ran_told k (RefusedBy number) t = (Err t.0, ap (λ (n : ℕ). refused f n 0) t.1)

  run_by_door : (x : Bool) (k : ℕ) (v : Verdict) → ToldVerdict v
      → (r : Result (Unit {0}) Refusal) × (ran r (if x then ran_by f k v else refused f 9 0).facility ≡ (if x then ran_by f k v else refused f 9 0))
  run_by_door true k v t = ran_told k v t
  run_by_door false k v t = (Err EmptyFacility, refl)

  pub run_told : (k : ℕ) → (r : Result (Unit {0}) Refusal) × (ran r (run_of f k).facility ≡ run_of f k)
  unfolding run_of
  run_told k = run_by_door (sound f) k (run_verdict f.taken f.made k) (told_run f.taken f.made k)

  -- ---- a segment report
  reported_told : (i : ℕ) (v : Verdict) → ToldVerdict v → (r : Result SegmentReport Refusal) × (report_told r ≡ reported_by f i v)
  reported_told i GoesOn t =
      let c = cell_in f.state (i - 1) in
      let report : SegmentReport = record {
        n = c.n;
        q = c.q;
        main = c.main;
        ramp = c.ramp;
        off = c.off;
        out = c.out;
        level = level_at f (i - 1);
        tally = tally_in f.tallies (i - 1);
        partfeet = partfeet_in f.partfeet (i - 1);
      } in
      (Ok report, refl)
  reported_told i (RefusedBy number) t = (Err t.0, ap no_report t.1)

  report_by_door : (x : Bool) (i : ℕ) (v : Verdict) → ToldVerdict v
      → (r : Result SegmentReport Refusal) × (report_told r ≡ (if x then reported_by f i v else no_report 9))
  report_by_door true i v t = reported_told i v t
  report_by_door false i v t = (Err EmptyFacility, refl)

  pub report_replied : (i : ℕ) → (r : Result SegmentReport Refusal) × (report_told r ≡ report_of f i)
  unfolding report_of
  report_replied i = report_by_door (sound f) i (report_verdict f.road i) (told_report f.road i)

  -- ---- totals
  totals_by_door : (x : Bool) (s : Sums) → (r : Result Sums Refusal) × (sums_told r ≡ (if x then sums_told (Ok s) else no_sums 9))
  totals_by_door true s = (Ok s, refl)
  totals_by_door false s = (Err EmptyFacility, refl)

  pub totals_replied : (r : Result Sums Refusal) × (sums_told r ≡ totals_of f)
  unfolding totals_of
  totals_replied =
      totals_by_door (sound f) (record {
        arrived = f.arrived;
        left = f.left;
        stored = stored_of (segments f.road) f.state;
        partsteps = f.partsteps;
        partfeet = partfeet_of (segments f.road) f.partfeet;
      })
