-- What the definitions of the calls give, by the tests that the code makes.
use Prim.Native.Nat.{ℕ}
use mathlib.Core.Bool.{true, false}
use mathlib.Core.Path.{◌≡◌}
use mathlib.Core.List.{List}
use Rattle.sheets.specs.Read.{read_period}
use Rattle.sheets.specs.Write.{row_bytes, road_row, period_row}
use Rattle.conditions.specs.Conditions.{segments}
use Rattle.steps.specs.Step.{stored_of}
use Rattle.steps.specs.Driven.{partfeet_of}
use Rattle.door.specs.declared.Facility.{Facility}
use Rattle.door.specs.Sound.{sound}
use Rattle.facility.specs.Calls.{refused, taken_by, take_of, ran_by, run_of, no_report, reported_by, report_of, no_sums, totals_of, not_written, wrote_bytes, wrote_by, write_road_of, write_period_of}
use Rattle.facility.specs.Verdicts.{Verdict, Taking, take_verdict, run_verdict, report_verdict, period_verdict}

-- ---- the empty facility
module _ (f : Facility) (e : sound f ≡ false) where
  pub take_empty : (bytes : List ℕ) → take_of f bytes ≡ refused f 9 0
  unfolding take_of
  take_empty bytes = rw e

  pub run_empty : (k : ℕ) → run_of f k ≡ refused f 9 0
  unfolding run_of
  run_empty k = rw e

  pub report_empty : (i : ℕ) → report_of f i ≡ no_report 9
  unfolding report_of
  report_empty i = rw e

  pub totals_empty : totals_of f ≡ no_sums 9
  unfolding totals_of
  totals_empty = rw e

  pub write_empty : (buffer : List ℕ) (at : ℕ) → write_road_of f buffer at ≡ not_written buffer 9
  unfolding write_road_of
  write_empty buffer at = rw e

  pub write_period_empty : (buffer : List ℕ) (at : ℕ) → write_period_of f buffer at ≡ not_written buffer 9
  unfolding write_period_of
  write_period_empty buffer at = rw e

-- ---- a sound one, by the verdict
module _ (f : Facility) (e : sound f ≡ true) where
  pub take_by_lem : (bytes : List ℕ) (t : Taking) → take_verdict (read_period f.road) f.taken f.made bytes ≡ t → take_of f bytes ≡ taken_by f t
  unfolding take_of
  take_by_lem bytes t v = rw (e, v)

  pub run_by : (k : ℕ) (v : Verdict) → run_verdict f.taken f.made k ≡ v → run_of f k ≡ ran_by f k v
  unfolding run_of
  run_by k v h = rw (e, h)

  pub report_by : (i : ℕ) (v : Verdict) → report_verdict f.road i ≡ v → report_of f i ≡ reported_by f i v
  unfolding report_of
  report_by i v h = rw (e, h)

  pub totals_sound : totals_of f ≡ record {
    refusal = 0;
    arrived = f.arrived;
    left = f.left;
    stored = stored_of (segments f.road) f.state;
    partsteps = f.partsteps;
    partfeet = partfeet_of (segments f.road) f.partfeet;
  }
  unfolding totals_of
  totals_sound = rw e

  pub write_sound : (buffer : List ℕ) (at : ℕ) → write_road_of f buffer at ≡ wrote_bytes (row_bytes (road_row f.road)) buffer at
  unfolding write_road_of
  write_sound buffer at = rw e

  pub write_period_by : (buffer : List ℕ) (at : ℕ) (v : Verdict) → period_verdict f.taken ≡ v
      → write_period_of f buffer at ≡ wrote_by v (row_bytes (period_row f.period)) buffer at
  unfolding write_period_of
  write_period_by buffer at v h = rw (e, h)
