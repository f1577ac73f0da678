-- The lanes in force, by the number of sheets taken, and the letter by them.
use Prim.Native.Nat.{ℕ, ◌<◌}
use mathlib.Core.Path.{◌≡◌}
use mathlib.Core.List.{List}
use native.Mathlib.Omega.{arith}
use Rattle.parts.specs.Parts.{segment_of, entry_of}
use Rattle.levels.specs.Level.{level_of}
use Rattle.steps.specs.Step.{cell_in}
use Rattle.conditions.specs.Conditions.{in_force, segments, entry_under}
use Rattle.conditions.proofs.Good.{in_force_at_lem}
use Rattle.door.specs.declared.Facility.{Facility}
use Rattle.running.specs.Steps.{sheet_by}
use Rattle.running.proofs.InForce.{sheeted_by_some}
use Rattle.facility.specs.Calls.{level_at}

module _ (road period : List ℕ) (taken i : ℕ) where
  -- before any sheet the road's own, then the sheet's
  pub lanes_before : taken ≡ 0 → (entry_under road (sheet_by taken period) i).opened ≡ (segment_of road i).lanes
  unfolding entry_under
  lanes_before none = rw none

  pub lanes_under : (taken ≡ 0 → ⊥) → (entry_under road (sheet_by taken period) i).opened ≡ (entry_of period i).opened
  unfolding entry_under
  lanes_under some = rw (sheeted_by_some taken period (omega (arith, some)))

-- the letter, by the road's length and the lanes in force
pub letter_is : (f : Facility) (i : ℕ) → i < segments f.road
    → level_of (cell_in f.state i).n (segment_of f.road i).length (entry_under f.road (sheet_by f.taken f.period) i).opened ≡ level_at f i
unfolding level_at in_force
letter_is f i h = rw (in_force_at_lem f.road (sheet_by f.taken f.period) i h)
