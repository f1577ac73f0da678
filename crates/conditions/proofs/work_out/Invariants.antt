-- The places of the segments before i are those of the road under the sheet.
use mathlib.Core.Path.{◌≡◌}
use mathlib.Core.List.{map}
use lib.ListN.{length, take}
use Rattle.conditions.specs.declared.place.Place.{Place}
use Rattle.conditions.specs.Conditions.{Under, in_force_of}
use Rattle.conditions.specs.Values.{values_to}
use Rattle.conditions.proofs.work_out.Given as goal

abbrev pub invariant-loop-i : goal.invariant-loop-i
invariant-loop-i l = record {
  room : length l.places ≡ 64;
  filled : map (λ (p : Place). p.here) (take l.i l.places) ≡ values_to (in_force_of l.road (Under l.period)) l.i;
}
