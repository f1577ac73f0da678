-- What a facility has that is not the empty one, where the check at the door is passed.
use Prim.Native.Nat.{ℕ, ◌≤◌}
use mathlib.Core.Bool.{true}
use mathlib.Core.Path.{◌≡◌, sym}
use native.Mathlib.Omega.{arith}
use Rattle.std.specs.Prelude.{if◌then◌else◌}
use Rattle.parts.specs.Good.{GoodRoad}
use Rattle.parts.proofs.Good.{good_road}
use Rattle.door.specs.declared.Facility.{Facility}
use Rattle.conditions.specs.Conditions.{segments}
use Rattle.steps.specs.Bounded.{BoundedPartfeet}
use Rattle.steps.proofs.Driven.{partfeet_longer}
use Rattle.door.specs.Sound.{steps_by, sound}
use Rattle.door.proofs.Sound.{Sound, is_sound}
use Rattle.running.specs.Ready.{Ready}
use Rattle.facility.specs.Verdicts.{GoesOn, RefusedBy, run_verdict}
use Rattle.facility.proofs.Verdicts.{passed, run_accepted}

module _ (f : Facility) (goes : GoesOn ≡ (if sound f then GoesOn else RefusedBy 9)) where
  pub is_open : sound f ≡ true
  is_open = passed _ _ goes

  pub open_sound : Sound f
  open_sound = is_sound f is_open

  pub open_road : GoodRoad f.road
  open_road = good_road f.road open_sound.road

  pub open_short : f.made ≤ 60
  open_short = open_sound.short

  -- no segment's part-feet are past what all steps can leave
  pub open_partfeet : BoundedPartfeet (segments f.road) 5760 f.partfeet
  unfolding steps_by
  open_partfeet = partfeet_longer _ _ 5760 f.partfeet (omega (arith, open_sound.few, open_short)) open_sound.partfeet

  -- and where a run goes on
  pub open_ready : (k : ℕ) → GoesOn ≡ run_verdict f.taken f.made k → Ready f k
  open_ready k runs =
      let a = run_accepted f.taken f.made k (sym runs) in
      record { is = is_open; some = a.0; room = omega (arith, a.1, open_short) }
