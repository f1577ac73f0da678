-- What making k steps asks, so that the step rules' arithmetic fits: no rule of the manual, but what `run` shows before its steps.
use Rattle.std.specs.Prelude.{ℕ, ◌+◌, ◌≤◌, ◌<◌, true, ◌≡◌}
use Rattle.door.specs.declared.Facility.{Facility}
use Rattle.door.specs.Sound.{sound}

-- a sound facility with a sheet in force and k steps left under it
pub record Ready (f : Facility) (k : ℕ) : Type 0 where
  pub is : sound f ≡ true
  pub some : 0 < f.taken
  pub room : f.made + k ≤ 60
