-- What is in force on a facility.
use Prim.Native.Nat.{ℕ, zero, suc, ◌<◌}
use mathlib.Core.Path.{◌≡◌, refl}
use mathlib.Core.List.{List}
use native.Mathlib.Omega.{arith}
use Rattle.conditions.specs.Conditions.{Under}
use Rattle.running.specs.Steps.{sheet_by}

-- once one is taken, it is in force
pub sheeted_by_some : (n : ℕ) (period : List ℕ) → 0 < n → sheet_by n period ≡ Under period
sheeted_by_some zero period h = absurd (omega arith)
sheeted_by_some (suc n) period h = refl
