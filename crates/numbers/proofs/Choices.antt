-- A choice by a test, by cases.
use mathlib.Core.Bool.{Bool, true, false}
use mathlib.Core.Path.{◌≡◌, refl}
use Rattle.std.specs.Prelude.{if◌then◌else◌}

-- what holds of both values, each where the test says so, holds of the one that is chosen
pub choose : {A : Type 0} (P : A → Type 0) (t : Bool) (a b : A) → (t ≡ true → P a) → (t ≡ false → P b) → P (if t then a else b)
choose P true a b p q = p refl
choose P false a b p q = q refl
