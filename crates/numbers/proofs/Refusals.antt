-- A refusal's number is never 0.
use mathlib.Core.Bool.{Bool, true, false}
use Prim.Native.Nat.{ℕ, zero, suc, ◌-◌, ◌≤◌}
use mathlib.Core.List.{List, [], ◌∷◌}
use native.Mathlib.Omega.{arith}
use lib.ListN.{drop}
use lib.Dec.{ltb}
use Rattle.std.specs.Prelude.{if◌then◌else◌}
use Rattle.refusals.specs.declared.Refusal.{Refusal}
use Rattle.refusals.specs.declared.Refusal.TheVariants.{Cut, TooWide, NotShortest, OutOfRange, NoSuchRun, NoSuchSegment, NoRoom, CarryoverLength, EmptyFacility, NoPeriod, TooFewSteps, Unfinished, TooManyPeriods, OtherRoad, DemandOutside, LaneClosed}
use Rattle.refusals.specs.Numbers.{refusal_number}
use Rattle.numbers.specs.declared.Range.{Range}
use Rattle.numbers.specs.Number.{Reading, Read, Refused, last, more, groups, placed, read_number}
use Rattle.numbers.specs.Field.{in_range, read_field}

pub refusal_named : (e : Refusal) → 1 ≤ refusal_number e
refusal_named Cut = omega arith
refusal_named TooWide = omega arith
refusal_named NotShortest = omega arith
refusal_named OutOfRange = omega arith
refusal_named NoSuchRun = omega arith
refusal_named NoSuchSegment = omega arith
refusal_named NoRoom = omega arith
refusal_named CarryoverLength = omega arith
refusal_named EmptyFacility = omega arith
refusal_named NoPeriod = omega arith
refusal_named TooFewSteps = omega arith
refusal_named Unfinished = omega arith
refusal_named TooManyPeriods = omega arith
refusal_named OtherRoad = omega arith
refusal_named DemandOutside = omega arith
refusal_named LaneClosed = omega arith

-- where it is a refusal, its number has P
abbrev pub Told : (P : ℕ → Type 0) → Reading → Type 0
Told P (Read v n) = 0 ≤ v
Told P (Refused e) = P e

-- where it is a refusal, its number is not 0
abbrev pub Named : Reading → Type 0
Named = Told (λ e. 1 ≤ e)

-- what each refusal's number has, that of a reading has
module _ (P : ℕ → Type 0) (each : (e : Refusal) → P (refusal_number e)) where
  either : (t : Bool) (a b : Reading) → Told P a → Told P b → Told P (if t then a else b)
  either true a b p q = p
  either false a b p q = q

  told_last : (least b : ℕ) → Told P (last least b)
  unfolding last
  told_last least b = either (ltb b least) (Refused 3) (Read b 1) (each NotShortest) (omega arith)

  told_more : (g : ℕ) (r : Reading) → Told P r → Told P (more g r)
  unfolding more
  told_more g (Read v n) h = omega arith
  told_more g (Refused e) h = h

  told_groups : (k least : ℕ) (bs : List ℕ) → Told P (groups k least bs)
  unfolding groups
  told_groups zero least [] = each Cut
  told_groups (suc k) least [] = each Cut
  told_groups zero least (b ∷ bs) = either (ltb 15 b) (Refused 2) (last least b) (each TooWide) (told_last least b)
  told_groups (suc k) least (b ∷ bs) =
      either (ltb b 128) _ _ (told_last least b) (told_more (b - 128) _ (told_groups k _ bs))

  told_placed : (at : ℕ) (r : Reading) → Told P r → Told P (placed at r)
  unfolding placed
  told_placed at (Read v n) h = omega arith
  told_placed at (Refused e) h = h

  told_range : (r : Range) (x : Reading) → Told P x → Told P (in_range r x)
  unfolding in_range
  told_range r (Read v n) p =
      let h = each r.refusal in
      let e = Refused (refusal_number r.refusal) in
      either (ltb v r.low) e (if ltb r.high v then e else Read v n) h (either (ltb r.high v) e (Read v n) h (omega arith))
  told_range r (Refused e) p = p

  pub told_field : (r : Range) (bytes : List ℕ) (at : ℕ) → Told P (read_field r bytes at)
  unfolding read_field read_number
  told_field r bytes at = told_range r (read_number bytes at) (told_placed at (groups 4 0 (drop at bytes)) (told_groups 4 0 (drop at bytes)))

pub named_field : (r : Range) (bytes : List ℕ) (at : ℕ) → Named (read_field r bytes at)
named_field = told_field (λ e. 1 ≤ e) refusal_named
