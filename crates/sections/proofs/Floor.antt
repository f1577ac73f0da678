-- RU is never below zero, for every row and every ratio. Where the printed rate is, RU is zero; where it isn't, RU is that rate, bit
-- by bit, as it is in every row of the table at a ratio above 1.
use mathlib.Core.Path.{◌≡◌, refl}
use mathlib.Core.Bool.{Bool, true, false}
use Prim.Native.Nat.{ℕ}
use lib.Ieee.{Float, of_int, lt}
use Rattle.std.specs.Prelude.{if◌then◌else◌}
use Rattle.sections.specs.declared.table.Row.{Row}
use Rattle.sections.specs.Real.{real}
use Rattle.sections.specs.Table.{tabled, row_of}
use Rattle.sections.specs.Section.{curve_of, printed_of, under_of}
use Rattle.sections.proofs.FiveRows.{at_row}

-- zero or x isn't below zero, where x isn't
floored_by : (x : Float) (t : Bool) → (t ≡ false → lt x (real 0) ≡ false) → lt (if t then real 0 else x) (real 0) ≡ false
unfolding of_int lt
floored_by x true h = refl
floored_by x false h = h refl

module _ (r : Row) (p : Float) where
  pub never_below : lt (under_of r p) (real 0) ≡ false
  unfolding under_of
  never_below = floored_by (printed_of r p) (lt (printed_of r p) (real 0)) (λ e. e)

  pub zero_where_below : lt (printed_of r p) (real 0) ≡ true → under_of r p ≡ real 0
  unfolding under_of
  zero_where_below e = rw e

  pub same_bits : lt (printed_of r p) (real 0) ≡ false → under_of r p ≡ printed_of r p
  unfolding under_of
  same_bits e = rw e

pub above_one : (ffs : ℕ) → tabled ffs ≡ true → (p : Float) → lt (real 1) p ≡ true → under_of (row_of ffs) p ≡ printed_of (row_of ffs) p
unfolding printed_of
above_one ffs h p e = same_bits (row_of ffs) p (rw e (floored_by (curve_of (row_of ffs) (real 1)) (lt p (row_of ffs).e) (λ x. (at_row ffs h).at_one)))
