-- The sign of what was rounded: the size that `round` gives is the same for both signs.
use mathlib.Core.Path.{◌≡◌, refl, sym, ap, ◌∙◌}
use mathlib.Core.Bool.{Bool, true, false, cond}
use Prim.Native.Nat.{ℕ, zero, suc, ◌+◌, ◌*◌, ◌^◌}
use lib.Dec.{ltb}
use lib.Ieee.{inf, binary64, prec, low, emax, odd, units, round}
use lib.Ieee.Fits.{round_is}
use Rattle.std.specs.Float.{float_with_sign}

signed_odd : (s : Bool) (d q k l : ℕ) → float_with_sign s (odd d false q k l) ≡ odd d s q k l
unfolding float_with_sign odd
signed_odd s d zero k l = refl
signed_odd s d (suc q) k l = refl

signed_units : (s : Bool) (q k : ℕ) → float_with_sign s (units binary64 false q k) ≡ units binary64 s q k
unfolding float_with_sign units
signed_units s q k = go (ltb (q * 2 ^ k) (2 ^ (low binary64 + suc (emax binary64))))
  where
    go : (b : Bool) → float_with_sign s (cond b (odd (suc (prec binary64)) false q k (low binary64)) (inf false)) ≡ cond b (odd (suc (prec binary64)) s q k (low binary64)) (inf s)
    go true = signed_odd s (suc (prec binary64)) q k (low binary64)
    go false = refl

pub signed_round : (s : Bool) (a c : ℕ) → float_with_sign s (round binary64 false a c) ≡ round binary64 s a c
signed_round s a c = ap (float_with_sign s) (round_is binary64 false a c) ∙ signed_units s _ _ ∙ sym (round_is binary64 s a c)
