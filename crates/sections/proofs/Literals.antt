-- What the source's whole-number f64 literals stand for. Each is computed once.
use mathlib.Core.Path.{◌≡◌, refl}
use lib.IntN.{pos}
use lib.Ieee.{binary64, of_int, of_bits}

pub zero_is : of_bits binary64 0 ≡ of_int binary64 (pos 0)
unfolding of_bits of_int
zero_is = refl

pub one_is : of_bits binary64 4607182418800017408 ≡ of_int binary64 (pos 1)
unfolding of_bits of_int
one_is = refl

pub whole_450 : of_bits binary64 4646624099911598080 ≡ of_int binary64 (pos 450)
unfolding of_bits of_int
whole_450 = refl

pub whole_3600 : of_bits binary64 4660134898793709568 ≡ of_int binary64 (pos 3600)
unfolding of_bits of_int
whole_3600 = refl

pub whole_5280 : of_bits binary64 4662527436095750144 ≡ of_int binary64 (pos 5280)
unfolding of_bits of_int
whole_5280 = refl

pub ruleset literals = (zero_is, one_is, whole_450, whole_3600, whole_5280)
