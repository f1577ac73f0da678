-- Manual 11.3: the f64 nearest to a decimal, and the f64 operations.
use Rattle.std.specs.Prelude.{ℕ, true, false, pos, Float}
use Rattle.std.specs.Float.{binary64}
use Rattle.std.specs.Float.Ieee.{of_int, round, add, sub, mul, div}

-- a whole number
abbrev pub real : ℕ → Float
real n = of_int binary64 (pos n)

-- the f64 nearest to n / 100 and to -n / 100: 68.99 is `hundredths 6899`, -77.97 is `minus_hundredths 7797`
unfoldable pub hundredths : ℕ → Float
hundredths n = round binary64 false n 100

unfoldable pub minus_hundredths : ℕ → Float
minus_hundredths n = round binary64 true n 100

infixl 50 ◌⊕◌
abbrev pub ◌⊕◌ : Float → Float → Float
x ⊕ y = add binary64 x y

infixl 50 ◌⊖◌
abbrev pub ◌⊖◌ : Float → Float → Float
x ⊖ y = sub binary64 x y

infixl 60 ◌⊗◌
abbrev pub ◌⊗◌ : Float → Float → Float
x ⊗ y = mul binary64 x y

infixl 60 ◌⊘◌
abbrev pub ◌⊘◌ : Float → Float → Float
x ⊘ y = div binary64 x y
