-- Words and the bytes that they spell, computed.
use mathlib.Core.Path.{◌≡◌, refl}
use mathlib.Core.List.{[], ◌∷◌}
use Rattle.text.specs.Text.{is_digit}
use Rattle.hexadecimal.specs.Spelling.{hex_value, byte_of, Bytes, NotHex, spelled}

-- "0aFf"
two_bytes : spelled (48 ∷ 97 ∷ 70 ∷ 102 ∷ []) ≡ Bytes (10 ∷ 255 ∷ [])
unfolding spelled hex_value byte_of is_digit
two_bytes = refl

-- "0aF": a digit is left
half_a_byte : spelled (48 ∷ 97 ∷ 70 ∷ []) ≡ NotHex
unfolding spelled hex_value byte_of is_digit
half_a_byte = refl
