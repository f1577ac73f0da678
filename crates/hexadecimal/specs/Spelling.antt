-- Text for people (no rule of the manual): bytes in hexadecimal, two digits each.
use Rattle.std.specs.Prelude.{ℕ, ◌+◌, ◌-◌, ◌*◌, ◌/◌, ◌&&◌, ◌≡◌, List, [], ◌∷◌, length, take, leb, ltb, if◌then◌else◌, Option, Some, None, Result, Ok, Err}
use Rattle.text.specs.Text.{is_digit}
use Rattle.hexadecimal.specs.declared.SpellingError.{SpellingError}
use Rattle.hexadecimal.specs.declared.SpellingError.TheVariants.{TooLong, NotHexadecimal}

-- a digit's value, in small letters or in capitals
unfoldable pub hex_value : ℕ → Option ℕ
hex_value b =
    if is_digit b then Some (b - 48) else (if leb 97 b && leb b 102 then Some (b - 87) else (if leb 65 b && leb b 70 then Some (b - 55) else None))

-- the byte of two digits, the high one first
unfoldable pub byte_of : Option ℕ → Option ℕ → Option ℕ
byte_of (Some high) (Some low) = Some (16 * high + low)
byte_of (Some high) None = None
byte_of None low = None

-- the bytes that a word spells, or that it is not hexadecimal
pub data Spelling : Type 0 where
  Bytes : List ℕ → Spelling
  NotHex : Spelling

abbrev pub with_byte : Option ℕ → Spelling → Spelling
with_byte (Some b) (Bytes bs) = Bytes (b ∷ bs)
with_byte (Some b) NotHex = NotHex
with_byte None s = NotHex

unfoldable pub spelled : List ℕ → Spelling
spelled [] = Bytes []
spelled (h ∷ []) = NotHex
spelled (h ∷ l ∷ rest) = with_byte (byte_of (hex_value h) (hex_value l)) (spelled rest)

-- how many bytes; a word whose digits come to more than the room is not looked into
abbrev pub counted : Spelling → Result ℕ SpellingError
counted (Bytes bs) = Ok (length bs)
counted NotHex = Err NotHexadecimal

unfoldable pub read_bytes : (room : ℕ) → List ℕ → Result ℕ SpellingError
read_bytes room word = if ltb room (length word / 2) then Err TooLong else counted (spelled word)

-- the buffer starts with the bytes that were counted; where none are, nothing is said of it
abbrev pub HasBytes : Result ℕ SpellingError → List ℕ → List ℕ → Type 0
HasBytes r word out = (bs : List ℕ) → spelled word ≡ Bytes bs → r ≡ Ok (length bs) → take (length bs) out ≡ bs
