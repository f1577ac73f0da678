-- What the inner functions of a conversion promise: no rule of the manual.
use Rattle.std.specs.Prelude.{◌≡◌, ℕ, ◌+◌, ◌≤◌, List, ◌++◌, length, drop}
use Rattle.numbers.specs.Row.{Rows, ReadRow, RefusedAt}
use Rattle.convert.specs.Convert.{Conversion, Converted, Unconverted, Told, Written, RefusedAs}

-- a conversion as its walk tells it: how many bytes it gives
abbrev pub walked_of : Conversion → Told
walked_of (Converted bytes) = Written (length bytes)
walked_of (Unconverted number offset) = RefusedAs number offset

-- a whole study stands at the start of what was lent, where there is room for it; nothing else is said of what was lent
abbrev pub Filled : Conversion → (before after : List ℕ) → Type 0
Filled (Converted bytes) before after = length bytes ≤ length before → after ≡ bytes ++ drop (length bytes) before
Filled (Unconverted number offset) before after = Unit {0}

-- the sheet at a place of a study: the offset of its refusal counts from the study's start
unfoldable pub placed_rows : (at : ℕ) → Rows → Rows
placed_rows at (ReadRow row used) = ReadRow row used
placed_rows at (RefusedAt number offset) = RefusedAt number (at + offset)
