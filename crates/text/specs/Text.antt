-- Text for people (no rule of the manual), a line at a time: words with white space between them, and decimal numbers. A comment goes
-- from a `#` to the end of its line.
use Rattle.std.specs.Prelude.{ℕ, ◌≡◌, ◌+◌, ◌-◌, ◌*◌, ◌<◌, min, Bool, true, false, not, ◌&&◌, ◌||◌, List, [], ◌∷◌, length, drop, take, leb, eqb, if◌then◌else◌}
use Rattle.std.specs.Prelude.{Option, Some, None}

-- space, and tab to carriage return; `0` to `9`
unfoldable pub is_white : ℕ → Bool
is_white b = eqb b 32 || (leb 9 b && leb b 13)

unfoldable pub is_digit : ℕ → Bool
is_digit b = leb 48 b && leb b 57

-- in a word, whether a byte ends it (white space, or a comment's `#`); before one, whether it ends the white space
unfoldable pub stops : (in_word : Bool) → ℕ → Bool
stops true b = is_white b || eqb b 35
stops false b = not (is_white b)

-- a word of a line, from its first byte to before its end; none is left where both are the same
pub record Word : Type 0 where
  pub start : ℕ
  pub end : ℕ

-- the place of the first byte that stops, where the first of the list stands at `at`; the end where none does
unfoldable pub first_from : (in_word : Bool) → ℕ → List ℕ → ℕ
first_from in_word at [] = at
first_from in_word at (b ∷ bs) = if stops in_word b then at else first_from in_word (at + 1) bs

-- the next word from a place of the line on; a comment, and the end, are words of no bytes
unfoldable pub word_starting : List ℕ → (start : ℕ) → Word
word_starting line start = record { start = start; end = first_from true start (drop start line) }

unfoldable pub word_from : List ℕ → ℕ → Word
word_from line at = word_starting line (first_from false at (drop at line))

unfoldable pub word_at : List ℕ → ℕ → Word
word_at line at = word_from line (min at (length line))

-- a word's bytes, and those of the line that stand behind it
abbrev pub IsWord : (line : List ℕ) → Word → (word rest : List ℕ) → Type 0
IsWord line w word rest = (w.start < w.end) × (word ≡ take (w.end - w.start) (drop w.start line)) × (rest ≡ drop w.end line)

abbrev pub IsNoWord : Word → Type 0
IsNoWord w = w.start ≡ w.end

-- the value of a digit
unfoldable pub digit_of : ℕ → Option ℕ
digit_of b = if is_digit b then Some (b - 48) else None

-- the number that one more digit makes of the value v; 2 ^ 32 and above are none
unfoldable pub with_digit : ℕ → ℕ → Option ℕ
with_digit v b = if is_digit b && leb (10 * v + (b - 48)) 4294967295 then Some (10 * v + (b - 48)) else None

-- the number that the digits say after the value v; 2 ^ 32 and above are none
unfoldable pub number_from : ℕ → List ℕ → Option ℕ
number_from v [] = Some v
number_from v (b ∷ bs) = if is_digit b && leb (10 * v + (b - 48)) 4294967295 then number_from (10 * v + (b - 48)) bs else None

-- a word of one digit or more
unfoldable pub number_of : List ℕ → Option ℕ
number_of [] = None
number_of (b ∷ bs) = number_from 0 (b ∷ bs)

-- whether two words are the same, byte by byte
unfoldable pub same_word : List ℕ → List ℕ → Bool
same_word [] [] = true
same_word [] (b ∷ w) = false
same_word (a ∷ v) [] = false
same_word (a ∷ v) (b ∷ w) = eqb a b && same_word v w
