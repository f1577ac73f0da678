-- A record in its line, and what is left of it (no rule of the manual).
use Rattle.std.specs.Prelude.{ℕ, ◌≡◌, ◌+◌, ◌<◌, ◌≤◌, ◌⊎◌, List, [], ◌∷◌, length, take, drop, Some}
use Rattle.input.specs.declared.Line.{Line}
use Rattle.input.specs.declared.Line.TheVariants.{Whole, Long}
use Rattle.text.specs.Text.{word_at, IsWord, IsNoWord, number_of}
use Rattle.hexadecimal.specs.Spelling.{spelled, Bytes}

-- what of a line was taken
abbrev pub taken_of : Line → List ℕ
taken_of (Whole bytes) = bytes.now
taken_of (Long bytes) = bytes.now

-- a part of a line, which stands there from a place on
abbrev pub IsPartOf : (line part : List ℕ) → Type 0
IsPartOf line part = (from : ℕ) × (from + length part ≤ length line) × (part ≡ take (length part) (drop from line))

-- the one word of what is left
abbrev pub IsOnlyWord : (rest word : List ℕ) → Type 0
IsOnlyWord rest word = (behind : List ℕ) × IsWord rest (word_at rest 0) word behind × IsNoWord (word_at behind 0)

-- the bytes that a word says, `-` for none
abbrev pub AreBytesOf : (word bytes : List ℕ) → Type 0
AreBytesOf word bytes = ((word ≡ 45 ∷ []) × (bytes ≡ [])) ⊎ (spelled word ≡ Bytes bytes)

-- the numbers of what is left, with defaults for those at its end that it does not give
unfoldable pub AreNumbersOf : (rest defaults numbers : List ℕ) → Type 0
AreNumbersOf rest [] [] = IsNoWord (word_at rest 0)
AreNumbersOf rest [] (n ∷ ns) = ⊥
AreNumbersOf rest (d ∷ ds) [] = ⊥
AreNumbersOf rest (d ∷ ds) (n ∷ ns) = (IsNoWord (word_at rest 0) × (n ≡ d) × (ns ≡ ds))
    ⊎ ((word : List ℕ) × (behind : List ℕ) × IsWord rest (word_at rest 0) word behind × (number_of word ≡ Some n) × AreNumbersOf behind ds ns)

-- a place outside a part of a buffer
abbrev pub IsOutside : (at count place : ℕ) → Type 0
IsOutside at count place = (place < at) ⊎ (at + count ≤ place)
