-- Manual 3.1: groups of seven bits, lowest group first, the top bit set on all groups but the last.
-- At most five groups, value at most 2 ^ 32 - 1, shortest form only.
use Rattle.std.specs.Prelude.{ℕ, zero, suc, ◌+◌, ◌-◌, ◌*◌, ◌/◌, ◌%◌, ◌<◌, List, [], ◌∷◌, drop, get_or, ltb, if◌then◌else◌}
use Rattle.std.specs.Prelude.{Result, Ok, Err}
use Rattle.refusals.specs.declared.Refusal.{Refusal}
use Rattle.refusals.specs.Numbers.{refusal_number}
use Rattle.numbers.specs.declared.Number.{Number}

-- what reading a number gives: its value and the place after it, or the refusal's number of the table (7)
pub data Reading : Type 0 where
  Read : ℕ → ℕ → Reading
  Refused : ℕ → Reading

-- the same for what `read` answers
abbrev pub reading : Result Number Refusal → Reading
reading (Ok n) = Read n.value n.next
reading (Err e) = Refused (refusal_number e)

-- the last group b. Refusal 3, a number of two or more groups ends in a zero group: least is 1 from the second group on
unfoldable pub last : ℕ → ℕ → Reading
last least b = if ltb b least then Refused 3 else Read b 1

-- the group g, and above it what the groups after it say
unfoldable pub more : ℕ → Reading → Reading
more g (Read v n) = Read (g + 128 * v) (1 + n)
more g (Refused e) = Refused e

-- the number that starts the bytes, with at most k groups after its first: its value, and how many bytes it takes.
-- Refusal 1: the bytes end before a number does. Refusal 2: a fifth group has its top bit set or is above 15
unfoldable pub groups : ℕ → ℕ → List ℕ → Reading
groups k least [] = Refused 1
groups zero least (b ∷ bs) = if ltb 15 b then Refused 2 else last least b
groups (suc k) least (b ∷ bs) = if ltb b 128 then last least b else more (b - 128) (groups k 1 bs)

-- counted from a place on
unfoldable pub placed : ℕ → Reading → Reading
placed at (Read v n) = Read v (at + n)
placed at (Refused e) = Refused e

-- the number at a place of the bytes
unfoldable pub read_number : List ℕ → ℕ → Reading
read_number bytes at = placed at (groups 4 0 (drop at bytes))

-- the lowest seven bits of v, with the top bit set
abbrev pub low_group : ℕ → ℕ
low_group v = 128 + v % 128

-- the shortest form of v, with at most k groups after its first
unfoldable pub bytes_from : ℕ → ℕ → List ℕ
bytes_from zero v = v ∷ []
bytes_from (suc k) v = if ltb v 128 then v ∷ [] else low_group v ∷ bytes_from k (v / 128)

-- the bytes of the number v
unfoldable pub number_bytes : ℕ → List ℕ
number_bytes v = bytes_from 4 v

-- no rule, but what the reader's loop goes by: groups worth v stand before the place i, the next has the weight sc, and what is read from there
-- on is put above them
unfoldable pub above : ℕ → ℕ → ℕ → Reading → Reading
above v sc i (Read w n) = Read (v + sc * w) (i + n)
above v sc i (Refused e) = Refused e

-- every element is a byte
abbrev pub Bytes : List ℕ → Type 0
Bytes s = (i : ℕ) → get_or s i 0 < 256
