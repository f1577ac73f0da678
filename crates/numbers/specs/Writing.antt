-- Manual 3.6: bytes are written into a lent buffer from a place that the caller names; those outside the written part stay as they are. Said
-- once, of any bytes: a number's, a row's, a sheet's.
use Rattle.std.specs.Prelude.{ℕ, ◌+◌, Bool, List, ◌++◌, length, take, drop, leb, if◌then◌else◌}
use Rattle.std.specs.Prelude.{Result, Ok, Err}
use Rattle.refusals.specs.declared.Refusal.{Refusal}
use Rattle.refusals.specs.Numbers.{refusal_number}

-- what writing gives: how many bytes were written, or the refusal's number
pub data Writing : Type 0 where
  Wrote : ℕ → Writing
  Refused : ℕ → Writing

-- the same for what a writer answers
abbrev pub writing : Result ℕ Refusal → Writing
writing (Ok n) = Wrote n
writing (Err e) = Refused (refusal_number e)

-- the buffer from the place on is at least as long as the bytes; false too where the place is past its end
unfoldable pub room_at : List ℕ → ℕ → List ℕ → Bool
room_at buffer at bytes = leb (at + length bytes) (length buffer)

-- refusal 7: the buffer from the named place on is shorter than the sheet, or the place is past its end
unfoldable pub write_answer : List ℕ → ℕ → List ℕ → Writing
write_answer buffer at bytes = if room_at buffer at bytes then Wrote (length bytes) else Refused 7

-- the buffer after it
unfoldable pub write_into : List ℕ → ℕ → List ℕ → List ℕ
write_into buffer at bytes =
    if room_at buffer at bytes then (take at buffer ++ bytes ++ drop (at + length bytes) buffer) else buffer
