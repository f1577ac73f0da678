-- What writing gives, where there is room and where there is none.
use Prim.Native.Nat.{ℕ, ◌+◌, ◌≤◌, ◌<◌}
use mathlib.Core.Path.{◌≡◌}
use mathlib.Core.List.{List, ◌++◌}
use lib.ListN.{length, take, drop}
use borrow.Author.Tests.{le-leb, lt-leb}
use Rattle.numbers.specs.Writing.{Wrote, Refused, room_at, write_answer, write_into}

module _ (buffer : List ℕ) (at : ℕ) (bytes : List ℕ) where
  pub written : at + length bytes ≤ length buffer →
      (write_answer buffer at bytes ≡ Wrote (length bytes)) × (write_into buffer at bytes ≡ take at buffer ++ bytes ++ drop (at + length bytes) buffer)
  unfolding room_at write_answer write_into
  written h = (rw (le-leb _ _ h), rw (le-leb _ _ h))

  pub no_room : length buffer < at + length bytes → (write_answer buffer at bytes ≡ Refused 7) × (write_into buffer at bytes ≡ buffer)
  unfolding room_at write_answer write_into
  no_room h = (rw (lt-leb _ _ h), rw (lt-leb _ _ h))
