-- Pair by pair: the buffer starts with the bytes of those that were read.
use Rattle.hexadecimal.proofs.Spellings.{Stored}
use Rattle.hexadecimal.proofs.bytes.Given as goal

abbrev pub invariant-loop-n : goal.invariant-loop-n
invariant-loop-n l = Stored l.word l.n l.out
