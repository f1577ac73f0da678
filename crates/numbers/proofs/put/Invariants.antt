-- The writer's loop: so many bytes of the number are in `out`, and those that are left are the bytes of `rest`.
use Rattle.numbers.specs.Number.{number_bytes}
use Rattle.numbers.proofs.Stores.{Stored}
use Rattle.numbers.proofs.put.Given as goal

abbrev pub invariant-loop-byte : goal.invariant-loop-byte
invariant-loop-byte l = Stored (number_bytes l.value) l.initial.out l.out l.byte-index l.rest
