-- Byte by byte.
use Rattle.std.proofs.Common.{◌≡◌}
use Rattle.numbers.proofs.Stores.{stored_to}
use Rattle.convert.proofs.copy_start.Given as goal

abbrev pub invariant-loop-i : goal.invariant-loop-i
invariant-loop-i l = l.out ≡ stored_to l.part l.initial.out l.i
