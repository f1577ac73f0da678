-- The reader's loop: the groups so far say `value`, the next group weighs `scale`, and what is left to read is the number that starts at i.
use mathlib.Core.Path.{◌≡◌}
use Prim.Native.Nat.{◌*◌, ◌^◌, ◌<◌}
use lib.ListN.{drop}
use Rattle.numbers.specs.Number.{groups, read_number, above}
use Rattle.numbers.proofs.Turns.{top}
use Rattle.numbers.proofs.read.Given as goal

abbrev pub invariant-loop-byte : goal.invariant-loop-byte
invariant-loop-byte l =
    (read_number l.bytes l.at ≡ above l.value l.scale l.i (groups l.left l.least (drop l.i l.bytes))) × (l.value < l.scale) × (l.scale * top l.left ≡ 2 ^ 32)

abbrev pub decreases-loop-byte : goal.decreases-loop-byte
decreases-loop-byte l = l.left
