-- Byte by byte; nothing is said of what is read.
use Rattle.std.proofs.Common.{length, ◌≤◌}
use Rattle.input.proofs.Lines.next_line.Given as goal

abbrev pub invariant-loop : goal.invariant-loop
invariant-loop g l = l.length ≤ length l.line
