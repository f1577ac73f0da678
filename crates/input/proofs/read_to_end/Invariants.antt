-- Read by read, each behind the last; nothing is said of what is read.
use Rattle.std.proofs.Common.{length, ◌-◌, ◌≤◌}
use Rattle.input.proofs.read_to_end.Given as goal

abbrev pub invariant-loop-length : goal.invariant-loop-length
invariant-loop-length g l = l.length ≤ length l.buffer

abbrev pub decreases-loop-length : goal.decreases-loop-length
decreases-loop-length g l = length l.buffer - l.length
