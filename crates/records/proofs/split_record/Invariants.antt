-- Word by word: what is left is shorter each time.
use Rattle.std.proofs.Common.{length, ◌+◌, ◌≤◌}
use Rattle.records.proofs.split_record.Given as goal

abbrev pub invariant-loop-word : goal.invariant-loop-word
invariant-loop-word l = l.start + length l.rest ≤ length l.line

abbrev pub decreases-loop-word : goal.decreases-loop-word
decreases-loop-word l = length l.rest
