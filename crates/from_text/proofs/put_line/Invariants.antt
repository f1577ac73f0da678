-- Word by word; what stands behind a word is shorter than what it was read from.
use Rattle.std.proofs.Common.{length}
use Rattle.from_text.proofs.put_line.Given as goal

abbrev pub decreases-loop-word : goal.decreases-loop-word
decreases-loop-word l = length l.rest
