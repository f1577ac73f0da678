-- What the closure told of the first limit.
use Rattle.std.proofs.Common.{sym, arith}
use Rattle.levels.specs.Level.{graded}
use Rattle.levels.proofs.graded.Goals as goal

pub returns-then-within : goal.returns-then-within
unfolding graded
returns-then-within g c tells h = simp (← h _ _ (omega arith) c.if-within.ensures)

pub returns-else-within : goal.returns-else-within
returns-else-within g c tells h = c.past_a.ensures tells h (sym (h _ _ (omega arith) c.if-within.ensures))
