-- What the closure told of each limit that was asked, and that it is not within the first.
use Rattle.std.proofs.Common.{arith}
use Rattle.levels.specs.Level.{graded}
use Rattle.levels.proofs.past_a.Goals as goal

pub returns-then-within : goal.returns-then-within
unfolding graded
returns-then-within g c tells h past = simp (past, ← h _ _ (omega arith) c.if-within.ensures)

pub returns-then-within-2 : goal.returns-then-within-2
unfolding graded
returns-then-within-2 g c tells h past = simp (past, ← h _ _ (omega arith) c.if-within.ensures, ← h _ _ (omega arith) c.if-within-2.ensures)

pub returns-then-within-3 : goal.returns-then-within-3
unfolding graded
returns-then-within-3 g c tells h past = simp (past, ← h _ _ (omega arith) c.if-within.ensures, ← h _ _ (omega arith) c.if-within-2.ensures, ← h _ _ (omega arith) c.if-within-3.ensures)

pub returns-then-within-4 : goal.returns-then-within-4
unfolding graded
returns-then-within-4 g c tells h past = simp (past, ← h _ _ (omega arith) c.if-within.ensures, ← h _ _ (omega arith) c.if-within-2.ensures, ← h _ _ (omega arith) c.if-within-3.ensures, ← h _ _ (omega arith) c.if-within-4.ensures)

pub returns : goal.returns
unfolding graded
returns g c tells h past = simp (past, ← h _ _ (omega arith) c.if-within.ensures, ← h _ _ (omega arith) c.if-within-2.ensures, ← h _ _ (omega arith) c.if-within-3.ensures, ← h _ _ (omega arith) c.if-within-4.ensures)
