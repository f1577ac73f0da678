-- What the closure told of a limit.
use Rattle.levels.specs.Level.{level_of, level_by}
use Rattle.timing.proofs.walks.level_before.Goals as goal

pub returns : goal.returns
unfolding level_of level_by
returns c = c.graded.ensures _ (λ limit r h p. rw (← c.from.ensures, ← c.from-2.ensures) p)
