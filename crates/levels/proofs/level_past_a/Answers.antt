-- What the closure told of a limit in the walk.
use Rattle.levels.specs.Level.{level_by, holds_at_most}
use Rattle.levels.proofs.Settled.{unsettled}
use Rattle.levels.proofs.level_past_a.Goals as goal

pub returns : goal.returns
unfolding level_by
returns c =
    c.past_a.ensures (λ k. holds_at_most k c.args.n c.args.area) (λ limit r h p. p) (unsettled c.args.n c.args.area c.requires)
