-- The letters of the segments in turn.
use Rattle.std.proofs.Common.{◌%◌}
use Rattle.timing.specs.Repeated.{level_in}
use Rattle.timing.proofs.walks.freeway_time_letters_before.Goals as goal

pub returns : goal.returns
returns c = c.sum_of_letters.ensures.sum (λ i. level_in c.args.segments.now (i % 64)) (λ i r h p. p)
