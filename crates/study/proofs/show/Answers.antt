-- The totals and the lines, put together.
use Rattle.parts.specs.Parts.{road_globals}
use Rattle.study.proofs.Lines.{totals_given, shown_is}
use Rattle.study.proofs.show.Goals as goal

pub unwrap-requires : goal.unwrap-requires
unwrap-requires c = totals_given c.args.f.now c.totals.result c.requires.0 c.totals.ensures

pub lines_of-requires : goal.lines_of-requires
unfolding road_globals
lines_of-requires c = c.requires.1

pub returns : goal.returns
returns c = shown_is c.args.f.now c.unwrap.result c.lines_of.result (rw c.unwrap.ensures at c.totals.ensures) c.lines_of.ensures
