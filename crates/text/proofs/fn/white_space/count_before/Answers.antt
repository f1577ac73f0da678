-- Whatever is no white space.
use Rattle.std.proofs.Common.{ap}
use Rattle.std.proofs.Common.{not}
use Rattle.text.specs.Text.{stops}
use Rattle.text.proofs.fn.white_space.count_before.Goals as goal

pub returns : goal.returns
unfolding stops
returns c = ap not c.is_white.ensures
