-- Byte by byte.
use Rattle.std.proofs.Common.{◌∙◌}
use Rattle.text.proofs.Turns.{same_is}
use Rattle.text.proofs.same.Goals as goal

pub returns : goal.returns
returns c = c.eq.ensures ∙ same_is _ _
