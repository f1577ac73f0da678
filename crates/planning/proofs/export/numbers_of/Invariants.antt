-- The head, and five more for each section.
use Rattle.std.proofs.Common.{◌≡◌, ◌+◌, ◌*◌, []}
use Rattle.planning.specs.View.{planned}
use Rattle.planning.proofs.Handed.{put_to}
use Rattle.planning.proofs.export.numbers_of.Given as goal

abbrev pub invariant-loop-i : goal.invariant-loop-i
invariant-loop-i l = l.numbers ≡ put_to (planned l.plan []) (5 + 5 * l.i)
