-- The first nine numbers, and four more for each line.
use Rattle.std.proofs.Common.{◌≡◌, ◌+◌, ◌*◌}
use Rattle.study.proofs.Numbers.{put_to}
use Rattle.study.proofs.export.shown_numbers.Given as goal

abbrev pub invariant-loop-i : goal.invariant-loop-i
invariant-loop-i l = l.numbers ≡ put_to l.x (9 + 4 * l.i)
