-- The road, and then sheet by sheet to the end of the file.
use Rattle.std.proofs.Common.{◌-◌}
use Rattle.study.proofs.Periods.{Turn}
use Rattle.study.proofs.forecast.Given as goal

abbrev pub invariant-loop-at : goal.invariant-loop-at
invariant-loop-at l = Turn l.bytes l.f l.at

abbrev pub decreases-loop-at : goal.decreases-loop-at
decreases-loop-at l = 97 - l.f.taken
