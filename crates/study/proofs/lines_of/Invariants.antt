-- Line by line.
use Rattle.std.proofs.Common.{◌≡◌}
use Rattle.std.specs.Prelude.{map}
use Rattle.study.specs.Forecast.{lines_by}
use Rattle.study.specs.Shown.{line_at, line_shown}
use Rattle.study.proofs.lines_of.Given as goal

abbrev pub invariant-loop-i : goal.invariant-loop-i
invariant-loop-i l = map line_shown l.lines ≡ lines_by (line_at l.f) l.i
