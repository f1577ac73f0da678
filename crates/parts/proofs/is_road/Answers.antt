-- The start's numbers, and then those of each segment.
use mathlib.Core.Path.{sym, ◌∙◌}
use Rattle.std.proofs.Common.{rules, tests}
use Rattle.parts.proofs.Each.{each_below}
use Rattle.parts.proofs.Groups.{road_grouped}
use Rattle.parts.proofs.is_road.Goals as goal

pub returns-then-is_start : goal.returns-then-is_start
returns-then-is_start c =
    each_below _ _ _ _ _ c.all.ensures.ran (rw c.segments.ensures) (λ x b q k. search (rules, tests))
    ∙ rw (sym c.is_start.ensures ∙ c.if-is_start.true) at (road_grouped c.args.row.now)

pub returns-else-is_start : goal.returns-else-is_start
returns-else-is_start c = c.if-is_start.false ∙ rw (sym c.is_start.ensures ∙ c.if-is_start.false) at (road_grouped c.args.row.now)
