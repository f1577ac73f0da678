-- The start's numbers, and then those of each entry.
use mathlib.Core.Path.{sym, ◌∙◌}
use Rattle.std.proofs.Common.{rules, tests}
use Rattle.parts.proofs.Each.{each_below}
use Rattle.parts.proofs.Groups.{period_grouped}
use Rattle.parts.proofs.is_period.Goals as goal

pub returns-then-is_opening : goal.returns-then-is_opening
returns-then-is_opening c =
    each_below _ _ _ _ _ c.all.ensures.ran (rw c.segments.ensures) (λ x b q k. search (rules, tests))
    ∙ rw (sym c.is_opening.ensures ∙ c.if-is_opening.true) at (period_grouped c.args.road.now c.args.row.now)

pub returns-else-is_opening : goal.returns-else-is_opening
returns-else-is_opening c = c.if-is_opening.false ∙ rw (sym c.is_opening.ensures ∙ c.if-is_opening.false) at (period_grouped c.args.road.now c.args.row.now)
