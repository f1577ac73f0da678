-- The room, the plan, and its numbers.
use Rattle.std.proofs.Common.{arith}
use Rattle.planning.proofs.Handed.{counted, too_short, handed_is}
use Rattle.planning.proofs.export.freeway_plan.Goals as goal

pub returns-then-out-lt325 : goal.returns-then-out-lt325
returns-then-out-lt325 c = rw (c.from.ensures, c.number.ensures) (too_short c.args.sheet.now c.args.carryover.now c.args.out.now c.if-out-lt325.true)

pub put_row-requires : goal.put_row-requires
put_row-requires c = omega (arith, counted c.plan.result c.numbers_of-numbers.result c.numbers_of-numbers.ensures, c.if-out-lt325.false)

pub returns : goal.returns
returns c =
    handed_is c.args.sheet.now c.args.carryover.now c.args.out.now c.numbers_of-numbers.result _ _ c.plan.result c.if-out-lt325.false c.plan.ensures
    c.numbers_of-numbers.ensures c.put_row.ensures
