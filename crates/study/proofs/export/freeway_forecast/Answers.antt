-- The room, the forecast, and its numbers.
use Rattle.std.proofs.Common.{ap, ◌∙◌, arith}
use Rattle.study.specs.Export.{listing_numbers}
use Rattle.study.proofs.Numbers.{too_short, counted, filled}
use Rattle.study.proofs.export.freeway_forecast.Goals as goal

pub returns-then-out-lt265 : goal.returns-then-out-lt265
returns-then-out-lt265 c = rw (c.from.ensures, c.number.ensures) (too_short c.args.study.now c.args.out.now c.if-out-lt265.true)

pub put_row-requires : goal.put_row-requires
put_row-requires c =
    omega (arith, counted c.args.study.now c.numbers_of-numbers.result (c.numbers_of-numbers.ensures ∙ ap listing_numbers c.forecast.ensures), c.if-out-lt265.false)

pub returns : goal.returns
returns c =
    filled c.args.study.now c.args.out.now c.numbers_of-numbers.result _ c.if-out-lt265.false
    (c.numbers_of-numbers.ensures ∙ ap listing_numbers c.forecast.ensures) c.put_row.ensures
