-- Digit by digit.
use Rattle.std.proofs.Common.{sym, ◌∙◌}
use Rattle.text.proofs.Turns.{number_more, number_stops, number_end}
use Rattle.text.proofs.number.Goals as goal

pub returns-in_err-value : goal.returns-in_err-value
returns-in_err-value c =
    let l = c.loop-b in
    let stops = sym c.in_err-value.was ∙ c.with_digit.ensures in
    c.from_residual.ensures ∙ sym (l.invariant ∙ number_stops c.args.word.now l.b-index c.loop-b-test.true l.value stops)

pub loop-b-preserved : goal.loop-b-preserved
loop-b-preserved c =
    let l = c.loop-b in
    l.invariant ∙ number_more c.args.word.now l.b-index c.loop-b-test.true l.value c.in_ok-value.value (sym c.in_ok-value.was ∙ c.with_digit.ensures)

pub returns : goal.returns
returns c =
    let l = c.loop-b in
    sym (l.invariant ∙ number_end c.args.word.now l.b-index c.loop-b-test.false l.value)
