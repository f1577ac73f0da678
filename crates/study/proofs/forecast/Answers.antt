-- The road, and then sheet by sheet to the end of the file.
use Rattle.std.proofs.Common.{rules, arith, ◌∙◌}
use Rattle.study.proofs.Periods.{begins_at, not_laid, turn_sound, refuses_at, taken_more, turns_on, runs_whole, few_taken}
use Rattle.study.proofs.Told.{refused_is, shown_at_the_end}
use Rattle.study.proofs.forecast.Goals as goal

pub returns-in_err-at : goal.returns-in_err-at
returns-in_err-at c =
    search (rules, refused_is c.args.bytes.now c.in_err-at.field-0.0 (not_laid c.args.bytes.now c.lay-answer.result.answer c.lay-answer.result.facility c.in_err-at.field-0.0 c.in_err-at.was c.lay-answer.ensures))

pub loop-at-init : goal.loop-at-init
loop-at-init c = (begins_at c.args.bytes.now c.lay-answer.result.answer c.lay-answer.result.facility c.in_ok-at.at c.in_ok-at.was c.lay-answer.ensures).0

pub returns-in_err-at-2 : goal.returns-in_err-at-2
returns-in_err-at-2 c =
    search (rules, refused_is c.args.bytes.now c.in_err-at-2.field-0.0 (refuses_at c.args.bytes.now c.loop-at.f c.loop-at.at c.loop-at.invariant c.loop-at-test.true c.in_err-at-2.field-0.0 _ c.in_err-at-2.ensures))

pub loop-at-smaller : goal.loop-at-smaller
loop-at-smaller c =
    let more =
    taken_more c.args.bytes.now c.loop-at.f c.loop-at.at c.loop-at.invariant c.loop-at-test.true c.in_ok-at-2.at c.take_at.new.f c.in_ok-at-2.ensures c.run.new.f c.in_ok-run.ensures in
    omega (arith, more, few_taken c.args.bytes.now c.loop-at.f c.loop-at.at c.loop-at.invariant)

pub loop-at-preserved : goal.loop-at-preserved
loop-at-preserved c =
    (turns_on c.args.bytes.now c.loop-at.f c.loop-at.at c.loop-at.invariant c.loop-at-test.true _ _ c.in_ok-at-2.ensures c.run.new.f c.in_ok-run.ensures).turn

pub returns-in_err-run : goal.returns-in_err-run
returns-in_err-run c =
    absurd (runs_whole c.args.bytes.now c.loop-at.f c.loop-at.at c.loop-at.invariant c.loop-at-test.true _ _ c.in_ok-at-2.ensures c.run.new.f c.in_err-run.field-0.0 c.in_err-run.ensures)

pub show-requires : goal.show-requires
show-requires c = turn_sound c.args.bytes.now c.loop-at.f c.loop-at.at c.loop-at.invariant

pub returns : goal.returns
returns c = c.show.ensures ∙ shown_at_the_end c.args.bytes.now c.loop-at.f c.loop-at.at c.loop-at.invariant c.loop-at-test.false
