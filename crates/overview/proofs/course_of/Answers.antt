-- The road, and then sheet by sheet to the end of the file, a row for each.
use Rattle.std.proofs.Common.{rules, arith}
use Rattle.study.proofs.Periods.{begins_at, not_laid, refuses_at, runs_whole}
use Rattle.overview.proofs.Rows.{no_rows, row_more, one_taken, few_on_road, refused_is, told_at_the_end}
use Rattle.overview.proofs.course_of.Goals as goal

pub returns-in_err-at : goal.returns-in_err-at
returns-in_err-at c =
    search (rules, refused_is c.args.bytes.now c.in_err-at.field-0.0 (not_laid c.args.bytes.now c.lay-answer.result.answer c.lay-answer.result.facility c.in_err-at.field-0.0 c.in_err-at.was c.lay-answer.ensures))

pub loop-at-init : goal.loop-at-init
loop-at-init c = no_rows c.args.bytes.now c.lay-answer.result.facility c.in_ok-at.at (begins_at c.args.bytes.now c.lay-answer.result.answer c.lay-answer.result.facility c.in_ok-at.at c.in_ok-at.was c.lay-answer.ensures)

pub returns-in_err-at-2 : goal.returns-in_err-at-2
returns-in_err-at-2 c =
    search (rules, refused_is c.args.bytes.now c.in_err-at-2.field-0.0 (refuses_at c.args.bytes.now c.loop-at.f c.loop-at.at c.loop-at.invariant.turn c.loop-at-test.true c.in_err-at-2.field-0.0 _ c.in_err-at-2.ensures))

pub loop-at-smaller : goal.loop-at-smaller
loop-at-smaller c =
    let taken = one_taken c.args.bytes.now c.loop-at.f c.loop-at.at c.loop-at.rows c.loop-at.invariant c.loop-at-test.true c.in_ok-at-2.at c.take_at.new.f c.in_ok-at-2.ensures c.run.new.f c.in_ok-run.ensures in
    omega (arith, taken.0, taken.1)

pub loop-at-preserved : goal.loop-at-preserved
loop-at-preserved c =
    let taken = one_taken c.args.bytes.now c.loop-at.f c.loop-at.at c.loop-at.rows c.loop-at.invariant c.loop-at-test.true c.in_ok-at-2.at c.take_at.new.f c.in_ok-at-2.ensures c.run.new.f c.in_ok-run.ensures in
    row_more c.args.bytes.now c.loop-at.f c.loop-at.at c.loop-at.rows c.loop-at.invariant c.loop-at-test.true c.in_ok-at-2.at c.take_at.new.f c.in_ok-at-2.ensures c.run.new.f c.in_ok-run.ensures c.row_of.result _ c.row_of.ensures (omega (arith, taken.0))

pub returns-in_err-run : goal.returns-in_err-run
returns-in_err-run c =
    absurd (runs_whole c.args.bytes.now c.loop-at.f c.loop-at.at c.loop-at.invariant.turn c.loop-at-test.true _ _ c.in_ok-at-2.ensures c.run.new.f c.in_err-run.field-0.0 c.in_err-run.ensures)

pub row_of-requires : goal.row_of-requires
row_of-requires c =
    few_on_road c.args.bytes.now c.loop-at.f c.loop-at.at c.loop-at.rows c.loop-at.invariant c.loop-at-test.true c.in_ok-at-2.at c.take_at.new.f c.in_ok-at-2.ensures c.run.new.f c.in_ok-run.ensures

pub overflow_sub-rows : goal.overflow_sub-rows
overflow_sub-rows c =
    let taken = one_taken c.args.bytes.now c.loop-at.f c.loop-at.at c.loop-at.rows c.loop-at.invariant c.loop-at-test.true c.in_ok-at-2.at c.take_at.new.f c.in_ok-at-2.ensures c.run.new.f c.in_ok-run.ensures in
    omega (arith, taken.0, taken.1)

pub bounds-rows-f : goal.bounds-rows-f
bounds-rows-f c =
    let taken = one_taken c.args.bytes.now c.loop-at.f c.loop-at.at c.loop-at.rows c.loop-at.invariant c.loop-at-test.true c.in_ok-at-2.at c.take_at.new.f c.in_ok-at-2.ensures c.run.new.f c.in_ok-run.ensures in
    omega (arith, taken.0, taken.1)

pub returns : goal.returns
returns c = told_at_the_end c.args.bytes.now c.loop-at.f c.loop-at.at c.loop-at.rows c.loop-at.invariant c.loop-at-test.false
