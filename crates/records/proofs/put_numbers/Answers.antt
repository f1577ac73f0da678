-- Word by word: the defaults stay where no word is left.
use Rattle.std.proofs.Common.{arith, [], sym, ◌∙◌}
use Rattle.std.proofs.lemmas.List.{set-get_or}
use Rattle.records.proofs.Filling.{reads_end, reads_stop, reads_more}
use Rattle.records.proofs.put_numbers.Goals as goal

pub returns-in_default : goal.returns-in_default
returns-in_default c =
    let l = c.loop-number in
    let stop = reads_stop c.args.rest.now c.args.numbers.now l.left.now l.numbers l.number-index l.invariant (omega arith) (c.in_default.ensures.word []) in
    rw set-get_or stop

pub loop-number-preserved : goal.loop-number-preserved
loop-number-preserved c =
    let l = c.loop-number in
    let read = sym c.number.ensures ∙ c.in_ok-number.was in
    reads_more c.args.rest.now c.args.numbers.now l.left.now l.numbers l.number-index l.invariant (omega arith) (omega arith) c.in-Some.word.now c.in-Some.behind.now (c.in-Some.ensures.word []) c.in_ok-number.field-0 read

pub returns-in-None : goal.returns-in-None
returns-in-None c =
    let l = c.loop-number in
    reads_end c.args.rest.now c.args.numbers.now l.left.now l.numbers l.number-index l.invariant (omega arith) (c.in-None.ensures.word [])
