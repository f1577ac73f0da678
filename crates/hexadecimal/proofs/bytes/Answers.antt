-- Pair by pair: the buffer starts with the bytes of those that were read.
use Rattle.std.proofs.Common.{length, arith, ◌/◌, ◌≡◌}
use Rattle.hexadecimal.proofs.Spellings.{stored_bad, stored_more, stored_odd, stored_all, too_long, no_bytes, some_bytes}
use Rattle.hexadecimal.proofs.bytes.Goals as goal

pub returns-then-out-count-clause-spelled : goal.returns-then-out-count-clause-spelled
returns-then-out-count-clause-spelled c =
    let a = c.args in
    too_long a.word.now a.out.now (length a.out.now) c.if-out-count.true

pub returns-in_default-clause-spelled : goal.returns-in_default-clause-spelled
returns-in_default-clause-spelled c =
    let a = c.args in
    let l = c.loop-n in
    let bad = stored_bad a.word.now l.out l.n l.invariant c.loop-n-test.true c.byte_of.result c.byte_of.ensures c.in_default.is in
    no_bytes a.word.now l.out (length a.out.now) c.if-out-count.false bad

pub loop-n-preserved : goal.loop-n-preserved
loop-n-preserved c =
    let a = c.args in
    let l = c.loop-n in
    stored_more a.word.now l.out l.n l.invariant c.loop-n-test.true c.byte_of.result c.byte_of.ensures c.in-Some.byte c.in-Some.is (omega arith)

pub returns-then-word-eq1-clause-spelled : goal.returns-then-word-eq1-clause-spelled
returns-then-word-eq1-clause-spelled c =
    let a = c.args in
    let l = c.loop-n in
    let odd = stored_odd a.word.now l.out l.n l.invariant (omega arith) c.if-word-eq1.true in
    no_bytes a.word.now l.out (length a.out.now) c.if-out-count.false odd

pub returns-clause-spelled : goal.returns-clause-spelled
returns-clause-spelled c =
    let a = c.args in
    let l = c.loop-n in
    let all = stored_all a.word.now l.out l.n l.invariant (omega arith) c.if-word-eq1.false in
    let last : l.n ≡ length a.word.now / 2 = omega arith in
    some_bytes a.word.now l.out (length a.out.now) c.if-out-count.false _ (omega arith) (rw last at all)
