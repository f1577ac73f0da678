-- What the walks told.
use Rattle.convert.proofs.Replies.{call_short, call_written}
use Rattle.convert.proofs.convert.Goals as goal

pub returns-then-target-count-clause-reply : goal.returns-then-target-count-clause-reply
returns-then-target-count-clause-reply c = rw c.from.ensures (call_short c.args.way c.args.study.now c.args.target.now c.in_ok-count.count c.in_ok-count.ensures.0 c.if-target-count.true)

pub returns-clause-reply : goal.returns-clause-reply
returns-clause-reply c =
    call_written c.args.way c.args.study.now c.args.target.now c.in_ok-count.count _ c.walk-2.new.out c.in_ok-count.ensures.0 c.if-target-count.false
    c.walk-2.ensures.0 c.walk-2.ensures.1
