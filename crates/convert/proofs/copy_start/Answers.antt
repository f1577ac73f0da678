-- Byte by byte.
use Rattle.std.proofs.Common.{arith}
use Rattle.convert.proofs.Loops.{copy_more, copied}
use Rattle.convert.proofs.copy_start.Goals as goal

pub loop-i-preserved : goal.loop-i-preserved
loop-i-preserved c =
    let l = c.loop-i in
    copy_more c.args.part.now c.args.out.now (omega arith) l.i l.out c.loop-i-test.true l.invariant

pub returns : goal.returns
returns c =
    let l = c.loop-i in
    copied c.args.part.now c.args.out.now (omega arith) l.i l.out (omega arith) l.invariant
