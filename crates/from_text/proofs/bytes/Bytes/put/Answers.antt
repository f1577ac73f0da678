-- A number that was written lies within the buffer.
use Rattle.std.proofs.Common.{arith}
use Rattle.from_text.proofs.Fits.{within}
use Rattle.from_text.proofs.bytes.Bytes.put.Goals as goal

pub overflow_add-self : goal.overflow_add-self
overflow_add-self c = omega (arith, within _ _ c.args.self.now.used _ c.in_ok-self.ensures.0, c.well_formed)

pub invariant_of-self-2 : goal.invariant_of-self-2
invariant_of-self-2 c =
    record { within = omega (arith, within _ _ c.args.self.now.used _ c.in_ok-self.ensures.0, c.write.auto.buffer) }
