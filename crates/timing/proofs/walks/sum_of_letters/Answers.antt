-- The letters in turn: the sum so far is of those told.
use Rattle.std.proofs.Common.{refl, ◌∙◌, ap, arith}
use Rattle.levels.specs.Level.{letter_byte}
use Rattle.steps.specs.Step.{sum_to}
use Rattle.steps.proofs.Sums.{sum_more}
use Rattle.timing.proofs.walks.sum_of_letters.Goals as goal

pub loop-i-init : goal.loop-i-init
unfolding sum_to
loop-i-init g c = (λ tells told. refl, omega arith)

pub loop-i-preserved : goal.loop-i-preserved
loop-i-preserved g c = (
  λ tells told.
      let letter = told _ _ (omega (arith, c.loop-i-test.true, c.ranges.times.fits)) c.level.ensures in
      sum_more (λ i. letter_byte (tells i)) _ _ _ (c.loop-i.invariant.0 tells told) (c.from-sum.ensures ∙ c.from.ensures ∙ ap letter_byte letter),
  omega (arith, c.loop-i.invariant.1, c.from-sum.ensures, c.from.type_inv),
)
