-- Digit by digit.
use Rattle.std.proofs.Common.{◌≡◌, drop}
use Rattle.text.specs.Text.{number_from, number_of}
use Rattle.text.proofs.number.Given as goal

abbrev pub invariant-loop-b : goal.invariant-loop-b
invariant-loop-b l = number_of l.word ≡ number_from l.value (drop l.b-index l.word)
