-- Word by word.
use Rattle.records.proofs.Filling.{Reads}
use Rattle.records.proofs.put_numbers.Given as goal

abbrev pub invariant-loop-number : goal.invariant-loop-number
invariant-loop-number l = Reads l.rest l.initial.numbers l.left l.numbers l.number-index
