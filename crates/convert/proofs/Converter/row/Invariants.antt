-- Number by number, with zeros after them.
use mathlib.Core.Path.{◌≡◌}
use Rattle.sheets.specs.Read.{padded}
use Rattle.conditions.specs.Values.{values_to}
use Rattle.convert.specs.Sheet.{number_to}
use Rattle.convert.proofs.Converter.row.Given as goal

abbrev pub invariant-loop-k : goal.invariant-loop-k
invariant-loop-k l = l.other ≡ padded (values_to (number_to l.self.way l.self.road.now l.row) l.k)
