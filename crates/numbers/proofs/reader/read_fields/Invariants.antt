-- The reader's loop: k of the row's numbers are read, and the next field starts at `at`.
use Rattle.numbers.proofs.Rows.{Turn}
use Rattle.numbers.proofs.reader.read_fields.Given as goal

abbrev pub invariant-loop-k : goal.invariant-loop-k
invariant-loop-k g l = Turn (g.F.Fields.field l.sheet l.bytes) l.from l.count g.row.N l.numbers l.k l.at
