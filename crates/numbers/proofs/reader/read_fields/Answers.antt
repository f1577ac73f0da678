-- The reader's loop: one turn of it, and what it has read where it ends.
use mathlib.Core.Path.{sym, ap}
use Rattle.numbers.proofs.Rows.{turn_start, turn_more, turn_refused, turn_row}
use Rattle.numbers.specs.Filled.{filled}
use Rattle.numbers.proofs.reader.read_fields.Goals as goal

pub loop-k-init : goal.loop-k-init
loop-k-init g c = turn_start _ _ _ _

pub loop-k-preserved : goal.loop-k-preserved
loop-k-preserved g c = turn_more _ _ _ _ _ _ _ c.requires c.loop-k.invariant _ _ c.loop-k-test.true (sym c.in-Ok.ensures)

pub returns-in-Err : goal.returns-in-Err
unfolding filled
returns-in-Err g c = sym (ap (filled _) (turn_refused _ _ _ _ _ _ _ c.requires c.loop-k.invariant _ c.loop-k-test.true (sym c.in-Err.ensures)))

pub returns : goal.returns
unfolding filled
returns g c =
    let r = turn_row _ _ _ _ _ _ _ c.requires c.loop-k.invariant c.loop-k-test.false in
    rw (r.0, r.1)
