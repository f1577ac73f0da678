-- The loop adds up the numbers' lengths.
use lib.ListN.{get_or}
use mathlib.Core.Path.{refl}
use native.Mathlib.Omega.{arith}
use Rattle.sheets.specs.Write.{row_bytes}
use Rattle.sheets.proofs.Turns.{number_most, length_more}
use Rattle.sheets.proofs.writing.row_length.Goals as goal

pub loop-value-init : goal.loop-value-init
unfolding row_bytes
loop-value-init c = (refl, omega arith)

pub overflow_add-n : goal.overflow_add-n
overflow_add-n c =
    let l = c.loop-value in
    omega (arith, c.length-n.ensures, number_most (get_or c.args.row.now l.value-index 0), l.invariant.1)

pub loop-value-preserved : goal.loop-value-preserved
loop-value-preserved c =
    let l = c.loop-value in
    let row = c.args.row.now in
    (omega (arith, c.length-n.ensures, length_more row l.value-index c.loop-value-test.true), omega (arith, c.length-n.ensures, number_most (get_or row l.value-index 0)))
