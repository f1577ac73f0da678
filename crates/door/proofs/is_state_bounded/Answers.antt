-- Each cell of the slice.
use native.Mathlib.Omega.{arith}
use Rattle.std.proofs.lemmas.List.{length-take}
use Rattle.door.proofs.Cells.{each_cell}
use Rattle.door.specs.Sound.{state_bounded}
use Rattle.door.proofs.is_state_bounded.Goals as goal

pub returns : goal.returns
unfolding state_bounded
returns c =
    let a = c.args in
    rw (c.are_cells_bounded.ensures, each_cell a.t a.ns a.state.now (omega (arith, length-take a.ns a.state.now.cells)))
