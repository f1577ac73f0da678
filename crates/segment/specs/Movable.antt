-- What moving a cell on asks: no rule of the manual.
use Rattle.std.specs.Prelude.{◌+◌, ◌-◌, ◌≤◌, ◌≡◌}
use Rattle.conditions.specs.declared.InForce.{InForce}
use Rattle.segment.specs.declared.Cell.{Cell}
use Rattle.segment.specs.declared.Entered.{Entered}
use Rattle.segment.specs.Bounded.{BoundedCell}

-- bounds of what is there and of what entered, so that the arithmetic fits, and the ramp's queue that is left
pub record Movable (here : InForce) (cell : Cell) (came : Entered) : Type 0 where
  pub bounded : BoundedCell 5760 cell
  pub main_most : came.main ≤ 20000
  pub ramp_most : came.ramp ≤ 10000
  pub queue_is : came.queue ≡ cell.q + here.demand - came.ramp
