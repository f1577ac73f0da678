-- The loop that stores: the first i places of the slice have the new carryover, the others the old.
use mathlib.Core.Path.{◌≡◌}
use mathlib.Core.List.{◌++◌}
use lib.ListN.{drop}
use Rattle.planning_sheet.specs.Listing.{first}
use Rattle.planning_sheet.specs.View.{sections_in}
use Rattle.demands.specs.Carryover.{carried_at}
use Rattle.demands.proofs.carry.Given as goal

abbrev pub invariant-loop-i : goal.invariant-loop-i
invariant-loop-i l =
    l.carryover ≡ first l.i (carried_at (sections_in l.sections) l.demands) ++ drop l.i l.initial.carryover
