-- The loop of the running sum: it is the demand of i sections, none of them outside, and their demands are stored.
use mathlib.Core.Path.{◌≡◌}
use mathlib.Core.List.{◌++◌}
use lib.ListN.{drop, replicate}
use Rattle.planning_sheet.specs.Listing.{first}
use Rattle.planning_sheet.specs.View.{sections_in}
use Rattle.demands.specs.Demand.{demand_at}
use Rattle.demands.proofs.Sums.{Sum}
use Rattle.demands.proofs.demands_of.Given as goal

abbrev pub invariant-loop-i : goal.invariant-loop-i
invariant-loop-i l =
    record {
      sum : Sum (sections_in l.sections) l.carryover l.i l.demand;
      stored : l.each ≡ first l.i (demand_at (sections_in l.sections) l.carryover) ++ drop l.i (replicate 64 0);
    }
