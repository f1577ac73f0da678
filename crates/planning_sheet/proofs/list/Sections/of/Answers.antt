-- One section more at each turn.
use native.Mathlib.Omega.{arith}
use mathlib.Core.Path.{refl}
use lib.ListN.{length-set}
use Rattle.planning_sheet.specs.Listing.{first}
use Rattle.planning_sheet.proofs.Listed.{listed_more}
use Rattle.planning_sheet.proofs.list.Sections.of.Goals as goal

pub loop-i-init : goal.loop-i-init
unfolding first
loop-i-init c = record { room = refl; listed = refl }

pub loop-i-preserved : goal.loop-i-preserved
loop-i-preserved c =
    record {
      room = simp length-set c.loop-i.invariant.room;
      listed = listed_more _ _ _ _ _ (omega arith) c.loop-i.invariant.listed c.section_in.ensures;
    }
