-- The loop that stores: the first i places of the slice have the new carryover, the others the old.
use native.Mathlib.Omega.{arith}
use mathlib.Core.Path.{◌≡◌, refl, ap, ◌∙◌}
use mathlib.Core.List.{append-nil}
use lib.ListN.{length, get_or, drop_of_length-le}
use Rattle.sections.specs.Section.{SectionNumbers, carried_of}
use Rattle.planning_sheet.specs.Listing.{first}
use Rattle.planning_sheet.specs.View.{sections_in}
use Rattle.planning_sheet.proofs.Listed.{store_next}
use Rattle.demands.specs.Carryover.{carried_at, carryover_of}
use Rattle.demands.proofs.carry.Goals as goal

pub loop-i-init : goal.loop-i-init
unfolding first
loop-i-init c = refl

pub loop-i-preserved : goal.loop-i-preserved
unfolding carried_at
loop-i-preserved c =
    let here = ap (λ (s : SectionNumbers). carried_of s (get_or c.args.demands.now c.loop-i.i 0)) c.at.ensures in
    store_next _ _ _ _ _ (omega arith) c.loop-i.invariant (c.carried.ensures ∙ here)

pub returns : goal.returns
unfolding carryover_of
returns c =
    let all : c.loop-i.i ≡ length (sections_in c.args.sections.now) = omega arith in
    c.loop-i.invariant ∙ rw (all, drop_of_length-le c.args.carryover.now {i = length (sections_in c.args.sections.now)} (omega arith), append-nil)
