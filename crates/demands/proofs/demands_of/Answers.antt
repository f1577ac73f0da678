-- The loop of the running sum: it is the demand of i sections, none of them outside, and their demands are stored.
use native.Mathlib.Omega.{arith}
use mathlib.Core.Path.{◌≡◌, refl, ◌∙◌}
use mathlib.Core.Bool.{true}
use lib.ListN.{length}
use Rattle.planning_sheet.specs.Listing.{first}
use Rattle.planning_sheet.specs.View.{sections_in}
use Rattle.planning_sheet.proofs.Listed.{padded_is, store_next}
use Rattle.demands.specs.Demand.{all_within, demand_at, demands_of, held_demands}
use Rattle.demands.proofs.Sums.{sum_start, sum_more, sum_out}
use Rattle.demands.proofs.demands_of.Goals as goal

pub loop-i-init : goal.loop-i-init
unfolding first
loop-i-init c = record { sum = sum_start _ _; stored = refl }

pub loop-i-preserved : goal.loop-i-preserved
loop-i-preserved c =
    let kept = c.loop-i.invariant in
    let more = sum_more _ _ _ _ kept.sum _ c.at.ensures _ c.next_demand.ensures _ c.in_ok-demand.was in
    record { sum = more.0; stored = store_next _ _ _ _ _ (omega arith) kept.stored more.1 }

pub returns-in_err-demand : goal.returns-in_err-demand
unfolding held_demands
returns-in_err-demand c =
    let out = sum_out _ _ _ _ c.loop-i.invariant.sum _ c.at.ensures _ c.next_demand.ensures (length (sections_in c.args.sections.now)) (omega arith) c.in_err-demand.was in
    c.from_residual.ensures ∙ rw out

pub returns : goal.returns
unfolding held_demands demands_of
returns c =
    let sections = sections_in c.args.sections.now in
    let all : c.loop-i.i ≡ length sections = omega arith in
    let fit : all_within sections c.args.carryover.now (length sections) ≡ true = rw all at c.loop-i.invariant.sum.fit in
    rw (fit, c.loop-i.invariant.stored, all, padded_is 64 (length sections) (demand_at sections c.args.carryover.now) 0)
