-- The conditions once, then the steps in turn.
use mathlib.Core.Path.{◌∙◌}
use native.Mathlib.Omega.{arith}
use Rattle.running.proofs.Loop.{road_good, sheet_good, force_good, filled, turn_start, turn_bounds, turn_tallies, turn_fits, turned, end_tallies, end_partfeet, turn_end}
use Rattle.running.proofs.make_steps.Goals as goal

pub work_out-conditions-requires : goal.work_out-conditions-requires
work_out-conditions-requires c = let p = c.requires in (road_good _ _ p, sheet_good _ _ p)

pub loop-init : goal.loop-init
loop-init c = turn_start _ _ c.requires

pub step-leaves-requires : goal.step-leaves-requires
step-leaves-requires c =
    let p = c.requires in
    let e = filled _ _ p _ c.work_out-conditions.ensures in
    let turn = c.loop.invariant in
    record {
      state_bounded = rw e (turn_bounds _ _ p _ _ turn c.loop-test.true);
      tallies_bounded = rw e (turn_tallies _ _ p _ _ turn c.loop-test.true);
    }

pub overflow_add-f : goal.overflow_add-f
overflow_add-f c = omega (arith, (turn_fits _ _ c.requires _ _ c.loop.invariant c.loop-test.true).0)

pub overflow_add-f-in-loop : goal.overflow_add-f-in-loop
overflow_add-f-in-loop c =
    let p = c.requires in
    let e = filled _ _ p _ c.work_out-conditions.ensures in
    let arrives = c.from-arrives.ensures ∙ rw e at c.arrived.ensures in
    omega (arith, (turn_fits _ _ p _ _ c.loop.invariant c.loop-test.true).1, arrives)

pub overflow_add-f-in-loop-2 : goal.overflow_add-f-in-loop-2
overflow_add-f-in-loop-2 c =
    let p = c.requires in
    let e = filled _ _ p _ c.work_out-conditions.ensures in
    let leaves = c.from.ensures ∙ rw e at c.step-leaves.ensures.2 in
    omega (arith, (turn_fits _ _ p _ _ c.loop.invariant c.loop-test.true).2, leaves)

pub overflow_add-f-in-loop-3 : goal.overflow_add-f-in-loop-3
overflow_add-f-in-loop-3 c =
    let p = c.requires in
    let e = filled _ _ p _ c.work_out-conditions.ensures in
    let arrives = c.from-arrives.ensures ∙ rw e at c.arrived.ensures in
    let leaves = c.from.ensures ∙ rw e at c.step-leaves.ensures.2 in
    omega (arith, (turn_fits _ _ p _ _ c.loop.invariant c.loop-test.true).3, arrives, leaves, c.saturating_sub.ensures)

pub loop-preserved : goal.loop-preserved
loop-preserved c =
    let p = c.requires in
    let e = filled _ _ p _ c.work_out-conditions.ensures in
    turned _ _ p _ _ c.loop.invariant c.loop-test.true _ _ _ _ _
    (rw e at c.step-leaves.ensures.0) (rw e at c.step-leaves.ensures.1) (c.from.ensures ∙ rw e at c.step-leaves.ensures.2)
    (c.from-arrives.ensures ∙ rw e at c.arrived.ensures) c.saturating_sub.ensures

pub drive-requires : goal.drive-requires
drive-requires c =
    let p = c.requires in
    let e = filled _ _ p _ c.work_out-conditions.ensures in
    record {
      tallies_bounded = rw e (end_tallies _ _ p _ _ c.loop.invariant);
      partfeet_bounded = rw e (end_partfeet _ _ p _ _ c.loop.invariant);
    }

pub returns : goal.returns
returns c =
    let p = c.requires in
    let e = filled _ _ p _ c.work_out-conditions.ensures in
    let few = (force_good _ _ p).segments.1 in
    turn_end _ _ p _ _ c.loop.invariant c.loop-test.false (omega (arith, few)) (omega (arith, few)) (omega (arith, few)) _ (rw e at c.drive.ensures)
