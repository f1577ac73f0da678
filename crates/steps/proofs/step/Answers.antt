-- The pass: its invariant is Passing, its turns are turned, and its end is done.
use Prim.Native.Nat.{ℕ, ◌<◌, ◌+◌}
use mathlib.Core.Path.{◌≡◌, refl}
use native.Mathlib.Omega.{arith}
use Rattle.conditions.specs.Conditions.{Conditions}
use Rattle.conditions.proofs.View.{view_good}
use Rattle.segment.specs.declared.Entered.{Entered}
use Rattle.steps.specs.declared.State.{State}
use Rattle.steps.specs.Step.{cell_in}
use Rattle.segment.proofs.Moving.{sent_small, moved_off, moved_out}
use Rattle.steps.proofs.Passing.{Passing, view_same, first_fits, started, ended, still, left_small, movable_at, moved_on, moved_last, turned, done}
use Rattle.steps.proofs.Tallies.{counting, not_counted, not_yet, counted, all_counted}
use Rattle.steps.proofs.step.Goals as goal

module _ {c : Conditions} {s now : State} {last : ℕ} {came : Entered} {left i : ℕ} (p : Passing c s last now came left i) where
  -- the segment at hand is one of the road, and before the last turn so is the next
  below : i < c.segments
  below = omega (arith, p.up_to, p.last_one)

  next_below : i < last → i + 1 < c.segments
  next_below h = omega (arith, h, p.last_one)

  -- the cells that are read are those of the start
  own_cell : cell_in now i ≡ cell_in s i
  own_cell = still _ _ _ _ _ _ _ p i (omega arith)

  cell_ahead : cell_in now (i + 1) ≡ cell_in s (i + 1)
  cell_ahead = still _ _ _ _ _ _ _ p (i + 1) (omega arith)

pub flow_at-came-requires : goal.flow_at-came-requires
flow_at-came-requires c =
    let p = c.requires in
    let good = view_good c.args.conditions.now in
    (p.state_bounded.cells 0 good.segments.0, omega (arith, c.args.conditions.now.demand_most, p.state_bounded.origin))

pub overflow_sub-state : goal.overflow_sub-state
overflow_sub-state c =
    let entering = rw c.place_at.ensures at c.flow_at-came.ensures in
    first_fits _ c.args.state.now _ _ (view_good _) (view_same _).1 entering

pub loop-i-init : goal.loop-i-init
loop-i-init c =
    let entering = rw c.place_at.ensures at c.flow_at-came.ensures in
    let start = started _ _ _ _ (view_good _) (view_same c.args.conditions.now).1 entering _ (omega (arith, (view_same c.args.conditions.now).0)) in
    (start, counting _ _ _)

pub sent_at-sent-requires : goal.sent_at-sent-requires
sent_at-sent-requires c =
    let at = c.loop-i.invariant.0 in
    rw (own_cell at) (c.requires.state_bounded.cells _ (below at))

pub flow_at-ahead-requires : goal.flow_at-ahead-requires
flow_at-ahead-requires c =
    let at = c.loop-i.invariant.0 in
    let onward = sent_small _ _ _ c.sent_at-sent.ensures c.place_at-place.result.now.good in
    (rw (cell_ahead at) (c.requires.state_bounded.cells _ (next_below at c.loop-i-test.true)), omega (arith, onward.1))

pub moved_at-after-requires : goal.moved_at-after-requires
moved_at-after-requires c =
    let at = c.loop-i.invariant.0 in
    (rw (c.place_at-place.ensures, own_cell at) (movable_at _ _ (view_good _) c.requires.state_bounded _ _ (below at) at.came_is), c.sent_at-sent.ensures)

pub overflow_add-left : goal.overflow_add-left
overflow_add-left c =
    let at = c.loop-i.invariant.0 in
    let good = view_good c.args.conditions.now in
    let moving = rw (own_cell at) at c.moved_at-after.ensures in
    let off = moved_off _ _ _ _ _ c.place_at-place.result.now.good (c.requires.state_bounded.cells _ (below at)) moving in
    omega (arith, left_small _ _ _ _ _ _ _ at good c.requires.state_bounded, off)

pub loop-i-preserved : goal.loop-i-preserved
loop-i-preserved c =
    let at = c.loop-i.invariant.0 in
    let sending = rw (c.place_at-place.ensures, own_cell at) at c.sent_at-sent.ensures in
    let flow = rw (c.place_at-next.ensures, cell_ahead at) at c.flow_at-ahead.ensures in
    let moving = rw (c.place_at-place.ensures, own_cell at) at c.moved_at-after.ensures in
    let moved = moved_on _ _ _ _ _ _ _ at _ sending _ _ c.loop-i-test.true flow moving in
    let tally = counted _ _ _ _ _ c.loop-i.invariant.1 _ _ moved.1 c.with_step.ensures in
    (turned _ _ _ _ _ _ _ at _ moved.1 _ c.loop-i-test.true moved.0, tally)

pub sent_at-sent-requires-2 : goal.sent_at-sent-requires-2
sent_at-sent-requires-2 c =
    let at = ended c.loop-i.invariant.0 c.loop-i-test.false in
    rw (own_cell at) (c.requires.state_bounded.cells _ (below at))

pub moved_at-after-requires-2 : goal.moved_at-after-requires-2
moved_at-after-requires-2 c =
    let at = ended c.loop-i.invariant.0 c.loop-i-test.false in
    (rw (c.place_at-place-2.ensures, own_cell at) (movable_at _ _ (view_good _) c.requires.state_bounded _ _ (below at) at.came_is), c.sent_at-sent-2.ensures)

pub overflow_add-result : goal.overflow_add-result
overflow_add-result c =
    let good = view_good c.args.conditions.now in
    omega (arith, left_small _ _ _ _ _ _ _ c.loop-i.invariant.0 good c.requires.state_bounded, c.min-exit.ensures, c.args.conditions.now.outlet_most)

pub overflow_add-result-2 : goal.overflow_add-result-2
overflow_add-result-2 c =
    let at = ended c.loop-i.invariant.0 c.loop-i-test.false in
    let good = view_good c.args.conditions.now in
    let moving = rw (own_cell at) at c.moved_at-after-2.ensures in
    let off = moved_off _ _ _ _ _ c.place_at-place-2.result.now.good (c.requires.state_bounded.cells _ (below at)) moving in
    omega (arith, left_small _ _ _ _ _ _ _ at good c.requires.state_bounded, c.min-exit.ensures, c.args.conditions.now.outlet_most, off)

-- what is added to the totals of the segment at hand, and of the last
pub with_step-requires : goal.with_step-requires
with_step-requires c =
    let at = c.loop-i.invariant.0 in
    let moving = rw (own_cell at) at c.moved_at-after.ensures in
    let good = c.place_at-place.result.now.good in
    let off = moved_off _ _ _ _ _ good (c.requires.state_bounded.cells _ (below at)) moving in
    let held = c.requires.tallies_bounded _ (below at) in
    (rw (not_yet _ _ _ _ _ c.loop-i.invariant.1) held, (off, moved_out _ _ _ _ _ good moving))

pub with_step-requires-2 : goal.with_step-requires-2
with_step-requires-2 c =
    let at = ended c.loop-i.invariant.0 c.loop-i-test.false in
    let moving = rw (own_cell at) at c.moved_at-after-2.ensures in
    let good = c.place_at-place-2.result.now.good in
    let off = moved_off _ _ _ _ _ good (c.requires.state_bounded.cells _ (below at)) moving in
    let held = c.requires.tallies_bounded _ (below at) in
    (rw (not_counted _ _ _ _ _ c.loop-i.invariant.1 _ c.loop-i.invariant.0.up_to) held, (off, moved_out _ _ _ _ _ good moving))

pub returns : goal.returns
returns c =
    let at = ended c.loop-i.invariant.0 c.loop-i-test.false in
    let good = view_good c.args.conditions.now in
    let sending = rw (c.place_at-place-2.ensures, own_cell at) at c.sent_at-sent-2.ensures in
    let moving = rw (c.place_at-place-2.ensures, own_cell at) at c.moved_at-after-2.ensures in
    let exit = rw (view_same c.args.conditions.now).2 at c.min-exit.ensures in
    let moved = moved_last _ _ _ _ _ _ _ at _ sending _ _ refl exit moving in
    let stepped = done _ _ _ _ _ _ _ at _ moved.1 _ good c.requires.state_bounded (omega (arith, good.segments.1)) refl moved.0 in
    let tallied = all_counted _ _ _ _ _ c.loop-i.invariant.1 _ _ _ c.loop-i.invariant.0.up_to c.loop-i-test.false at.last_one moved.1 c.with_step-2.ensures in
    (stepped.0, tallied, stepped.1)
