-- What the calls at a segment ask, and what leaves it.
use Prim.Native.Nat.{ℕ, ◌≤◌, ◌<◌}
use mathlib.Core.Path.{◌≡◌}
use native.Mathlib.Omega.{arith}
use Rattle.conditions.specs.declared.InForce.{InForce}
use Rattle.segment.specs.declared.Cell.{Cell}
use Rattle.rules.specs.declared.Flow.{Flow}
use Rattle.segment.specs.declared.Sent.{Sent}
use Rattle.rules.specs.Rules.{through, leaving}
use Rattle.rules.specs.Outflow.{outflow}
use Rattle.rules.proofs.Splits.{leaving_all, through_most}
use Rattle.segment.specs.Place.{split_of, most_of, leaving_of, moved_of}
use Rattle.segment.specs.Entered.{sent_of}
use Rattle.conditions.specs.Good.{GoodPlace}
use Rattle.segment.specs.Bounded.{BoundedCell}
use Rattle.segment.proofs.Laws.{good_split, let_out, most_capacity, off_most_at}

-- what is sent on: what leaves where Y0 do
module _ (here : InForce) (cell : Cell) (sent : Sent) (e : sent ≡ sent_of here cell) where
  pub sent_small : GoodPlace here → (sent.most.out ≤ 20000) × (sent.most.onward ≤ 20000)
  unfolding sent_of
  sent_small good =
      rw e (
        omega (arith, most_capacity here cell, good.capacity),
        omega (arith, through_most (split_of here cell) (most_of here cell), most_capacity here cell, good.capacity),
      )

  module _ (ahead : ℕ) where
    -- all leave who may, where the node ahead takes those who go on
    pub all_leave : sent.most.onward ≤ ahead → sent.most ≡ outflow (split_of here cell) (leaving_of here cell ahead)
    unfolding sent_of leaving_of
    all_leave h = rw (e, leaving_all _ _ _ (rw e at h))

    -- or fewer
    pub fewer_leave : ahead < sent.most.onward → ahead < through (split_of here cell) sent.most.out
    unfolding sent_of
    fewer_leave h = rw e (rw e at h)

    pub fewer_are : outflow (split_of here cell) (leaving (split_of here cell) sent.most.out ahead) ≡ outflow (split_of here cell) (leaving_of here cell ahead)
    unfolding sent_of leaving_of
    fewer_are = rw e

-- by the off-ramp no more than it takes
pub moved_off : (here : InForce) (cell : Cell) (flow : Flow) (ahead : ℕ) (after : Cell) → GoodPlace here → BoundedCell 5760 cell
    → after ≡ moved_of here cell flow (leaving_of here cell ahead) → after.off ≤ 10000
unfolding moved_of
moved_off here cell flow ahead after good held e = rw e (omega (arith, off_most_at here cell ahead (good_split here cell good held), good.offramp))

-- and in all no more than the largest capacity
pub moved_out : (here : InForce) (cell : Cell) (flow : Flow) (ahead : ℕ) (after : Cell) → GoodPlace here
    → after ≡ moved_of here cell flow (leaving_of here cell ahead) → after.out ≤ 20000
unfolding moved_of
moved_out here cell flow ahead after good e = rw e (omega (arith, let_out here cell ahead, good.capacity))
