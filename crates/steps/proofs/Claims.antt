-- Every step keeps the claims.
use Prim.Native.Nat.{ℕ, zero, suc, ◌≤◌, ◌<◌}
use mathlib.Core.Path.{◌≡◌}
use mathlib.Core.Logic.{⊎_elim}
use native.Mathlib.Nat.{eq-or-lt_of_le}
use native.Mathlib.Omega.{arith}
use lib.ListN.{length}
use borrow.Author.Tests.{lt-ltb, le-ltb}
use Rattle.steps.specs.declared.State.{State}
use Rattle.conditions.specs.Conditions.{Conditions, in_force_at}
use Rattle.segment.specs.Place.{moved_of}
use Rattle.steps.specs.Step.{cell_in, flow_at, main_flow_at, next_cell, stepped}
use Rattle.conditions.specs.Good.{GoodConditions}
use Rattle.steps.specs.Bounded.{Bounded}
use Rattle.segment.proofs.Laws.{inflow_exact, let_out, let_out_parts, off_share, remains, taken_in}
use Rattle.steps.proofs.Laws.{split_at, exit_exact, gone_at, held_at, none_let_in_at, main_flow_at_lem, origin_flow, ramp_queue_at, stepped_cell}
use Rattle.steps.proofs.Balance.{balance}
use Rattle.steps.specs.Claims.{entered_at, Holds}

module _ (c : Conditions) (state : State) {t : ℕ} (good : GoodConditions c) (bounded : Bounded c.segments t state)
    (long : c.segments ≤ length state.cells) where
  read : (i : ℕ) → i < c.segments → cell_in (stepped c state) i ≡ next_cell c state i
  read = stepped_cell c state long

  -- what the state after a step tells of a node is the node's flow
  pub entered_stepped : (i : ℕ) → i ≤ c.segments → entered_at c.segments (stepped c state) i ≡ main_flow_at c state i
  unfolding entered_at moved_of stepped
  entered_stepped i h =
      ⊎_elim
      (λ e. rw (e, le-ltb c.segments c.segments (omega arith)))
      (λ l. rw (lt-ltb i c.segments l, read i l, main_flow_at_lem c state i l))
      (eq-or-lt_of_le {n = i} {m = c.segments} h)

  pub stepped_holds : Holds c state (stepped c state)
  unfolding moved_of stepped
  stepped_holds = record {
    takes_in = λ i h. rw (read i h) (taken_in (in_force_at c i) (cell_in state i) _ _ (good.place i h));
    lets_out = λ i h. rw (read i h) (let_out (in_force_at c i) (cell_in state i) _);
    above_jam = λ i h above. rw (read i h) (none_let_in_at c state i above, omega (arith, held_at c state i));
    within_jam = λ i h within. rw (read i h) (omega (arith, held_at c state i));
    inflow = λ i h. rw (read i h) (inflow_exact (in_force_at c i) (cell_in state i) _ _);
    exit = exit_exact c state;
    passed_on = λ i h. rw (read i h, entered_stepped (suc i) h) (gone_at c state i (split_at c state good bounded i h));
    off_share = λ i h. rw (read i h) (off_share (in_force_at c i) (cell_in state i) (flow_at c state i) _);
    remainder = λ i h. rw (read i h) (remains (in_force_at c i) (cell_in state i) (flow_at c state i) _);
    parts = λ i h. rw (read i h) (omega (arith, let_out_parts (in_force_at c i) (cell_in state i) (main_flow_at c state (suc i))));
    queues = λ i h. rw (read i h) (omega (arith, ramp_queue_at c state i));
    origin = rw (entered_stepped zero (omega arith)) (omega (arith, origin_flow c state));
    balanced = balance c state good bounded long;
  }
