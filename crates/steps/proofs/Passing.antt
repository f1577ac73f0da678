-- One pass over the segments, in place: what holds before each segment, and what each turn adds.
use Prim.Native.Nat.{ℕ, zero, suc, ◌+◌, ◌-◌, ◌≤◌, ◌<◌, min}
use mathlib.Core.Path.{◌≡◌, refl, ap, ◌∙◌, subst}
use native.Mathlib.Numerals.{add-one}
use native.Mathlib.Omega.{arith}
use lib.ListN.{length, get_or, set}
use lib.Dec.{ltb}
use Rattle.segment.specs.declared.Cell.{Cell}
use Rattle.segment.specs.declared.Entered.{Entered}
use Rattle.segment.specs.declared.Sent.{Sent}
use Rattle.steps.specs.declared.State.{State}
use Rattle.conditions.specs.Conditions.{Conditions, in_force_at}
use Rattle.conditions.specs.View.{conditions_in}
use Rattle.conditions.specs.declared.place.Conditions as code
use Rattle.segment.specs.Place.{onward_of, inflow_of, leaving_of, moved_of}
use Rattle.steps.specs.Step.{no_cell, cell_in, main_wish_at, queued_at, flow_at, main_flow_at, next_cell, replaced, stepped, sum_to, left_of}
use Rattle.conditions.specs.Good.{GoodConditions}
use Rattle.steps.specs.Bounded.{Bounded}
use Rattle.segment.proofs.Laws.{ramp_limit, taken_in}
use Rattle.steps.proofs.Laws.{exit_exact, main_flow_at_lem, origin_flow}
use Rattle.steps.proofs.Balance.{left_is}
use Rattle.steps.proofs.Bounds.{off_most_after}
use Rattle.steps.proofs.Sums.{replaced_more, replaced_beyond, sum_more, sum_most}
use Rattle.segment.specs.Movable.{Movable}
use Rattle.segment.specs.Entered.{sent_of, entered, flow_of}

-- NS, the mainline demand and X of the code's conditions are those of the rules'
pub view_same : (c : code.Conditions) → (c.segments ≡ (conditions_in c).segments) × (c.demand ≡ (conditions_in c).demand) × (c.outlet ≡ (conditions_in c).outlet)
unfolding conditions_in
view_same c = (refl, refl, refl)

-- what enters segment i, and the ramp's queue that is left
abbrev pub came_at : Conditions → State → ℕ → Entered
came_at c state i = entered (flow_at c state i) ((cell_in state i).q + (in_force_at c i).demand)

module _ (c : Conditions) (state : State) (good : GoodConditions c) (bounded : Bounded c.segments 5760 state) where
  pub movable_at : (i : ℕ) (came : Entered) → i < c.segments → came ≡ came_at c state i → Movable (in_force_at c i) (cell_in state i) came
  movable_at i came h f =
      let t = taken_in (in_force_at c i) (cell_in state i) (main_wish_at c state i) (queued_at c state i) (good.place i h) in
      let r = ramp_limit (in_force_at c i) (cell_in state i) (main_wish_at c state i) (queued_at c state i) in
      rw f (record {
        bounded = bounded.cells i h;
        main_most = omega (arith, t, (good.place i h).capacity);
        ramp_most = omega (arith, r, (good.place i h).limit);
        queue_is = refl;
      })

-- the pass before segment i: of the state the cells before it are moved on and the others are not, and the origin is; what came is what
-- entered it, and left counts the off-ramps before it
pub record Passing (c : Conditions) (start : State) (last : ℕ) (now : State) (came : Entered) (left i : ℕ) : Type 0 where
  pub up_to : i ≤ last
  pub last_one : last + 1 ≡ c.segments
  pub origin_is : now.origin ≡ start.origin + c.demand - main_flow_at c start zero
  pub cells_are : now.cells ≡ replaced (next_cell c start) i start.cells
  pub came_is : came ≡ came_at c start i
  pub left_is : left ≡ sum_to (λ j. (next_cell c start j).off) i

module _ (c : Conditions) (start : State) (demand : ℕ) (came : Entered) (good : GoodConditions c) (demands : demand ≡ c.demand)
    (first : came ≡ entered (inflow_of (in_force_at c 0) (cell_in start 0) (start.origin + demand) (ltb 0 start.origin))
    ((cell_in start 0).q + (in_force_at c 0).demand)) where
  first_came : came ≡ came_at c start 0
  unfolding main_wish_at queued_at
  first_came = rw (first, demands)

  first_main : came.main ≡ main_flow_at c start 0
  first_main = rw (first_came, main_flow_at_lem c start 0 (omega (arith, good.segments.0)))

  pub first_fits : came.main ≤ start.origin + demand
  first_fits = omega (arith, first_main, origin_flow c start)

  -- the pass before its first turn
  pub started : (last : ℕ) → last ≡ c.segments - 1
      → Passing c start last (record start { origin = start.origin + demand - came.main }) came 0 0
  unfolding replaced sum_to
  started last e = record {
    up_to = omega arith;
    last_one = omega (arith, good.segments.0);
    origin_is = rw (first_main, demands);
    cells_are = refl;
    came_is = first_came;
    left_is = refl;
  }

-- the pass at its end is before the last segment
pub ended : {c : Conditions} {start now : State} {last left i : ℕ} {came : Entered} → Passing c start last now came left i → last ≤ i
    → Passing c start last now came left last
ended {c} {start} {now} {last} {left} {i} {came} at h =
    let e : i ≡ last = omega (arith, at.up_to) in
    subst (Passing c start last now came left) e at

module _ (c : Conditions) (start : State) (last : ℕ) (now : State) (came : Entered) (left i : ℕ) (at : Passing c start last now came left i) where
  -- from segment i on the state has the cells of the step's start
  pub still : (j : ℕ) → i ≤ j → cell_in now j ≡ cell_in start j
  still j h = ap (λ xs. get_or xs j no_cell) at.cells_are ∙ replaced_beyond (next_cell c start) i j start.cells no_cell h

  pub left_small : {t : ℕ} → GoodConditions c → Bounded c.segments t start → left ≤ 640000
  left_small good bounded =
      let n = at.last_one in
      let w = at.up_to in
      omega (
        arith,
        at.left_is,
        good.segments.1,
        sum_most (λ j. (next_cell c start j).off) 10000 i (λ j h. off_most_after c start good bounded j (omega arith)),
      )

  -- what enters the next segment, and the cell moved on: before the last segment
  module _ (sent : Sent) (sending : sent ≡ sent_of (in_force_at c i) (cell_in start i)) where
    pub moved_on : (ahead : Entered) (after : Cell) →
        i < last →
        ahead ≡ entered (inflow_of (in_force_at c (i + 1)) (cell_in start (i + 1)) sent.most.onward sent.queued)
        ((cell_in start (i + 1)).q + (in_force_at c (i + 1)).demand) →
        after ≡ moved_of (in_force_at c i) (cell_in start i) (flow_of came) (leaving_of (in_force_at c i) (cell_in start i) ahead.main) →
        (ahead ≡ came_at c start (i + 1)) × (after ≡ next_cell c start i)
    unfolding main_wish_at queued_at sent_of onward_of
    moved_on ahead after h a e =
        let f : ahead ≡ came_at c start (i + 1) = rw (a, sending, add-one) in
        let m : ahead.main ≡ main_flow_at c start (suc i) = rw (f, add-one, main_flow_at_lem c start (suc i) (omega (arith, at.last_one))) in
        (f, rw (e, at.came_is, m))

    -- and at the last
    pub moved_last : (exit : ℕ) (after : Cell) →
        i ≡ last →
        exit ≡ min sent.most.onward c.outlet →
        after ≡ moved_of (in_force_at c i) (cell_in start i) (flow_of came) (leaving_of (in_force_at c i) (cell_in start i) exit) →
        (exit ≡ main_flow_at c start c.segments) × (after ≡ next_cell c start i)
    unfolding main_wish_at sent_of onward_of
    moved_last exit after h x e =
        let n : suc i ≡ c.segments = omega (arith, at.last_one) in
        let w : exit ≡ main_flow_at c start c.segments = rw (x, sending, exit_exact c start, ← n) in
        (w, rw (e, at.came_is, w, n))

  module _ (after : Cell) (moved : after ≡ next_cell c start i) where
    next_cells : set now.cells i after ≡ replaced (next_cell c start) (i + 1) start.cells
    next_cells = replaced_more (next_cell c start) i start.cells now.cells after at.cells_are moved

    next_left : left + after.off ≡ sum_to (λ j. (next_cell c start j).off) (i + 1)
    next_left = sum_more (λ j. (next_cell c start j).off) i left after.off at.left_is (rw moved)

    -- a turn of a segment before the last
    pub turned : (ahead : Entered) → i < last → ahead ≡ came_at c start (i + 1)
        → Passing c start last (record now { cells = set now.cells i after }) ahead (left + after.off) (i + 1)
    turned ahead h f = record {
      up_to = omega arith;
      last_one = at.last_one;
      origin_is = at.origin_is;
      cells_are = next_cells;
      came_is = f;
      left_is = next_left;
    }

    -- and that of the last
    pub done : {t : ℕ} (exit : ℕ) →
        GoodConditions c →
        Bounded c.segments t start →
        c.segments ≤ length start.cells →
        i ≡ last →
        exit ≡ main_flow_at c start c.segments →
        (record { cells = set now.cells i after; origin = now.origin; exit = exit } ≡ stepped c start)
        × (exit + left + after.off ≡ left_of c.segments (stepped c start))
    unfolding stepped
    done exit good bounded long h w =
        let p : i + 1 ≡ c.segments = omega (arith, at.last_one) in
        let l = next_left ∙ ap (sum_to (λ j. (next_cell c start j).off)) p in (
          rw (next_cells, at.origin_is, w, p),
          omega (arith, left_is c start good bounded long, l, w),
        )
