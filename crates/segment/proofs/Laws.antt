-- The laws of one step at one segment, from what is in force there and its cell.
use Prim.Native.Nat.{ℕ, ◌+◌, ◌-◌, ◌*◌, ◌/◌, ◌≤◌, ◌<◌, min, max}
use mathlib.Core.Bool.{Bool}
use mathlib.Core.Path.{◌≡◌}
use native.Mathlib.Omega.{arith}
use Rattle.segment.specs.declared.Cell.{Cell}
use Rattle.conditions.specs.declared.InForce.{InForce}
use Rattle.rules.specs.declared.Flow.{Flow}
use Rattle.rules.specs.Rules.{off, through, entrance}
use Rattle.segment.specs.Place.{split_of, wish_of, most_of, onward_of, ramp_wish_of, entrance_of, supply_of, inflow_of, leaving_of, moved_of}
use Rattle.rules.proofs.Formulas.{entrance_most, main_flow_most, merge_exact, ramp_flow_most, ramp_flow_share_least, ramp_wish_most_queue, ramp_wish_most_limit, supply_most_entrance, supply_most_room, wish_most_capacity, wish_most_parts}
use Rattle.rules.specs.Good.{GoodSplit}
use Rattle.rules.proofs.Splits.{off_exact, off_rises, remainder_below, split_whole, most_leaving_most, most_leaving_off, leaving_most, leaving_through}
use Rattle.conditions.specs.Good.{GoodPlace}
use Rattle.segment.specs.Bounded.{BoundedCell}

module _ (here : InForce) (cell : Cell) where
  pub good_split : {t : ℕ} → GoodPlace here → BoundedCell t cell → GoodSplit (split_of here cell)
  unfolding split_of
  good_split good held = record { share = good.share; remainder = held.remainder }

  -- ---- what the node at its entrance lets in, of M and whether a queue stands before it
  module _ (m : ℕ) (queued : Bool) where
    -- exactly the smaller of what wished to enter and what could be taken
    pub inflow_exact :
        (inflow_of here cell m queued).main + (inflow_of here cell m queued).ramp ≡
        min (m + ramp_wish_of here cell) (supply_of here cell queued)
    unfolding inflow_of
    inflow_exact = merge_exact _ _ _ _

    pub main_wished : (inflow_of here cell m queued).main ≤ m
    unfolding inflow_of
    main_wished = main_flow_most _ _ _

    pub ramp_wished : (inflow_of here cell m queued).ramp ≤ ramp_wish_of here cell
    unfolding inflow_of
    ramp_wished = ramp_flow_most _ _ _ _

    -- the ramp gets its share of the supply, or all that wish
    pub ramp_share : min (ramp_wish_of here cell) (supply_of here cell queued / (2 * here.lanes)) ≤ (inflow_of here cell m queued).ramp
    unfolding inflow_of
    ramp_share = ramp_flow_share_least _ _ _ _

    pub supply_capacity : GoodPlace here → supply_of here cell queued ≤ here.capacity
    unfolding supply_of entrance_of
    supply_capacity good =
        let most = supply_most_entrance (entrance here.capacity here.lowered queued) here.capacity here.jam here.critical cell.n in
        omega (arith, most, entrance_most here.capacity here.lowered queued good.lowered)

    pub supply_room : supply_of here cell queued ≤ here.jam - cell.n
    unfolding supply_of
    supply_room = supply_most_room _ _ _ _ _

    -- above its jam nothing
    pub none_let_in : here.jam < cell.n → (inflow_of here cell m queued).main + (inflow_of here cell m queued).ramp ≡ 0
    none_let_in above = omega (arith, inflow_exact, supply_room)

    -- at most the capacity
    pub taken_in : GoodPlace here → (inflow_of here cell m queued).main + (inflow_of here cell m queued).ramp ≤ here.capacity
    taken_in good = omega (arith, inflow_exact, supply_capacity good)

    pub ramp_queue : (inflow_of here cell m queued).ramp ≤ cell.q + here.demand
    unfolding ramp_wish_of
    ramp_queue = omega (arith, ramp_wished, ramp_wish_most_queue cell.q here.demand here.limit)

    pub ramp_limit : (inflow_of here cell m queued).ramp ≤ here.limit
    unfolding ramp_wish_of
    ramp_limit = omega (arith, ramp_wished, ramp_wish_most_limit cell.q here.demand here.limit)

    -- after the step: at most the jam, and at most what was there where that was more
    held : (n f r y j : ℕ) → f + r ≤ j - n → n + f + r - y ≤ max n j
    held n f r y j h = omega arith

    pub held_most : (y : ℕ) → (moved_of here cell (inflow_of here cell m queued) y).n ≤ max cell.n here.jam
    unfolding moved_of
    held_most y = held _ _ _ _ _ (omega (arith, inflow_exact, supply_room))

  -- ---- what it lets out, of the flow ahead
  pub most_parts : most_of here cell ≤ cell.n
  unfolding most_of wish_of
  most_parts =
      let most = most_leaving_most (split_of here cell) here.offramp (wish_of here cell) in
      omega (arith, most, wish_most_parts cell.n here.capacity here.speed here.length)

  pub most_capacity : most_of here cell ≤ here.capacity
  unfolding most_of wish_of
  most_capacity =
      let most = most_leaving_most (split_of here cell) here.offramp (wish_of here cell) in
      omega (arith, most, wish_most_capacity cell.n here.capacity here.speed here.length)

  module _ (ahead : ℕ) where
    leaving_at_most : leaving_of here cell ahead ≤ most_of here cell
    unfolding leaving_of
    leaving_at_most = leaving_most _ _ _

    pub let_out : leaving_of here cell ahead ≤ here.capacity
    let_out = omega (arith, leaving_at_most, most_capacity)

    pub let_out_parts : leaving_of here cell ahead ≤ cell.n
    let_out_parts = omega (arith, leaving_at_most, most_parts)

    -- what leaves by the mainline is exactly what enters the next
    pub goes_on : ahead ≤ onward_of here cell → through (split_of here cell) (leaving_of here cell ahead) ≡ ahead
    unfolding leaving_of onward_of
    goes_on h = leaving_through _ _ _ h

    -- and nobody is lost or doubled in the split
    pub all_go : GoodSplit (split_of here cell)
        → off (split_of here cell) (leaving_of here cell ahead) + through (split_of here cell) (leaving_of here cell ahead) ≡ leaving_of here cell ahead
    all_go good = split_whole _ _ good

    pub off_most_at : GoodSplit (split_of here cell) → off (split_of here cell) (leaving_of here cell ahead) ≤ here.offramp
    unfolding most_of
    off_most_at good =
        omega (arith, off_rises (split_of here cell) _ _ leaving_at_most, most_leaving_off (split_of here cell) here.offramp (wish_of here cell) good)

  -- ---- the off-ramp gets its share of y to the part: what it gets and what remains are the share and what remained before, and less than a part remains
  module _ (flow : Flow) (y : ℕ) where
    pub off_share :
        (moved_of here cell flow y).off * 1000 + (moved_of here cell flow y).remainder ≡ (moved_of here cell flow y).out * here.share + cell.remainder
    unfolding moved_of split_of
    off_share = off_exact (split_of here cell) y

    pub remains : (moved_of here cell flow y).remainder < 1000
    unfolding moved_of
    remains = remainder_below (split_of here cell) y
