-- Manual 4.3 to 4.9: the rules at one segment, from what is in force there, its cell, and what comes from its neighbours.
use Rattle.std.specs.Prelude.{ℕ, ◌+◌, ◌-◌, Bool, ltb}
use Rattle.conditions.specs.declared.InForce.{InForce}
use Rattle.segment.specs.declared.Cell.{Cell}
use Rattle.rules.specs.declared.Flow.{Flow}
use Rattle.rules.specs.Rules.{Split, wish_to_leave, off, remainder_after, through, most_leaving, ramp_wish, entrance, supply, merge, leaving}

module _ (here : InForce) (cell : Cell) where
  -- what off(y) and through(y) go by: the share s, and the remainder at the step's start
  unfoldable pub split_of : Split
  split_of = record { share = here.share; remainder = cell.remainder }

  -- D
  unfoldable pub wish_of : ℕ
  wish_of = wish_to_leave cell.n here.capacity here.speed here.length

  -- Y0
  unfoldable pub most_of : ℕ
  most_of = most_leaving split_of here.offramp wish_of

  -- through(Y0): M of the node ahead
  unfoldable pub onward_of : ℕ
  onward_of = through split_of most_of

  -- n is above Q: a queue stands before the node ahead
  unfoldable pub queued_of : Bool
  queued_of = ltb here.critical cell.n

  -- W
  unfoldable pub ramp_wish_of : ℕ
  ramp_wish_of = ramp_wish cell.q here.demand here.limit

  -- E, by whether a queue stands before the node
  unfoldable pub entrance_of : (queued : Bool) → ℕ
  entrance_of queued = entrance here.capacity here.lowered queued

  -- P
  unfoldable pub supply_of : (queued : Bool) → ℕ
  supply_of queued = supply (entrance_of queued) here.capacity here.jam here.critical cell.n

  -- f and r, of M and whether a queue stands before the node
  unfoldable pub inflow_of : (main_wish : ℕ) (queued : Bool) → Flow
  inflow_of m queued = merge (supply_of queued) here.lanes m ramp_wish_of

  -- y, of the flow ahead
  unfoldable pub leaving_of : (ahead : ℕ) → ℕ
  leaving_of ahead = leaving split_of most_of ahead

  -- after the step, by f and r, and y: n + f + r − y, q + ramp demand − r, the step's flows, and the remainder that off(y) left
  unfoldable pub moved_of : Flow → (leaving : ℕ) → Cell
  moved_of flow y = record {
    n = cell.n + flow.main + flow.ramp - y;
    q = cell.q + here.demand - flow.ramp;
    main = flow.main;
    ramp = flow.ramp;
    off = off split_of y;
    out = y;
    remainder = remainder_after split_of y;
  }
