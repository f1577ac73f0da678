-- What the code carries from a segment to the node ahead, and from a node to the segment behind it: no rule of the manual.
use Rattle.std.specs.Prelude.{ℕ, ◌-◌}
use Rattle.conditions.specs.declared.InForce.{InForce}
use Rattle.rules.specs.declared.Flow.{Flow}
use Rattle.rules.specs.Outflow.{outflow}
use Rattle.segment.specs.declared.Cell.{Cell}
use Rattle.segment.specs.declared.Entered.{Entered}
use Rattle.segment.specs.declared.Sent.{Sent}
use Rattle.segment.specs.Place.{split_of, most_of, queued_of}

-- what a segment sends on: what leaves where Y0 do, and whether it is queued
unfoldable pub sent_of : InForce → Cell → Sent
sent_of here cell = record { most = outflow (split_of here cell) (most_of here cell); queued = queued_of here cell }

-- f and r, and the ramp's queue that is left of those who waited
abbrev pub entered : Flow → (waiting : ℕ) → Entered
entered flow waiting = record { main = flow.main; ramp = flow.ramp; queue = waiting - flow.ramp }

-- f and r of it
abbrev pub flow_of : Entered → Flow
flow_of came = record { main = came.main; ramp = came.ramp }
