-- Manual 8, what always holds: the one claim about a whole list of calls on a road just laid. `proofs/Lists` shows it of every list.
use Rattle.std.specs.Prelude.{ℕ, ◌+◌, ◌<◌, true, ◌≡◌, [], ◌∷◌, List, map}
use Rattle.parts.specs.Parts.{segment_of}
use Rattle.conditions.specs.Conditions.{segments}
use Rattle.steps.specs.Step.{cell_in, stored_of, sum_to}
use Rattle.steps.specs.Tallies.{tally_in}
use Rattle.steps.specs.Driven.{partfeet_in, partfeet_of}
use Rattle.door.specs.declared.Facility.{Facility}
use Rattle.door.specs.Sound.{sound}
use Rattle.numbers.specs.Number.{Bytes}
use Rattle.facility.specs.Ledger.{Call, Take, Run, Report, Totals, Answer, Refused, Trail, state_after, arrived_in, left_in, partsteps_in, driven_in, tally_of, partfeet_at, opened, answers, book_after}
use Rattle.facility.specs.Calls.{empty, not_written, write_road_of, write_period_of}
use Rattle.facility.specs.Claims.{Every, Chained, Right, Balanced, ToThePart, Apportioned}
use Rattle.facility.specs.View.{view}
use Rattle.numbers.specs.Row.{ReadRow}
use Rattle.sheets.specs.Read.{read_road, sheet_reading}

-- the reading accepts the bytes as a road
abbrev pub AcceptedRoad : List ℕ → Type 0
AcceptedRoad bytes = (row : List ℕ) × (used : ℕ) × (read_road bytes ≡ ReadRow row used)

-- the road that is laid
abbrev pub road_of : List ℕ → List ℕ
road_of bytes = (sheet_reading (read_road bytes)).row

-- the ledger's steps over the whole list, the last first
abbrev pub trail : List ℕ → List Call → Trail
trail road cs = (book_after (opened road) cs).trail

-- THE STATEMENT. `road` is the road laid, `xs` are the answers that the calls gave, and `g` is the facility that they left
pub record ListStatement (road : List ℕ) (cs : List Call) (xs : List Answer) (g : Facility) : Type 0 where
  -- every answer is the ledger's, refusals with their numbers and offsets, reports with n, q, f, r, off(y), y, the letter, both totals and
  -- the part-feet
  pub answered : xs ≡ answers (opened road) cs
  -- the facility left is the one that shows the ledger's book, in every field
  pub shows : g ≡ view (book_after (opened road) cs)
  -- so the sums are those over the ledger's steps, and stored is all n and q and o of the last state
  pub arrived : g.arrived ≡ arrived_in (trail road cs)
  pub left : g.left ≡ left_in (trail road cs)
  pub partsteps : g.partsteps ≡ partsteps_in (trail road cs)
  pub stored : stored_of (segments g.road) g.state ≡ stored_of (segments road) (state_after (trail road cs))
  -- what arrived has left or is stored, now and after every step, so that no part-step is cut off at zero
  pub balance : g.arrived ≡ g.left + stored_of (segments g.road) g.state
  pub balanced : Balanced (trail road cs)
  -- in every step, by the conditions in force in it: at most capacity in and out; a segment above its jam takes nothing in and never gains,
  -- one at or below never passes it; inflow exactly the smaller of wish and supply, what leaves one segment by the mainline enters the next,
  -- the off-ramp gets its share to the part, nothing is lost; and each step starts where the one before ended
  pub every_step : Every Right (trail road cs)
  pub chained : Chained (trail road cs)
  -- each segment's totals are those over the ledger's steps: each step's own off(y), and each step's y
  pub tallies : (i : ℕ) → i < segments road → tally_in g.tallies i ≡ tally_of (trail road cs) i
  -- what left by its off-ramp is exactly all that left it × s / 1000, rounded down, and its remainder is what that division leaves, now and after
  -- every step
  pub off_ramps : (i : ℕ) → i < segments road → ToThePart (segment_of road i).share (tally_in g.tallies i) (cell_in g.state i).remainder
  pub apportioned : Apportioned (trail road cs)
  -- each segment's part-feet, which its report gives, are the sum over the ledger's steps of each step's own y × L; those of the totals are the sum
  -- over the steps of y × L over all segments, and that is the sum of the segments'
  pub partfeet : (i : ℕ) → i < segments road → partfeet_in g.partfeet i ≡ partfeet_at (trail road cs) i
  pub driven : partfeet_of (segments g.road) g.partfeet ≡ driven_in (trail road cs)
  pub summed_up : driven_in (trail road cs) ≡ sum_to (partfeet_at (trail road cs)) (segments road)
  -- the road stays as it was laid, and the facility is never the empty one
  pub same_road : g.road ≡ road
  pub never_empty : sound g ≡ true

-- after a laying that was refused: every call of the list is refused by 9 and changes nothing, and neither sheet can be written
pub record RefusedStatement (cs : List Call) (xs : List Answer) (g : Facility) : Type 0 where
  pub answered : xs ≡ map (λ c. Refused 9 0) cs
  pub same : g ≡ empty
  pub unwritten : (buffer : List ℕ) (at : ℕ) → (write_road_of g buffer at ≡ not_written buffer 9) × (write_period_of g buffer at ≡ not_written buffer 9)

-- the sheets that a list of calls takes are bytes
abbrev pub AllBytes : List Call → Type 0
AllBytes [] = Unit {0}
AllBytes (Take bytes ∷ cs) = Bytes bytes × AllBytes cs
AllBytes (Run k ∷ cs) = AllBytes cs
AllBytes (Report i ∷ cs) = AllBytes cs
AllBytes (Totals ∷ cs) = AllBytes cs
