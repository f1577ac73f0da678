-- Manual 8.2, state: the facility that shows a book of the ledger, in every field.
use Rattle.std.specs.Prelude.{List, ℕ}
use Rattle.conditions.specs.Conditions.{SheetInForce, None, Under, segments}
use Rattle.segment.specs.declared.tally.Tally.{Tally}
use Rattle.steps.specs.Step.{replaced}
use Rattle.steps.specs.Tallies.{fresh_tallies}
use Rattle.steps.specs.Driven.{no_partfeet}
use Rattle.door.specs.declared.Facility.{Facility}
use Rattle.facility.specs.Calls.{no_sheet}
use Rattle.facility.specs.Ledger.{Trail, Book, state_after, tally_of, partfeet_at, arrived_in, left_in, partsteps_in}

-- the row of the sheet in force
abbrev pub row_in : SheetInForce → List ℕ
row_in None = no_sheet
row_in (Under period) = period

-- the segments' totals as a facility keeps them: those of the road's segments, zeros behind
abbrev pub tallies_of : (segments : ℕ) → Trail → List Tally
tallies_of ns t = replaced (tally_of t) ns fresh_tallies

-- and their part-feet
abbrev pub partfeet_kept : (segments : ℕ) → Trail → List ℕ
partfeet_kept ns t = replaced (partfeet_at t) ns no_partfeet

abbrev pub view : Book → Facility
view b = record {
  road = b.road;
  period = row_in b.sheet;
  taken = b.taken;
  made = b.made;
  state = state_after b.trail;
  tallies = tallies_of (segments b.road) b.trail;
  partfeet = partfeet_kept (segments b.road) b.trail;
  arrived = arrived_in b.trail;
  left = left_in b.trail;
  partsteps = partsteps_in b.trail;
}
