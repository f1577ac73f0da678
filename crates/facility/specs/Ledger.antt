-- Manual 8.1, the ledger, worked out from the road and the calls' arguments alone. It names no facility.
use Rattle.std.specs.Prelude.{ℕ, zero, suc, ◌+◌, ◌-◌, List, [], ◌∷◌, take}
use Rattle.numbers.specs.Row.{Rows}
use Rattle.sheets.specs.Read.{read_period, padded}
use Rattle.facility.specs.Verdicts.{Verdict, GoesOn, RefusedBy, Taking, NewSheet, SameSheet, NotTaken, take_verdict, run_verdict, report_verdict}
use Rattle.segment.specs.declared.Cell.{Cell}
use Rattle.segment.specs.declared.tally.Tally.{Tally}
use Rattle.steps.specs.declared.State.{State}
use Rattle.levels.specs.declared.Level.{Level}
use Rattle.conditions.specs.declared.InForce.{InForce}
use Rattle.conditions.specs.Conditions.{Conditions, in_force_at, SheetInForce, None, Under, conditions_of, segments}
use Rattle.steps.specs.Step.{cell_in, stepped, fresh_state, arrived_of, left_of, stored_of}
use Rattle.steps.specs.Driven.{driven_at, driven_of}
use Rattle.levels.specs.Level.{level_of}

-- the calls of a list, with their arguments
pub data Call : Type 0 where
  Take : List ℕ → Call
  Run : ℕ → Call
  Report : ℕ → Call
  Totals : Call

-- what a segment report tells of the state: n, q, and of the last step f, r, off(y) and y
pub record Figures : Type 0 where
  pub n : ℕ
  pub q : ℕ
  pub main : ℕ
  pub ramp : ℕ
  pub off : ℕ
  pub out : ℕ

-- the calls' answers. A report: its figures, the letter, the segment's totals and its part-feet. Totals: arrived, left, stored, part-steps, part-feet
pub data Answer : Type 0 where
  Refused : (number offset : ℕ) → Answer
  Taken : (used : ℕ) → Answer
  Ran : Answer
  Reported : Figures → Level → Tally → (partfeet : ℕ) → Answer
  Summed : (arrived left stored partsteps partfeet : ℕ) → Answer

-- one step of the ledger: what was in force in it, the state at its start, the state and the flows at its end
pub record Step : Type 0 where
  pub conditions : Conditions
  pub before : State
  pub after : State

-- the steps made so far, the last first
abbrev pub Trail : Type 0
Trail = List Step

-- the state that the steps left; at first all is zero
abbrev pub state_after : Trail → State
state_after [] = fresh_state
state_after (s ∷ t) = s.after

-- the sums over the trail: arrived and left, each step by its own conditions; and after each step the first less the second
unfoldable pub arrived_in : Trail → ℕ
arrived_in [] = 0
arrived_in (s ∷ t) = arrived_in t + arrived_of s.conditions

unfoldable pub left_in : Trail → ℕ
left_in [] = 0
left_in (s ∷ t) = left_in t + left_of s.conditions.segments s.after

unfoldable pub partsteps_in : Trail → ℕ
partsteps_in [] = 0
partsteps_in (s ∷ t) = partsteps_in t + (arrived_in (s ∷ t) - left_in (s ∷ t))

-- part-feet, each step's own y × L over all segments by its own conditions
unfoldable pub driven_in : Trail → ℕ
driven_in [] = 0
driven_in (s ∷ t) = driven_in t + driven_of s.conditions s.after

-- the sums of segment i: what left by its off-ramp, each step's own off(y)
unfoldable pub off_in : Trail → (i : ℕ) → ℕ
off_in [] i = 0
off_in (s ∷ t) i = off_in t i + (cell_in s.after i).off

-- all that left it, each step's own y
unfoldable pub out_in : Trail → (i : ℕ) → ℕ
out_in [] i = 0
out_in (s ∷ t) i = out_in t i + (cell_in s.after i).out

-- both, as a report tells them
abbrev pub tally_of : Trail → (i : ℕ) → Tally
tally_of t i = record { off = off_in t i; out = out_in t i }

-- the part-feet of segment i, each step's own y × L
unfoldable pub partfeet_at : Trail → (i : ℕ) → ℕ
partfeet_at [] i = 0
partfeet_at (s ∷ t) i = partfeet_at t i + driven_at s.conditions s.after i

-- a step by the step rules under conditions, and k of them, each from the state that the one before left
abbrev pub step_from : Conditions → State → Step
step_from c state = record { conditions = c; before = state; after = stepped c state }

abbrev pub more_steps : Conditions → ℕ → Trail → Trail
more_steps c zero t = t
more_steps c (suc k) t = step_from c (state_after (more_steps c k t)) ∷ more_steps c k t

-- the book: the road and the sheet in force, the number of sheets taken, the steps made under the last, and the trail
pub record Book : Type 0 where
  pub road : List ℕ
  pub sheet : SheetInForce
  pub taken : ℕ
  pub made : ℕ
  pub trail : Trail

-- the rules that a ledger goes by: how a period sheet is read on a road, and what is in force on a road under the sheet in force
pub record Rules : Type 0 where
  pub read : (road bytes : List ℕ) → Rows
  pub conditions : (road : List ℕ) → SheetInForce → Conditions

-- the present ones, which every call goes by
abbrev pub present : Rules
present = record { read = read_period; conditions = conditions_of }

-- what is in force
abbrev pub conditions_by : Rules → Book → Conditions
conditions_by rules b = rules.conditions b.road b.sheet

-- what the table says of taking a sheet
abbrev pub take_by : Rules → Book → (bytes : List ℕ) → Taking
take_by rules b bytes = take_verdict (rules.read b.road) b.taken b.made bytes

-- at first there is no sheet, and no step is made
abbrev pub opened : List ℕ → Book
opened road = record { road = road; sheet = None; taken = 0; made = 0; trail = [] }

-- Take a period sheet, by its verdict: the answer. Of the same sheet once more no byte is used
abbrev pub taken_as : Taking → Answer
taken_as (NewSheet row used) = Taken used
taken_as SameSheet = Taken 0
taken_as (NotTaken number offset) = Refused number offset

-- a sheet taken, new or the same, is counted, and is in force from then on with no step made under it yet
abbrev pub with_period : Book → SheetInForce → Book
with_period b sheet = record b { sheet = sheet; taken = b.taken + 1; made = 0 }

-- by the verdict of a taking: the book after it
abbrev pub with_taking : Book → Taking → Book
with_taking b (NewSheet row used) = with_period b (Under (padded row))
with_taking b SameSheet = with_period b b.sheet
with_taking b (NotTaken number offset) = b

-- the figures of a cell
abbrev pub figures_of : Cell → Figures
figures_of cell = record { n = cell.n; q = cell.q; main = cell.main; ramp = cell.ramp; off = cell.off; out = cell.out }

-- a report of a segment: n, q and the last step's flows, the letter by what is in force there, the totals and the part-feet
abbrev pub report_in : Cell → InForce → Tally → (partfeet : ℕ) → Answer
report_in cell here tally partfeet = Reported (figures_of cell) (level_of cell.n here.length here.lanes) tally partfeet

-- the book with k steps more
abbrev pub with_steps : Rules → ℕ → Book → Book
with_steps rules k b = record b { made = b.made + k; trail = more_steps (conditions_by rules b) k b.trail }

-- Run k steps, by its verdict: the answer, and the book after it
abbrev pub ran_as : Verdict → Answer
ran_as GoesOn = Ran
ran_as (RefusedBy number) = Refused number 0

abbrev pub with_run : Rules → Book → ℕ → Verdict → Book
with_run rules b k GoesOn = with_steps rules k b
with_run rules b k (RefusedBy number) = b

-- Segment report, by its verdict; segments are counted from 1
abbrev pub reported_as : Rules → Book → (segment : ℕ) → Verdict → Answer
reported_as rules b i GoesOn =
    report_in (cell_in (state_after b.trail) (i - 1)) (in_force_at (conditions_by rules b) (i - 1)) (tally_of b.trail (i - 1)) (partfeet_at b.trail (i - 1))
reported_as rules b i (RefusedBy number) = Refused number 0

-- the answer of a call, by the verdict of its table (9 never comes, for the road is laid)
abbrev pub answer_by : Rules → Book → Call → Answer
answer_by rules b (Take bytes) = taken_as (take_by rules b bytes)
answer_by rules b (Run k) = ran_as (run_verdict b.taken b.made k)
answer_by rules b (Report i) = reported_as rules b i (report_verdict b.road i)
answer_by rules b Totals =
    Summed (arrived_in b.trail) (left_in b.trail) (stored_of (segments b.road) (state_after b.trail)) (partsteps_in b.trail) (driven_in b.trail)

-- the book after a call: one that the tables refuse changes nothing, nor do a segment report and totals
abbrev pub after_by : Rules → Book → Call → Book
after_by rules b (Take bytes) = with_taking b (take_by rules b bytes)
after_by rules b (Run k) = with_run rules b k (run_verdict b.taken b.made k)
after_by rules b (Report i) = b
after_by rules b Totals = b

-- the same by the present rules
abbrev pub answer : Book → Call → Answer
answer = answer_by present

abbrev pub after : Book → Call → Book
after = after_by present

-- a list of calls, from a book on: the answers, and the book at its end
abbrev pub answers : Book → List Call → List Answer
answers b [] = []
answers b (c ∷ cs) = answer b c ∷ answers (after b c) cs

abbrev pub book_after : Book → List Call → Book
book_after b [] = b
book_after b (c ∷ cs) = book_after (after b c) cs

-- the bytes of the sheet in force: those that the last accepted taking of a new sheet used; the same sheet once more leaves them as they are. `before`
-- are those of a sheet taken before the list
abbrev pub used_by : Taking → (bytes before : List ℕ) → List ℕ
used_by (NewSheet row used) bytes before = take used bytes
used_by SameSheet bytes before = before
used_by (NotTaken number offset) bytes before = before

abbrev pub period_bytes : Book → (before : List ℕ) → List Call → List ℕ
period_bytes b before [] = before
period_bytes b before (Take bytes ∷ cs) = period_bytes (after b (Take bytes)) (used_by (take_by present b bytes) bytes before) cs
period_bytes b before (Run k ∷ cs) = period_bytes (after b (Run k)) before cs
period_bytes b before (Report i ∷ cs) = period_bytes b before cs
period_bytes b before (Totals ∷ cs) = period_bytes b before cs
