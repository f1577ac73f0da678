-- Manual 9.3 and 9.4, a study period by period, by the ledger's own steps: each segment's letter at the period's end, and its open lanes.
use Rattle.std.specs.Prelude.{ℕ, zero, suc, List, [], ◌∷◌, drop, set, replicate}
use Rattle.levels.specs.declared.Level.TheVariants.{A}
use Rattle.levels.specs.Level.{level_of}
use Rattle.conditions.specs.Conditions.{Conditions, in_force_at}
use Rattle.steps.specs.declared.State.{State}
use Rattle.steps.specs.Step.{cell_in, replaced}
use Rattle.facility.specs.Ledger.{Trail, present}
use Rattle.facility.specs.Calls.{no_sheet}
use Rattle.study.specs.Forecast.{whole, Outcome, Ended, RefusedStudy, outcome_by}
use Rattle.overview.specs.declared.marks.Mark.{Mark}

-- past the last segment or period, and beside a refusal
abbrev pub no_mark : Mark
no_mark = record { letter = A; lanes = 0 }

-- marks of so many segments, counted from 0, and of none after them
unfoldable pub row_by : (ℕ → Mark) → ℕ → List Mark
row_by mark segments = replaced mark segments (replicate 64 no_mark)

-- segment i by what is in force and a state: the letter of the state, by the length and the open lanes in force
unfoldable pub mark_of : Conditions → State → ℕ → Mark
mark_of c state i =
    let here = in_force_at c i in
    record { letter = level_of (cell_in state i).n here.length here.lanes; lanes = here.lanes }

-- the row of the period that the steps end with, the last step first: by what was in force in that step, and the state that it left
unfoldable pub row_in : Trail → List Mark
row_in [] = replicate 64 no_mark
row_in (s ∷ t) = row_by (mark_of s.conditions s.after) s.conditions.segments

-- the rows of so many periods, each of 60 steps, from the steps made in them
unfoldable pub rows_in : (periods : ℕ) → Trail → List (List Mark)
rows_in zero t = replicate 96 (replicate 64 no_mark)
rows_in (suc p) t = set (rows_in p (drop whole t)) p (row_in t)

-- a refusal's number and its place in the file; the road by its numbers, how many periods were run, and their rows
pub record Course : Type 0 where
  pub refusal : ℕ
  pub place : ℕ
  pub road : List ℕ
  pub periods : ℕ
  pub rows : List (List Mark)

-- the course of what a study comes to: its book's periods, or its refusal
unfoldable pub course : Outcome → Course
course (Ended b) = record { refusal = 0; place = 0; road = b.road; periods = b.taken; rows = rows_in b.taken b.trail }
course (RefusedStudy number place) = record { refusal = number; place = place; road = no_sheet; periods = 0; rows = rows_in 0 [] }

-- the course of a study by the present rules
unfoldable pub course_of : List ℕ → Course
course_of bytes = course (outcome_by present bytes)
