-- Calls made over and over, for the benchmark (no rule of the manual): what the timed functions come to.
use Rattle.std.specs.Prelude.{ℕ, zero, suc, ◌+◌, ◌%◌, List, slice_index}
use Rattle.steps.specs.Step.{sum_to}
use Rattle.levels.specs.declared.Level.{Level}
use Rattle.levels.specs.Level.{letter_byte, level_of}
use Rattle.door.specs.declared.Facility.{Facility}
use Rattle.facility.specs.Calls.{lay_of, take_of, run_of, report_of}
use Rattle.timing.specs.declared.walks.Segments.{Segments}

-- a road laid and a sheet taken
abbrev pub begun : (road period : List ℕ) → Facility
begun road period = (take_of (lay_of road).facility period).facility

-- so many runs of one step
unfoldable pub one_by_one : ℕ → Facility → Facility
one_by_one zero f = f
one_by_one (suc k) f = (run_of (one_by_one k f) 1).facility

-- so many times the sheet taken, and its 60 steps made one by one
unfoldable pub periods_one_by_one : (period : List ℕ) → ℕ → Facility → Facility
periods_one_by_one period zero f = f
periods_one_by_one period (suc k) f = one_by_one 60 (take_of (periods_one_by_one period k f) period).facility

-- the letters that so many reports on the segments 1 to 64 in turn tell, summed up as their bytes
abbrev pub letters_told : (times : ℕ) → Facility → ℕ
letters_told times f = sum_to (λ i. letter_byte (report_of f (i % 64 + 1)).level) times

-- those of so many reports after each of so many runs of one step
unfoldable pub letters_after_runs : (reports : ℕ) → ℕ → Facility → ℕ
letters_after_runs reports zero f = 0
letters_after_runs reports (suc k) f = letters_after_runs reports k f + letters_told reports (one_by_one (suc k) f)

-- those after each step of so many periods
unfoldable pub letters_over_periods : (reports : ℕ) (period : List ℕ) → ℕ → Facility → ℕ
letters_over_periods reports period zero f = 0
letters_over_periods reports period (suc k) f =
    letters_over_periods reports period k f + letters_after_runs reports 60 (take_of (periods_one_by_one period k f) period).facility

-- the letter of a segment by its parts, its length and its lanes
abbrev pub level_in : Segments → ℕ → Level
level_in s i = level_of (slice_index s.n i) (slice_index s.length i) (slice_index s.lanes i)
