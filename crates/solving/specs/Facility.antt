-- Manual 11.4: the facility's density is the sum of density x (L x lanes) over the sum of L x lanes, sections in order; its letter is by the
-- limits 11, 18, 26, 35, 45, and F if any section is queued (HCM Exhibit 25-17, urban).
use Rattle.std.specs.Prelude.{ℕ, zero, suc, ◌+◌, Bool, false, ◌||◌, List, length, get_or, Float, if◌then◌else◌}
use Rattle.std.specs.Float.Ieee.{le}
use Rattle.levels.specs.declared.Level.{Level}
use Rattle.levels.specs.declared.Level.TheVariants.{F}
use Rattle.levels.specs.Level.{graded}
use Rattle.sections.specs.Real.{real, ◌⊕◌, ◌⊗◌, ◌⊘◌}
use Rattle.sections.specs.Section.{SectionNumbers, Outcome, answer_of, no_answer, density_in, queued_in, area_of}
use Rattle.planning_sheet.specs.Listing.{first_padded}
use Rattle.planning_sheet.specs.Sheet.{section_at}
use Rattle.solving.specs.declared.Totals.{Totals}

-- the answer of section i, from 0, under the sections' demands
unfoldable pub answer_at : List SectionNumbers → List ℕ → ℕ → Outcome
answer_at sections demands i = answer_of (section_at sections i) (get_or demands i 0)

-- all of them, and free with zeros past the section count
unfoldable pub answers_of : List SectionNumbers → List ℕ → List Outcome
answers_of sections demands = first_padded 64 (length sections) (answer_at sections demands) no_answer

-- one more section in the sums
unfoldable pub added_of : Totals → SectionNumbers → Outcome → Totals
added_of t s o =
    record {
      mass = t.mass ⊕ density_in o ⊗ real (area_of s);
      area = t.area + area_of s;
      queued = t.queued || queued_in o;
    }

-- the sums over the first i sections, in order
unfoldable pub totals_of : List SectionNumbers → List ℕ → ℕ → Totals
totals_of sections demands zero = record { mass = real 0; area = 0; queued = false }
totals_of sections demands (suc i) = added_of (totals_of sections demands i) (section_at sections i) (answer_at sections demands i)

-- the facility's density
unfoldable pub facility_density : Totals → Float
facility_density t = t.mass ⊘ real t.area

-- a density within a limit
abbrev pub tells_within : Float → ℕ → Bool
tells_within k limit = le k (real limit)

-- the level of service
unfoldable pub letter_of : Float → Bool → Level
letter_of k any_queued = if any_queued then F else graded (tells_within k)
