-- The sums over the sections: one more section.
use mathlib.Core.Path.{◌≡◌}
use mathlib.Core.List.{List}
use Prim.Native.Nat.{ℕ, ◌+◌}
use native.Mathlib.Numerals.{add-one}
use Rattle.sections.specs.Section.{SectionNumbers}
use Rattle.planning_sheet.specs.Sheet.{section_at}
use Rattle.solving.specs.Facility.{added_of, answer_at, totals_of}

pub totals_more : (sections : List SectionNumbers) (demands : List ℕ) (i : ℕ)
    → totals_of sections demands (i + 1) ≡ added_of (totals_of sections demands i) (section_at sections i) (answer_at sections demands i)
unfolding totals_of
totals_more sections demands i = rw add-one
