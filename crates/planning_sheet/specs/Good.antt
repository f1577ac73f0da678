-- That every section of a row is within what the sheet allows, which the contracts of the code above and the laws of the speed ask: no rule of the manual.
use Rattle.std.specs.Prelude.{ℕ, ◌<◌, List}
use Rattle.sections.specs.Good.{GoodSection}
use Rattle.planning_sheet.specs.Sheet.{section_of}

abbrev pub GoodSections : ℕ → List ℕ → Type 0
GoodSections n row = (i : ℕ) → i < n → GoodSection (section_of n row i)
