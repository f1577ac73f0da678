-- Manual 11.2: the new carryover of every section, max(d - c, 0), which replaces the old.
use Rattle.std.specs.Prelude.{ℕ, List, length, get_or}
use Rattle.sections.specs.Section.{SectionNumbers, carried_of}
use Rattle.planning_sheet.specs.Listing.{first}
use Rattle.planning_sheet.specs.Sheet.{section_at}

-- the new carryover of section i, from 0, and of all
unfoldable pub carried_at : List SectionNumbers → List ℕ → ℕ → ℕ
carried_at sections demands i = carried_of (section_at sections i) (get_or demands i 0)

unfoldable pub carryover_of : List SectionNumbers → List ℕ → List ℕ
carryover_of sections demands = first (length sections) (carried_at sections demands)
