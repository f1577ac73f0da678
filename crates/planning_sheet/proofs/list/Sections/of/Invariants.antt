-- The first i sections are those of the row.
use mathlib.Core.Path.{◌≡◌}
use mathlib.Core.List.{map}
use lib.ListN.{length, take}
use Rattle.sections.specs.Numbers.{numbers_of}
use Rattle.planning_sheet.specs.Listing.{first}
use Rattle.planning_sheet.specs.Sheet.{section_of}
use Rattle.planning_sheet.proofs.list.Sections.of.Given as goal

abbrev pub invariant-loop-i : goal.invariant-loop-i
invariant-loop-i l =
    record { room : length l.each ≡ 64; listed : map numbers_of (take l.i l.each) ≡ first l.i (section_of l.count l.row) }
