-- What the whole-number arithmetic of a section and the laws of its speed ask of it, each a bound or a test of the sheet: no rule of the manual.
use Rattle.std.specs.Prelude.{◌≡◌, ◌≤◌, true}
use Rattle.sections.specs.Section.{SectionNumbers}
use Rattle.sections.specs.Table.{tabled}

pub record GoodSection (s : SectionNumbers) : Type 0 where
  pub short : s.length ≤ 26400
  pub wide : 1 ≤ s.lanes
  pub narrow : s.lanes ≤ 8
  pub row : tabled s.ffs ≡ true
  pub least : 100 ≤ s.caf
  pub share : s.caf ≤ 1000
  pub enters : s.inflow ≤ 20000
  pub leaves : s.outflow ≤ 20000
