-- Manual 11.1, a sheet as the code holds it: the list of its sections, and what reading it gave.
use Rattle.std.specs.Prelude.{List, map, take, Result, Ok, Err}
use Rattle.refusals.specs.Numbers.{refusal_number}
use Rattle.refusals.specs.declared.Refused.{Refused}
use Rattle.sections.specs.Section.{SectionNumbers}
use Rattle.sections.specs.Numbers.{numbers_of}
use Rattle.planning_sheet.specs.declared.list.Sections.{Sections}
use Rattle.planning_sheet.specs.declared.Sheet.{Sheet}
use Rattle.planning_sheet.specs.Sheet.{Reads, ReadSections, NoSections}

abbrev pub sections_in : Sections → List SectionNumbers
sections_in s = map numbers_of (take s.count s.each)

abbrev pub sheet_reading : Result Sheet Refused → Reads
sheet_reading (Ok s) = ReadSections (sections_in s.sections) s.used
sheet_reading (Err r) = NoSections (refusal_number r.refusal) r.offset
