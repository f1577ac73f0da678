-- Manual 11.1, a section as the code holds it: its six numbers.
use Rattle.sections.specs.declared.section.Section.{Section}
use Rattle.sections.specs.Section.{SectionNumbers}

abbrev pub numbers_of : Section → SectionNumbers
numbers_of s =
    record { length = s.length; lanes = s.lanes; ffs = s.ffs; caf = s.caf; inflow = s.inflow; outflow = s.outflow }
