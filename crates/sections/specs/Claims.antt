-- Manual 11.6, never faster than free flow: what is claimed of a section's answer.
use Rattle.std.specs.Prelude.{◌≡◌, true, false, Float}
use Rattle.std.specs.Float.Ieee.{le}
use Rattle.sections.specs.Real.{real}
use Rattle.sections.specs.Section.{SectionNumbers, Outcome, free, slowed, queued, queued_in}

-- RU: 0 for a free section, whose answer leaves it out
abbrev pub under_in : Outcome → Float
under_in (free v k) = real 0
under_in (slowed ru v k) = ru
under_in (queued ru ro v k) = ru

abbrev pub speed_in : Outcome → Float
speed_in (free v k) = v
speed_in (slowed ru v k) = v
speed_in (queued ru ro v k) = v

-- RU is zero or more, and a section that isn't queued isn't faster than its free-flow speed
pub record NoFaster (s : SectionNumbers) (o : Outcome) : Type 0 where
  pub rate : le (real 0) (under_in o) ≡ true
  pub speed : queued_in o ≡ false → le (speed_in o) (real s.ffs) ≡ true
