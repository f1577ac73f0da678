-- Manual 11.2 to 11.4, one section, from its demand, in the manual's order of operations. Equation numbers are those of the HCM, chapter 25.
use Rattle.std.specs.Prelude.{ℕ, ◌+◌, ◌*◌, ◌-◌, ◌/◌, Bool, true, false, min, ltb, Float, if◌then◌else◌}
use Rattle.std.specs.Float.Ieee.{lt}
use Rattle.sections.specs.declared.table.Row.{Row}
use Rattle.sections.specs.declared.work.Work.{Work}
use Rattle.sections.specs.declared.answer.Answer.{Answer}
use Rattle.sections.specs.declared.answer.Answer.TheVariants.{Free, Slowed, Queued}
use Rattle.sections.specs.Real.{real, ◌⊕◌, ◌⊖◌, ◌⊗◌, ◌⊘◌}
use Rattle.sections.specs.Table.{row_of}

-- a section of the sheet: length in feet, lanes, free-flow speed, capacity factor in thousandths, and the flows in and out
pub record SectionNumbers : Type 0 where
  pub length : ℕ
  pub lanes : ℕ
  pub ffs : ℕ
  pub caf : ℕ
  pub inflow : ℕ
  pub outflow : ℕ

-- c (11.2): the capacity (25-45, by all lanes and the section's factor)
unfoldable pub capacity_of : SectionNumbers → ℕ
capacity_of s = (2200 + 10 * (min 70 s.ffs - 50)) * s.lanes * s.caf / 1000

-- the new carryover (11.2), max(d - c, 0) (25-44)
unfoldable pub carried_of : SectionNumbers → ℕ → ℕ
carried_of s d = d - capacity_of s

-- p: demand to capacity
unfoldable pub ratio_of : ℕ → ℕ → Float
ratio_of d c = real d ⊘ real c

-- ((A w + B) w + C) w + D
unfoldable pub curve_of : Row → Float → Float
curve_of r w = ((r.a ⊗ w ⊕ r.b) ⊗ w ⊕ r.c) ⊗ w ⊕ r.d

-- the delay rate below capacity as it is printed, in seconds a mile (25-47)
unfoldable pub printed_of : Row → Float → Float
printed_of r p = if lt p r.e then real 0 else curve_of r (if lt (real 1) p then real 1 else p)

-- RU: the same, but zero where that is below zero
unfoldable pub under_of : Row → Float → Float
under_of r p = if lt (printed_of r p) (real 0) then real 0 else printed_of r p

-- RO: the delay rate above capacity, in seconds a mile (25-48)
unfoldable pub over_of : ℕ → ℕ → ℕ → Float → Float
over_of length d c p = if ltb c d then (real 450 ⊘ (real length ⊘ real 5280)) ⊗ (p ⊖ real 1) else real 0

-- TR: the travel rate, in seconds a mile (25-49)
unfoldable pub travel_of : ℕ → Float → Float → Float
travel_of ffs ru ro = (ru ⊕ ro) ⊕ real 3600 ⊘ real ffs

-- the speed, in miles an hour (25-50, 25-51)
unfoldable pub speed_of : Float → Float
speed_of tr = real 3600 ⊘ tr

-- the density, in vehicles a mile and lane (25-52)
unfoldable pub density_of : ℕ → ℕ → Float → Float
density_of lanes d speed = (real d ⊘ speed) ⊘ real lanes

-- p, RU, RO, speed and density of a section
unfoldable pub work_of : Row → SectionNumbers → ℕ → ℕ → Work
work_of r s c d =
    let p = ratio_of d c in
    let ru = under_of r p in
    let ro = over_of s.length d c p in
    let v = speed_of (travel_of s.ffs ru ro) in
    record { ratio = p; under = ru; over = ro; speed = v; density = density_of s.lanes d v }

-- a section's answer: free with speed and density; slowed with RU, speed and density; queued with RU, RO, speed and density
pub data Outcome : Type 0 where
  free : Float → Float → Outcome
  slowed : Float → Float → Float → Outcome
  queued : Float → Float → Float → Float → Outcome

-- the same for each case of the enum that the call answers
abbrev pub outcome : Answer → Outcome
outcome (Free v k) = free v k
outcome (Slowed ru v k) = slowed ru v k
outcome (Queued ru ro v k) = queued ru ro v k

-- queued where d is above c, free where p < E, else slowed
unfoldable pub judged_of : Row → ℕ → ℕ → Work → Outcome
judged_of r c d w =
    if ltb c d then queued w.under w.over w.speed w.density
    else if lt w.ratio r.e then free w.speed w.density
    else slowed w.under w.speed w.density

-- the answer of a section whose demand is d
unfoldable pub answer_of : SectionNumbers → ℕ → Outcome
answer_of s d = let c = capacity_of s in judged_of (row_of s.ffs) c d (work_of (row_of s.ffs) s c d)

-- the answer of no section
abbrev pub no_answer : Outcome
no_answer = free (real 0) (real 0)

abbrev pub density_in : Outcome → Float
density_in (free v k) = k
density_in (slowed ru v k) = k
density_in (queued ru ro v k) = k

abbrev pub queued_in : Outcome → Bool
queued_in (free v k) = false
queued_in (slowed ru v k) = false
queued_in (queued ru ro v k) = true

-- L x lanes (11.4)
abbrev pub area_of : SectionNumbers → ℕ
area_of s = s.length * s.lanes
