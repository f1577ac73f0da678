-- Manual 11.2: d(i) = d(i - 1) + inflow - outflow + carryover(i), and d(0) = 0 (HCM 25-43).
use Rattle.std.specs.Prelude.{ℕ, zero, suc, Bool, true, false, ◌&&◌, List, length, Option, Some, None, leb, ℤ, pos, negsuc, ◌+ℤ◌, ◌-ℤ◌, nat_abs, get_or, if◌then◌else◌}
use Rattle.sections.specs.Section.{SectionNumbers}
use Rattle.planning_sheet.specs.Listing.{first_padded}
use Rattle.planning_sheet.specs.Sheet.{section_at}

-- d(i) from d(i - 1), section i and carryover(i)
abbrev pub next_of : ℤ → SectionNumbers → ℕ → ℤ
next_of d s carried = d +ℤ pos s.inflow -ℤ pos s.outflow +ℤ pos carried

-- d(i), for the i-th section from 1: it may fall below 0
unfoldable pub demand_of : List SectionNumbers → List ℕ → ℕ → ℤ
demand_of sections carryover zero = pos 0
demand_of sections carryover (suc i) = next_of (demand_of sections carryover i) (section_at sections i) (get_or carryover i 0)

-- a demand that a section may have: 0 .. 1,000,000
abbrev pub allowed_demand : ℤ → Bool
allowed_demand (pos d) = leb d 1000000
allowed_demand (negsuc d) = false

-- the demand where a section may have it, none where it is refused by 15
abbrev pub checked_of : ℤ → Option ℕ
checked_of d = if allowed_demand d then Some (nat_abs d) else None

-- none of the first i demands is below 0 or above 1,000,000
unfoldable pub all_within : List SectionNumbers → List ℕ → ℕ → Bool
all_within sections carryover zero = true
all_within sections carryover (suc i) = all_within sections carryover i && allowed_demand (demand_of sections carryover (suc i))

-- the demand of section i, from 0
unfoldable pub demand_at : List SectionNumbers → List ℕ → ℕ → ℕ
demand_at sections carryover i = nat_abs (demand_of sections carryover (suc i))

-- all of them, and zeros to 64
unfoldable pub demands_of : List SectionNumbers → List ℕ → List ℕ
demands_of sections carryover = first_padded 64 (length sections) (demand_at sections carryover) 0

-- the same, or none where one is outside
unfoldable pub held_demands : List SectionNumbers → List ℕ → Option (List ℕ)
held_demands sections carryover =
    if all_within sections carryover (length sections) then Some (demands_of sections carryover) else None
