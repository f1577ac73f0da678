-- Manual 10.2, the first rules: the same step rules, the split with its remainder among them, under the conditions of a sheet without open
-- lanes. Lanes N and capacity C come from the road alone, ramp demands and meter rates from a sheet of the first layout.
use Rattle.std.specs.Prelude.{ℕ, ◌+◌, ◌*◌, List, get_or}
use Rattle.sheets.specs.Read.{read_first_period}
use Rattle.parts.specs.Parts.{road_globals, segment_of}
use Rattle.conditions.specs.declared.InForce.{InForce}
use Rattle.conditions.specs.Conditions.{Conditions, in_force_with, SheetInForce, None, Under, conditions_with}
use Rattle.facility.specs.Ledger.{Rules}

-- ramp demand and meter rate of segment i, counted from 0; without a sheet nobody arrives, and every ramp is held
unfoldable pub first_demand : SheetInForce → ℕ → ℕ
first_demand None i = 0
first_demand (Under first) i = get_or first (3 + 2 * i) 0

unfoldable pub first_meter : SheetInForce → ℕ → ℕ
first_meter None i = 0
first_meter (Under first) i = get_or first (3 + 2 * i + 1) 0

-- what is in force at segment i: the segment's own lanes and capacity
abbrev pub first_in_force : (road : List ℕ) → SheetInForce → ℕ → InForce
first_in_force road sheet i =
    in_force_with (road_globals road) (segment_of road i) (segment_of road i).lanes (segment_of road i).capacity (first_meter sheet i) (first_demand sheet i)

-- the conditions of a road under the sheet in force, of the first layout
unfoldable pub first_conditions : (road : List ℕ) → SheetInForce → Conditions
first_conditions road sheet = conditions_with (first_in_force road sheet) road sheet

-- the first rules
abbrev pub first_rules : Rules
first_rules = record { read = read_first_period; conditions = first_conditions }
