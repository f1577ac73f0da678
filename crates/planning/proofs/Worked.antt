-- Worked sheets: the definitions computed, bit for bit. The values are those of an independent computation in f64.
use mathlib.Core.Path.{◌≡◌, refl}
use Prim.Native.Nat.{ℕ}
use mathlib.Core.List.{List, [], ◌∷◌}
use lib.Ieee.{of_bits, of_int, add, sub, mul, div, lt, le}
use lib.ListN.{replicate}
use Rattle.numbers.specs.Number.{last, more, groups, placed, read_number}
use Rattle.numbers.specs.Field.{in_range, read_field}
use Rattle.numbers.specs.Row.{fields, and_then, onto}
use Rattle.numbers.specs.Filled.{filled}
use Rattle.planning_sheet.specs.Listing.{first}
use Rattle.levels.specs.declared.Level.TheVariants.{B, F}
use Rattle.levels.specs.Level.{graded}
use Rattle.sections.specs.Table.{tabled, row_of, row75, row70, row65, row60, row55}
use Rattle.sections.specs.Section.{slowed, queued, no_answer, work_of, judged_of, answer_of, capacity_of, carried_of, ratio_of, curve_of, printed_of, under_of, over_of, travel_of, speed_of, density_of}
use Rattle.sections.proofs.Worked.{bits}
use Rattle.planning_sheet.specs.Sheet.{section_field, allowed_at, held_to, field_at, sections_of, sections_from, sheet_from, read_sheet, section_of}
use Rattle.demands.specs.Demand.{demand_of, all_within, demand_at, demands_of}
use Rattle.demands.specs.Carryover.{carried_at, carryover_of}
use Rattle.solving.specs.Facility.{answer_at, answers_of, added_of, totals_of, facility_density, letter_of}
use Rattle.planning.specs.Plan.{refused_plan, accepted_plan, plan_from, plan_of}

-- a sheet of two sections, both queued and with a carryover: the new one replaces the old
abbrev sheet : List ℕ
sheet = 0x02 ∷ 0xa3 ∷ 0x3d ∷ 0x01 ∷ 0x37 ∷ 0x79 ∷ 0xff ∷ 0x79 ∷ 0x03 ∷ 0x4b ∷ 0xaf ∷ 0x01 ∷ 0x9b ∷ 0x28 ∷ 0xe0 ∷ 0x01 ∷ 0x8b ∷ 0x03 ∷ 0xff ∷ 0x01 ∷ []

whole_plan : plan_of sheet (3935 ∷ 2587 ∷ [])
    ≡ record {
      refusal = 0;
      offset = 0;
      used = 20;
      answers =
          queued (bits 0x401a147ae147ae15) (bits 0x40c2ad6994aa916f) (bits 0x3fd7e9cf0f689d6b) (bits 0x40d726bd632b1be5)
          ∷ queued (bits 0x40333d70a3d70a3c) (bits 0x40937b8312ef8606) (bits 0x4005ea747f253f0c) (bits 0x4096068a266f92a0)
          ∷ replicate 62 no_answer;
      density = bits 0x40b1ff5f8d4faa50;
      letter = F;
      carryover = 8586 ∷ 10325 ∷ [];
    }
unfolding of_bits of_int add sub mul div lt le read_number groups last more placed read_field in_range first tabled row_of row75 row70 row65 row60 row55 capacity_of carried_of ratio_of curve_of printed_of under_of over_of travel_of speed_of density_of work_of judged_of answer_of section_field allowed_at held_to field_at fields and_then onto sections_of sections_from filled sheet_from read_sheet section_of demand_of all_within demand_at demands_of answer_at answers_of carried_at carryover_of added_of totals_of facility_density graded letter_of accepted_plan plan_from plan_of
whole_plan = refl

-- two sections just above E, whose printed rate is below zero: slowed with a rate of zero, at their free-flow speed
abbrev above_e : List ℕ
above_e = 0x02 ∷ 0xa0 ∷ 0x29 ∷ 0x03 ∷ 0x4b ∷ 0xe8 ∷ 0x07 ∷ 0xd0 ∷ 0x14 ∷ 0x02 ∷ 0x46 ∷ 0xb6 ∷ 0x07 ∷ 0xe1 ∷ 0x18 ∷ 0x00 ∷ 0x00 ∷ 0x9c ∷ 0x06 ∷ []

floored_plan : plan_of above_e (0 ∷ 0 ∷ [])
    ≡ record {
      refusal = 0;
      offset = 0;
      used = 19;
      answers =
          slowed (bits 0x0000000000000000) (bits 0x4052c00000000000) (bits 0x402c2b3c4d5e6f80)
          ∷ slowed (bits 0x0000000000000000) (bits 0x4051800000000000) (bits 0x4030f33333333333)
          ∷ replicate 62 no_answer;
      density = bits 0x402d9a06d3a06d39;
      letter = B;
      carryover = 0 ∷ 0 ∷ [];
    }
unfolding of_bits of_int add sub mul div lt le read_number groups last more placed read_field in_range first tabled row_of row75 row70 row65 row60 row55 capacity_of carried_of ratio_of curve_of printed_of under_of over_of travel_of speed_of density_of work_of judged_of answer_of section_field allowed_at held_to field_at fields and_then onto sections_of sections_from filled sheet_from read_sheet section_of demand_of all_within demand_at demands_of answer_at answers_of carried_at carryover_of added_of totals_of facility_density graded letter_of accepted_plan plan_from plan_of
floored_plan = refl

-- an FFS that is none of the five, at its own offset
no_row : plan_of (0x01 ∷ 0xa0 ∷ 0x29 ∷ 0x03 ∷ 0x47 ∷ 0xe8 ∷ 0x07 ∷ 0x01 ∷ 0x01 ∷ []) (0 ∷ []) ≡ refused_plan 4 4 (0 ∷ [])
unfolding read_number groups last more placed read_field in_range first tabled section_field allowed_at held_to field_at fields and_then onto sections_of sections_from filled sheet_from read_sheet plan_from plan_of
no_row = refl

-- a slice of another length; a demand above 1,000,000
other_length : plan_of sheet (0 ∷ []) ≡ refused_plan 8 0 (0 ∷ [])
unfolding read_number groups last more placed read_field in_range first tabled section_field allowed_at held_to field_at fields and_then onto sections_of sections_from filled sheet_from read_sheet plan_from plan_of
other_length = refl

too_many : plan_of sheet (4294967295 ∷ 4294967295 ∷ []) ≡ refused_plan 15 0 (4294967295 ∷ 4294967295 ∷ [])
unfolding read_number groups last more placed read_field in_range first tabled section_field allowed_at held_to field_at fields and_then onto sections_of sections_from filled sheet_from read_sheet section_of demand_of all_within plan_from plan_of
too_many = refl
