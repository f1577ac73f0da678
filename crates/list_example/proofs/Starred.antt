-- THE STATEMENT on the starred examples: every row of the table holds.
use mathlib.Core.Path.{refl}
use Rattle.numbers.specs.Number.{last, more, groups, placed, read_number}
use Rattle.numbers.specs.Field.{in_range, read_field}
use Rattle.sheets.specs.Layout.{road_range, period_range, range_of, count_of}
use Rattle.parts.specs.Parts.{road_globals, segment_of, period_globals, entry_of}
use Rattle.numbers.specs.Row.{onto, and_then, fields}
use Rattle.sheets.specs.Read.{read_row, road_from, read_road, read_period}
use Rattle.conditions.specs.Values.{values_to}
use Rattle.conditions.specs.Conditions.{open_capacity, parts_at, lowered_by, in_force, demand_under, outlet_under, entry_under, conditions_of}
use Rattle.rules.specs.Rules.{largest, rounded_up, wish_to_leave, off, remainder_after, through, most_leaving, ramp_wish, entrance, supply, ramp_flow, main_flow, leaving}
use Rattle.segment.specs.Place.{split_of, wish_of, most_of, onward_of, queued_of, ramp_wish_of, entrance_of, supply_of, inflow_of, leaving_of, moved_of}
use Rattle.steps.specs.Step.{main_wish_at, queued_at, main_flow_at, replaced, stepped, sum_to, arrived_of, left_of}
use Rattle.facility.specs.Ledger.{arrived_in, left_in, partsteps_in}
use Rattle.facility.specs.Verdicts.{unfinished, take_verdict, run_verdict}
use Rattle.list_example.specs.Starred.{AllAgree, table}

-- THE STATEMENT: every row holds
pub every_row : AllAgree table
unfolding read_number groups last more placed in_range read_field road_range period_range range_of count_of road_globals segment_of period_globals entry_of onto and_then fields read_row road_from read_road read_period largest rounded_up parts_at wish_to_leave off remainder_after through most_leaving ramp_wish entrance supply ramp_flow main_flow leaving values_to open_capacity lowered_by in_force demand_under outlet_under entry_under conditions_of split_of wish_of most_of onward_of queued_of ramp_wish_of entrance_of supply_of inflow_of leaving_of moved_of main_wish_at queued_at main_flow_at replaced stepped sum_to arrived_of left_of take_verdict run_verdict unfinished arrived_in left_in partsteps_in
every_row = (refl, (refl, (refl, (refl, (refl, (refl, ((refl, refl), ((refl, refl), ((refl, refl), ((refl, refl), (refl, (refl, tt))))))))))))
