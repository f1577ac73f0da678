-- The list statement at six lists of calls, on the worked study's road, on that road with an off-ramp, and on one of two segments, refused calls among
-- them: whatever the calls of the facility give, these are the answers.
use mathlib.Core.Path.{◌≡◌, refl, ◌∙◌}
use mathlib.Core.List.{List, [], ◌∷◌}
use Prim.Native.Nat.{ℕ}
use Rattle.numbers.specs.Number.{read_number, groups, last, more, placed}
use Rattle.numbers.specs.Field.{in_range, read_field}
use Rattle.sheets.specs.Layout.{road_range, period_range, range_of, count_of}
use Rattle.parts.specs.Parts.{road_globals, segment_of, period_globals, entry_of}
use Rattle.numbers.specs.Row.{onto, and_then, fields}
use Rattle.sheets.specs.Read.{read_row, road_from, read_road, read_period, sheet_reading}
use Rattle.levels.specs.declared.Level.TheVariants.{A, D, F}
use Rattle.conditions.specs.Values.{values_to}
use Rattle.conditions.specs.Conditions.{open_capacity, parts_at, lowered_by, in_force, demand_under, outlet_under, entry_under, conditions_of}
use Rattle.rules.specs.Rules.{largest, rounded_up, wish_to_leave, off, remainder_after, through, most_leaving, ramp_wish, entrance, supply, ramp_flow, main_flow, leaving}
use Rattle.segment.specs.Place.{split_of, wish_of, most_of, onward_of, queued_of, ramp_wish_of, entrance_of, supply_of, inflow_of, leaving_of, moved_of}
use Rattle.steps.specs.Step.{main_wish_at, queued_at, main_flow_at, replaced, stepped, sum_to, arrived_of, left_of, stored_of}
use Rattle.steps.specs.Driven.{driven_at, driven_of}
use Rattle.levels.specs.Level.{graded, holds_at_most, level_by, level_of}
use Rattle.door.specs.declared.Facility.{Facility}
use Rattle.facility.specs.Ledger.{Call, Take, Run, Report, Totals, Answer, Refused, Taken, Ran, Reported, Summed, arrived_in, left_in, partsteps_in, driven_in, off_in, out_in, partfeet_at, opened, answers, period_bytes}
use Rattle.facility.specs.Verdicts.{unfinished, repeat_verdict, take_verdict, run_verdict, report_verdict}
use Rattle.facility.proofs.Played.{Played}
use Rattle.facility.specs.Statement.{AcceptedRoad, road_of}
use Rattle.facility.proofs.Lists.{theorem}

abbrev road : List ℕ
road = 0x01 ∷ 0xBE ∷ 0x01 ∷ 0x2D ∷ 0x07 ∷ 0xA8 ∷ 0x0A ∷ 0x02 ∷ 0x3C ∷ 0xB0 ∷ 0x22 ∷ 0x00 ∷ 0x00 ∷ 0x00 ∷ []

-- the worked study's sheet, with so many lanes open; and the same with the exit shut
abbrev sheet : ℕ → List ℕ
sheet lanes = 0x01 ∷ 0xC0 ∷ 0x25 ∷ 0x90 ∷ 0x4E ∷ 0x00 ∷ 0x00 ∷ lanes ∷ []

abbrev shut : List ℕ
shut = 0x01 ∷ 0xC0 ∷ 0x25 ∷ 0x00 ∷ 0x00 ∷ 0x00 ∷ 0x02 ∷ []

-- no sheet yet; a sheet cut short; a sheet of another road; k out of range
abbrev calls : List Call
calls =
    Run 1
    ∷ Take (0x01 ∷ 0xC0 ∷ [])
    ∷ Take (0x02 ∷ [])
    ∷ Take (sheet 2)
    ∷ Take (sheet 2)
    ∷ Run 0
    ∷ Run 3
    ∷ Report 1
    ∷ Report 2
    ∷ Run 58
    ∷ Totals
    ∷ []

abbrev said : List Answer
said =
    Refused 10 0
    ∷ Refused 1 1
    ∷ Refused 14 0
    ∷ Taken 8
    ∷ Refused 12 0
    ∷ Refused 5 0
    ∷ Ran
    ∷ Reported (record { n = 4092; q = 0; main = 4092; ramp = 0; off = 0; out = 4092 }) D (record { off = 0; out = 8492 }) 11209440
    ∷ Refused 6 0
    ∷ Refused 11 0
    ∷ Summed 14400 8492 5908 15908 11209440
    ∷ []

-- a lane closes over a filled segment, whose jam is then 11,400: nothing enters, and it empties by the capacity of one lane;
-- three of two lanes cannot be open, nor none
abbrev filled : List Call
filled = Take shut ∷ Run 60 ∷ Report 1 ∷ Take (sheet 3) ∷ Take (sheet 0) ∷ Take (sheet 1) ∷ Run 2 ∷ Report 1 ∷ []

abbrev said_filled : List Answer
said_filled =
    Taken 7
    ∷ Ran
    ∷ Reported (record { n = 22797; q = 0; main = 0; ramp = 0; off = 0; out = 0 }) F (record { off = 0; out = 0 }) 0
    ∷ Refused 4 7
    ∷ Refused 4 7
    ∷ Taken 8
    ∷ Ran
    ∷ Reported (record { n = 18397; q = 0; main = 0; ramp = 0; off = 0; out = 2200 }) F (record { off = 0; out = 4400 }) 5808000
    ∷ []

-- the letter goes by the open lanes from the moment their sheet is taken, and still when it is run out. After 60 steps the worked study has 319,091,520
-- part-feet, in its report and in the totals
abbrev lettered : List Call
lettered = Report 1 ∷ Take (sheet 2) ∷ Run 60 ∷ Report 1 ∷ Totals ∷ Take (sheet 1) ∷ Report 1 ∷ Run 60 ∷ Report 1 ∷ []

abbrev said_lettered : List Answer
said_lettered =
    Reported (record { n = 0; q = 0; main = 0; ramp = 0; off = 0; out = 0 }) A (record { off = 0; out = 0 }) 0
    ∷ Taken 8
    ∷ Ran
    ∷ Reported (record { n = 4092; q = 0; main = 4092; ramp = 0; off = 0; out = 4092 }) D (record { off = 0; out = 241736 }) 319091520
    ∷ Summed 288000 241736 46264 1522988 319091520
    ∷ Taken 8
    ∷ Reported (record { n = 4092; q = 0; main = 4092; ramp = 0; off = 0; out = 4092 }) F (record { off = 0; out = 241736 }) 319091520
    ∷ Ran
    ∷ Reported (record { n = 2046; q = 0; main = 2046; ramp = 0; off = 0; out = 2046 }) D (record { off = 0; out = 366192 }) 483373440
    ∷ []

-- the road with an off-ramp of share 333, and a sheet by which 3 arrive in a step
abbrev off_road : List ℕ
off_road = 0x01 ∷ 0xBE ∷ 0x01 ∷ 0x2D ∷ 0x07 ∷ 0xA8 ∷ 0x0A ∷ 0x02 ∷ 0x3C ∷ 0xB0 ∷ 0x22 ∷ 0x00 ∷ 0xCD ∷ 0x02 ∷ 0x90 ∷ 0x4E ∷ []

abbrev light : List ℕ
light = 0x01 ∷ 0x03 ∷ 0x90 ∷ 0x4E ∷ 0x00 ∷ 0x00 ∷ 0x02 ∷ []

-- of 3 that leave the off-ramp's share is 0.999: nobody in the first step in which they leave, then one in each, also in the first step of the next
-- period, for the remainder is carried on, and a refused run does not change it. The totals go on too: 177 × 333 / 1000 is 58, and 180 × 333 / 1000 is 59
abbrev carried : List Call
carried = Take light ∷ Run 2 ∷ Report 1 ∷ Run 58 ∷ Report 1 ∷ Run 1 ∷ Take light ∷ Run 1 ∷ Report 1 ∷ []

abbrev said_carried : List Answer
said_carried =
    Taken 7
    ∷ Ran
    ∷ Reported (record { n = 3; q = 0; main = 3; ramp = 0; off = 0; out = 3 }) A (record { off = 0; out = 3 }) 3960
    ∷ Ran
    ∷ Reported (record { n = 3; q = 0; main = 3; ramp = 0; off = 1; out = 3 }) A (record { off = 58; out = 177 }) 233640
    ∷ Refused 11 0
    ∷ Taken 7
    ∷ Ran
    ∷ Reported (record { n = 3; q = 0; main = 3; ramp = 0; off = 1; out = 3 }) A (record { off = 59; out = 180 }) 237600
    ∷ []

-- zero bytes: refused before any sheet (10), and while a period is unfinished (12); else the sheet in force once more, with its one open
-- lane, after a refused sheet too and a second time: a period of 60 steps, in each of which 4,800 parts arrive. 00 is a sheet, of another NS (14). At the
-- list's end the sheet in force has the bytes that its one taking used
abbrev repeated : List Call
repeated =
    Take []
    ∷ Take (sheet 1)
    ∷ Run 1
    ∷ Take []
    ∷ Run 59
    ∷ Take (sheet 3)
    ∷ Take []
    ∷ Report 1
    ∷ Run 2
    ∷ Run 58
    ∷ Run 1
    ∷ Take (0x00 ∷ [])
    ∷ Take []
    ∷ Run 1
    ∷ Report 1
    ∷ Totals
    ∷ []

abbrev said_repeated : List Answer
said_repeated =
    Refused 10 0
    ∷ Taken 8
    ∷ Ran
    ∷ Refused 12 0
    ∷ Ran
    ∷ Refused 4 7
    ∷ Taken 0
    ∷ Reported (record { n = 2046; q = 0; main = 2046; ramp = 0; off = 0; out = 2046 }) D (record { off = 0; out = 120868 }) 159545760
    ∷ Ran
    ∷ Ran
    ∷ Refused 11 0
    ∷ Refused 14 0
    ∷ Taken 0
    ∷ Ran
    ∷ Reported (record { n = 2046; q = 0; main = 2046; ramp = 0; off = 0; out = 2046 }) D (record { off = 0; out = 245674 }) 324289680
    ∷ Summed 580800 245674 335126 20556360 324289680
    ∷ []

-- two segments of 660 and of 1,320 ft, a quarter of those who leave the first by its off-ramp; 100 arrive in a step
abbrev two_road : List ℕ
two_road =
    0x02 ∷ 0xBE ∷ 0x01 ∷ 0x2D ∷ 0x07 ∷ 0x94 ∷ 0x05 ∷ 0x02 ∷ 0x3C ∷ 0xB0 ∷ 0x22 ∷ 0x00 ∷ 0xFA ∷ 0x01 ∷ 0x90 ∷ 0x4E
    ∷ 0xA8 ∷ 0x0A ∷ 0x02 ∷ 0x3C ∷ 0xB0 ∷ 0x22 ∷ 0x00 ∷ 0x00 ∷ 0x00 ∷ []

abbrev hundred : List ℕ
hundred = 0x02 ∷ 0x64 ∷ 0x90 ∷ 0x4E ∷ 0x00 ∷ 0x00 ∷ 0x02 ∷ 0x00 ∷ 0x00 ∷ 0x02 ∷ []

-- part-feet: all that left counts, by the off-ramp too, each with the length of its own segment. 200 have left the first after three
-- steps, and 75 the second: 200 × 660 = 132,000, 75 × 1,320 = 99,000, and 231,000 together
abbrev driven : List Call
driven = Totals ∷ Take hundred ∷ Run 3 ∷ Report 1 ∷ Report 2 ∷ Totals ∷ []

abbrev said_driven : List Answer
said_driven =
    Summed 0 0 0 0 0
    ∷ Taken 10
    ∷ Ran
    ∷ Reported (record { n = 100; q = 0; main = 100; ramp = 0; off = 25; out = 100 }) A (record { off = 50; out = 200 }) 132000
    ∷ Reported (record { n = 75; q = 0; main = 75; ramp = 0; off = 0; out = 75 }) A (record { off = 0; out = 75 }) 99000
    ∷ Summed 300 125 175 450 231000
    ∷ []

computed :
    (answers (opened (road_of road)) calls ≡ said)
    × (answers (opened (road_of road)) filled ≡ said_filled)
    × (answers (opened (road_of road)) lettered ≡ said_lettered)
    × (answers (opened (road_of off_road)) carried ≡ said_carried)
    × (answers (opened (road_of road)) repeated ≡ said_repeated)
    × (period_bytes (opened (road_of road)) [] repeated ≡ sheet 1)
    × (answers (opened (road_of two_road)) driven ≡ said_driven)
unfolding read_number groups last more placed in_range read_field road_range period_range range_of count_of road_globals segment_of period_globals entry_of onto and_then fields read_row road_from read_road read_period sheet_reading largest rounded_up parts_at wish_to_leave off remainder_after through most_leaving ramp_wish entrance supply ramp_flow main_flow leaving values_to open_capacity lowered_by in_force demand_under outlet_under entry_under conditions_of split_of wish_of most_of onward_of queued_of ramp_wish_of entrance_of supply_of inflow_of leaving_of moved_of main_wish_at queued_at main_flow_at replaced stepped sum_to arrived_of left_of stored_of graded holds_at_most level_by level_of unfinished repeat_verdict take_verdict run_verdict report_verdict arrived_in left_in partsteps_in driven_in driven_of driven_at off_in out_in partfeet_at
computed = (refl, refl, refl, refl, refl, refl, refl)

-- so these are the answers of the facility's calls
pub example : (xs : List Answer) (g : Facility) → Played road calls xs g → xs ≡ said
example xs g p = (theorem p).answered ∙ computed.0

pub example_filled : (xs : List Answer) (g : Facility) → Played road filled xs g → xs ≡ said_filled
example_filled xs g p = (theorem p).answered ∙ computed.1

pub example_lettered : (xs : List Answer) (g : Facility) → Played road lettered xs g → xs ≡ said_lettered
example_lettered xs g p = (theorem p).answered ∙ computed.2

pub example_carried : (xs : List Answer) (g : Facility) → Played off_road carried xs g → xs ≡ said_carried
example_carried xs g p = (theorem p).answered ∙ computed.3

pub example_repeated : (xs : List Answer) (g : Facility) → Played road repeated xs g → xs ≡ said_repeated
example_repeated xs g p = (theorem p).answered ∙ computed.4

pub example_driven : (xs : List Answer) (g : Facility) → Played two_road driven xs g → xs ≡ said_driven
example_driven xs g p = (theorem p).answered ∙ computed.6

-- and the roads are ones that laying accepts
pub accepted : AcceptedRoad road × AcceptedRoad off_road × AcceptedRoad two_road
unfolding read_number groups last more placed in_range read_field road_range range_of count_of onto and_then fields read_row road_from read_road
accepted = ((_, _, refl), (_, _, refl), (_, _, refl))
