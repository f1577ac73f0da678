-- Worked sections just above E, before and after the floor of RU: the printed rate with the speed by it, and the answer, computed
-- bit for bit. The values are those of an independent computation in f64.
use mathlib.Core.Path.{◌≡◌, refl}
use mathlib.Core.List.{List, [], ◌∷◌, map}
use lib.Ieee.{Float, of_bits, of_int, add, sub, mul, div, lt}
use Rattle.sections.specs.Real.{real}
use Rattle.sections.specs.Table.{row_of, row75, row70, row65, row60, row55}
use Rattle.sections.specs.Section.{slowed, work_of, judged_of, answer_of, capacity_of, ratio_of, curve_of, printed_of, under_of, over_of, travel_of, speed_of, density_of}
use Rattle.sections.proofs.Worked.{Worked, worked, bits}

-- a section with its demand and answer, and its rate and speed as they are printed
record AboveE : Type 0 where
  after : Worked
  rate : Float
  speed : Float

abbrev printed : Float → Float → Worked → AboveE
printed rate speed after = record { after = after; rate = rate; speed = speed }

-- 75 mi/h: the first demand above E, the last whose printed rate is below zero, the next; 70 mi/h: the first above E of two lanes with a CAF below 1,
-- then of three lanes the last below zero and the next; 65, 60 and 55 mi/h, which have no rate below zero: the first above E
abbrev sections : List AboveE
sections =
    printed (bits 0xbfae9c0ba64bcb00) (bits 0x4052c5fc62e03b81) (worked 5280 3 75 1000 3169 (slowed (bits 0x0000000000000000) (bits 0x4052c00000000000) (bits 0x402c2b3c4d5e6f80)))
    ∷ printed (bits 0xbf290cd83e070000) (bits 0x4052c004e48382f2) (worked 5280 3 75 1000 3245 (slowed (bits 0x0000000000000000) (bits 0x4052c00000000000) (bits 0x402cd82d82d82d83)))
    ∷ printed (bits 0x3f4424477b452000) (bits 0x4052bff043b55c64) (worked 5280 3 75 1000 3246 (slowed (bits 0x3f4424477b452000) (bits 0x4052bff043b55c64) (bits 0x402cda8c44a594c4)))
    ∷ printed (bits 0xbfa1d7dce4de9580) (bits 0x40518309b2b7737b) (worked 1177 2 70 871 2174 (slowed (bits 0x0000000000000000) (bits 0x4051800000000000) (bits 0x402f0ea0ea0ea0ea)))
    ∷ printed (bits 0xbf3202792c11c000) (bits 0x4051800620d999b9) (worked 5280 3 70 1000 3798 (slowed (bits 0x0000000000000000) (bits 0x4051800000000000) (bits 0x403215f15f15f15f)))
    ∷ printed (bits 0x3f3a548222ff0000) (bits 0x40517ff70a5f6a5e) (worked 5280 3 70 1000 3799 (slowed (bits 0x3f3a548222ff0000) (bits 0x40517ff70a5f6a5e) (bits 0x40321732b5a06f5d)))
    ∷ printed (bits 0x3f93c0f8bd370c00) (bits 0x40503e8d325fa25e) (worked 5280 3 65 1000 4372 (slowed (bits 0x3f93c0f8bd370c00) (bits 0x40503e8d325fa25e) (bits 0x40366da68330dcdf)))
    ∷ printed (bits 0x3fabf7e8d366d800) (bits 0x404df903a69aa2e2) (worked 5280 3 60 1000 4969 (slowed (bits 0x3fabf7e8d366d800) (bits 0x404df903a69aa2e2) (bits 0x403ba174ccaf0535)))
    ∷ printed (bits 0x3fabf0ea1810feb8) (bits 0x404b7a22a49ae731) (worked 5280 3 55 1000 5536 (slowed (bits 0x3fabf0ea1810feb8) (bits 0x404b7a22a49ae731) (bits 0x4040ca2cae649f66)))
    ∷ []

-- before: the printed rate, and the speed by it
abbrev printed_rate : Worked → Float
printed_rate w = printed_of (row_of w.section.ffs) (ratio_of w.demand (capacity_of w.section))

abbrev printed_speed : Worked → Float
printed_speed w = speed_of (travel_of w.section.ffs (printed_rate w) (real 0))

-- after: the answer
abbrev computed : AboveE → AboveE
computed s =
    printed (printed_rate s.after) (printed_speed s.after) (record { section = s.after.section; demand = s.after.demand; answer = answer_of s.after.section s.after.demand })

all_computed : map computed sections ≡ sections
unfolding of_bits of_int add sub mul div lt row_of row75 row70 row65 row60 row55 capacity_of ratio_of curve_of printed_of under_of over_of travel_of speed_of density_of work_of judged_of answer_of
all_computed = refl
