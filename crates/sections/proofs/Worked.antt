-- Worked sections: the definitions computed, bit for bit. The values are those of an independent computation in f64.
use mathlib.Core.Path.{◌≡◌, refl}
use Prim.Native.Nat.{ℕ}
use mathlib.Core.List.{List, [], ◌∷◌, map}
use lib.Ieee.{Float, binary64, of_bits, of_int, add, sub, mul, div, lt}
use Rattle.sections.specs.Table.{row_of, row75, row70, row65, row60, row55}
use Rattle.sections.specs.Section.{SectionNumbers, Outcome, free, slowed, queued, work_of, judged_of, answer_of, capacity_of, ratio_of, curve_of, printed_of, under_of, over_of, travel_of, speed_of, density_of}

-- an f64 by its 64 bits
abbrev pub bits : ℕ → Float
bits n = of_bits binary64 n

-- a section with its demand, and the answer
pub record Worked : Type 0 where
  pub section : SectionNumbers
  pub demand : ℕ
  pub answer : Outcome

abbrev pub worked : ℕ → ℕ → ℕ → ℕ → ℕ → Outcome → Worked
worked length lanes ffs caf demand answer =
    record {
      section = record { length = length; lanes = lanes; ffs = ffs; caf = caf; inflow = 0; outflow = 0 };
      demand = demand;
      answer = answer;
    }

-- d = 0; p just below E, CAF below 1; p exactly E, where the printed rate is below zero; p exactly 1; one vehicle above capacity; slowed, CAF below 1; queued, one lane, a short
-- capacity; queued, CAF below 1
abbrev sections : List Worked
sections =
    worked 5280 3 55 1000 0 (free (bits 0x404b800000000000) (bits 0x0000000000000000))
    ∷ worked 5280 3 65 900 3933 (free (bits 0x4050400000000000) (bits 0x40342b52b52b52b5))
    ∷ worked 5280 3 70 1000 3744 (slowed (bits 0x0000000000000000) (bits 0x4051800000000000) (bits 0x4031d41d41d41d42))
    ∷ worked 5280 3 60 1000 6900 (slowed (bits 0x4024c7ae147ae13f) (bits 0x4049926269fa8b72) (bits 0x40467c56789abcdd))
    ∷ worked 5280 3 60 1000 6901 (queued (bits 0x4024c7ae147ae13f) (bits 0x3fb0b21642c86340) (bits 0x40498c5320e3be06) (bits 0x40468281921f7c08))
    ∷ worked 1177 8 75 901 8340 (slowed (bits 0x3fc980ed99f89720) (bits 0x4052ac285c422045) (bits 0x402bea57799f2659))
    ∷ worked 7843 1 55 121 4207 (queued (bits 0x401a147ae147ae15) (bits 0x40b11eaed59c85e8) (bits 0x3fe9dc4e94e8fab9) (bits 0x40b455c32247a930))
    ∷ worked 15615 3 75 175 3847 (queued (bits 0x40333d70a3d70a3c) (bits 0x4073869f48c1a472) (bits 0x4022f6f2c45309a8) (bits 0x4060e77deb32c887))
    ∷ []

answers : map (λ (w : Worked). answer_of w.section w.demand) sections ≡ map (λ (w : Worked). w.answer) sections
unfolding of_bits of_int add sub mul div lt row_of row75 row70 row65 row60 row55 capacity_of ratio_of curve_of printed_of under_of over_of travel_of speed_of density_of work_of judged_of answer_of
answers = refl
