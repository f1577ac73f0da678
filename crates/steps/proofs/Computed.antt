-- Part-feet computed: two segments of 660 and of 1,320 ft. In a step 100 left the first, 25 of them by its off-ramp, and 75 the second.
use Prim.Native.Nat.{ℕ}
use mathlib.Core.Path.{◌≡◌, refl}
use mathlib.Core.List.{List, [], ◌∷◌}
use Rattle.segment.specs.declared.Cell.{Cell}
use Rattle.segment.specs.declared.tally.Tally.{Tally}
use Rattle.conditions.specs.declared.InForce.{InForce}
use Rattle.conditions.specs.Conditions.{Conditions, nothing_in_force}
use Rattle.steps.specs.declared.State.{State}
use Rattle.steps.specs.Step.{replaced, sum_to}
use Rattle.steps.specs.Driven.{partfeet_of, driven_at, driven_of, driven}
use Rattle.steps.specs.Since.{gained_at, driven_since}

of_length : ℕ → InForce
of_length length = record nothing_in_force { length = length }

two : Conditions
two = record { segments = 2; demand = 0; outlet = 0; places = of_length 660 ∷ of_length 1320 ∷ [] }

let_out : (off out : ℕ) → Cell
let_out off out = record { n = 0; q = 0; main = 0; ramp = 0; off = off; out = out; remainder = 0 }

after : State
after = record { cells = let_out 25 100 ∷ let_out 0 75 ∷ []; origin = 0; exit = 75 }

before_run : List Tally
before_run = record { off = 25; out = 100 } ∷ record { off = 0; out = 0 } ∷ []

after_run : List Tally
after_run = record { off = 50; out = 200 } ∷ record { off = 0; out = 75 } ∷ []

-- all that left counts, each with the length of its own segment
computed :
    (driven_at two after 0 ≡ 66000)
    × (driven_at two after 1 ≡ 99000)
    × (driven_of two after ≡ 165000)
    × (driven two after (66000 ∷ 0 ∷ 9 ∷ []) ≡ 132000 ∷ 99000 ∷ 9 ∷ [])
    × (driven_since two before_run after_run (66000 ∷ 0 ∷ 9 ∷ []) ≡ 132000 ∷ 99000 ∷ 9 ∷ [])
    × (partfeet_of 2 (132000 ∷ 99000 ∷ 9 ∷ []) ≡ 231000)
unfolding of_length two let_out after before_run after_run replaced sum_to driven_at driven_of driven gained_at driven_since partfeet_of
computed = (refl, refl, refl, refl, refl, refl)
