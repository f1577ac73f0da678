-- The test of each element of a slice, cells, totals or part-feet, is that of each segment.
use Rattle.std.proofs.Common.{◌≡◌, ℕ, ◌≤◌, List, Bool, zero, suc, length, get_or, take, refl, add-one, arith}
use Rattle.std.specs.List.{list_all}
use Rattle.std.proofs.lemmas.List.Folds.{list_all_more}
use Rattle.parts.specs.Allowed.{all_below}
use Rattle.steps.specs.declared.State.{State}
use Rattle.steps.specs.Step.{no_cell, cell_in}
use Rattle.segment.specs.declared.tally.Tally.{Tally}
use Rattle.segment.specs.Tally.{no_tally}
use Rattle.steps.specs.Tallies.{tally_in}
use Rattle.steps.specs.Driven.{partfeet_in}
use Rattle.door.specs.Sound.{cell_bounded, tally_bounded, driven_bounded}

all_is : {X : Type 0} (p : X → Bool) (xs : List X) (d : X) (n : ℕ) → n ≤ length xs → list_all p (take n xs) ≡ all_below (λ i. p (get_or xs i d)) n
unfolding all_below
all_is p xs d zero h = refl
all_is p xs d (suc n) h = rw (← add-one n, list_all_more p xs n d (omega arith), all_is p xs d n (omega arith))

pub each_cell : (t ns : ℕ) (state : State) → ns ≤ length state.cells
    → list_all (cell_bounded t) (take ns state.cells) ≡ all_below (λ i. cell_bounded t (cell_in state i)) ns
each_cell t ns state h = all_is (cell_bounded t) state.cells no_cell ns h

pub each_tally : (t ns : ℕ) (tallies : List Tally) → ns ≤ length tallies
    → list_all (tally_bounded t) (take ns tallies) ≡ all_below (λ i. tally_bounded t (tally_in tallies i)) ns
each_tally t ns tallies h = all_is (tally_bounded t) tallies no_tally ns h

pub each_partfeet : (t ns : ℕ) (partfeet : List ℕ) → ns ≤ length partfeet
    → list_all (driven_bounded t) (take ns partfeet) ≡ all_below (λ i. driven_bounded t (partfeet_in partfeet i)) ns
each_partfeet t ns partfeet h = all_is (driven_bounded t) partfeet 0 ns h
