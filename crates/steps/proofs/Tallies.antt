-- What a step adds to the segments' totals, and the pass that adds it.
use Prim.Native.Nat.{ℕ, suc, ◌+◌, ◌≤◌, ◌<◌}
use mathlib.Core.List.{List}
use mathlib.Core.Path.{◌≡◌, refl, sym, ap, ◌∙◌}
use native.Mathlib.Omega.{arith}
use lib.ListN.{length, get_or, set}
use Rattle.segment.specs.declared.Cell.{Cell}
use Rattle.segment.specs.declared.tally.Tally.{Tally}
use Rattle.segment.specs.Place.{moved_of}
use Rattle.segment.specs.Tally.{no_tally, with_step}
use Rattle.segment.specs.Bounded.{BoundedTally}
use Rattle.conditions.specs.Conditions.{Conditions, in_force_at}
use Rattle.conditions.specs.Good.{GoodConditions}
use Rattle.steps.specs.declared.State.{State}
use Rattle.steps.specs.Step.{cell_in, main_flow_at, next_cell, replaced, stepped}
use Rattle.steps.specs.Bounded.{Bounded, BoundedTallies}
use Rattle.steps.specs.Tallies.{tally_in, fresh_tallies, next_tally, tallied}
use Rattle.segment.proofs.Laws.{let_out}
use Rattle.steps.proofs.Laws.{stepped_cell}
use Rattle.steps.proofs.Bounds.{off_most_after}
use Rattle.conditions.proofs.Values.{replicated}
use Rattle.steps.proofs.Sums.{length_replaced, replaced_at, replaced_more, replaced_beyond, replaced_either}

none_bounded : (t : ℕ) → BoundedTally t no_tally
none_bounded t = record { off = omega arith; out = omega arith }

pub bounded_fresh : (ns : ℕ) → BoundedTallies ns 0 fresh_tallies
bounded_fresh ns = λ i h. rw (replicated no_tally 64 i) (none_bounded 0)

pub tallies_longer : (ns s t : ℕ) (tallies : List Tally) → s ≤ t → BoundedTallies ns s tallies → BoundedTallies ns t tallies
tallies_longer ns s t tallies h b = λ i l. record { off = omega (arith, (b i l).off); out = omega (arith, (b i l).out) }

-- ---- after a step
module _ (c : Conditions) (state : State) (tallies : List Tally) where
  pub tallied_length : length (tallied c state tallies) ≡ length tallies
  unfolding tallied
  tallied_length = length_replaced _ c.segments tallies

  -- each segment has its totals with what the state after tells of the step
  pub tallied_at : c.segments ≤ length state.cells → c.segments ≤ length tallies → (i : ℕ) → i < c.segments
      → tally_in (tallied c state tallies) i ≡ with_step (tally_in tallies i) (cell_in (stepped c state) i)
  unfolding tallied
  tallied_at cells long i h =
      replaced_at (next_tally c state tallies) c.segments i tallies no_tally h (omega arith)
      ∙ ap (with_step (tally_in tallies i)) (sym (stepped_cell c state cells i h))

  -- and behind the last there is what was
  pub tallied_beyond : (i : ℕ) → c.segments ≤ i → tally_in (tallied c state tallies) i ≡ tally_in tallies i
  unfolding tallied
  tallied_beyond i h = replaced_beyond _ c.segments i tallies no_tally h

  pub tallied_bounded : {t : ℕ} → GoodConditions c → Bounded c.segments t state → BoundedTallies c.segments t tallies
      → BoundedTallies c.segments (t + 1) (tallied c state tallies)
  unfolding tallied with_step moved_of
  tallied_bounded {t} good bounded counted = λ i h.
      let off = off_most_after c state good bounded i h in
      let out = let_out (in_force_at c i) (cell_in state i) (main_flow_at c state (suc i)) in
      let so_far = counted i h in
      replaced_either (BoundedTally (t + 1)) (next_tally c state tallies) c.segments i tallies no_tally h
      (record { off = omega (arith, off, so_far.off); out = omega (arith, out, (good.place i h).capacity, so_far.out) })
      (none_bounded (t + 1))

-- ---- the pass: the totals of the segments before the one at hand have the step's flows, and the others are those of the start
abbrev pub Counting : Conditions → State → (start now : List Tally) → ℕ → Type 0
Counting c state start now i = now ≡ replaced (next_tally c state start) i start

module _ (c : Conditions) (state : State) (start : List Tally) where
  pub counting : Counting c state start start 0
  unfolding replaced
  counting = refl

  module _ (now : List Tally) (i : ℕ) (at : Counting c state start now i) where
    pub not_counted : (j : ℕ) → i ≤ j → tally_in now j ≡ tally_in start j
    not_counted j h = ap (λ xs. get_or xs j no_tally) at ∙ replaced_beyond _ i j start no_tally h

    pub not_yet : tally_in now i ≡ tally_in start i
    not_yet = not_counted i (omega arith)

    pub counted : (after : Cell) (tally : Tally) → after ≡ next_cell c state i → tally ≡ with_step (tally_in now i) after
        → Counting c state start (set now i tally) (i + 1)
    counted after tally a e = replaced_more (next_tally c state start) i start now tally at (rw (e, a, not_yet))

    -- after the last segment
    pub all_counted : (last : ℕ) (after : Cell) (tally : Tally) → i ≤ last → last ≤ i → last + 1 ≡ c.segments → after ≡ next_cell c state last
        → tally ≡ with_step (tally_in now last) after → set now last tally ≡ tallied c state start
    unfolding tallied
    all_counted last after tally l m n a e =
        let same : last ≡ i = omega arith in
        rw same (counted after tally (rw same at a) (rw same at e)) ∙ ap (λ k. replaced (next_tally c state start) k start) (rw same at n)
