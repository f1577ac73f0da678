-- Part-feet: what a step adds, and what the code adds for many steps at once.
use Prim.Native.Nat.{ℕ, suc, ◌+◌, ◌-◌, ◌*◌, ◌≤◌, ◌<◌}
use mathlib.Core.List.{List}
use mathlib.Core.Path.{◌≡◌, ap, ◌∙◌}
use native.Mathlib.Nat.{add-mul, zero-mul, mul-le-mul}
use native.Mathlib.Omega.{arith}
use lib.ListN.{length, get_or}
use Rattle.segment.specs.declared.tally.Tally.{Tally}
use Rattle.segment.specs.Place.{moved_of}
use Rattle.segment.specs.Tally.{with_step}
use Rattle.segment.proofs.Laws.{let_out}
use Rattle.conditions.specs.Conditions.{Conditions, in_force_at}
use Rattle.conditions.specs.Good.{GoodConditions}
use Rattle.conditions.proofs.Values.{replicated}
use Rattle.steps.specs.declared.State.{State}
use Rattle.steps.specs.Step.{cell_in, main_flow_at, replaced, stepped}
use Rattle.steps.specs.Tallies.{tally_in, tallied}
use Rattle.steps.specs.Driven.{no_partfeet, partfeet_in, driven_at, driven}
use Rattle.steps.specs.Since.{gained_at}
use Rattle.steps.specs.Bounded.{BoundedTallies, BoundedPartfeet}
use Rattle.steps.proofs.Laws.{stepped_cell}
use Rattle.steps.proofs.Tallies.{tallied_at}
use Rattle.steps.proofs.Sums.{length_replaced, replaced_at, replaced_beyond, replaced_either}

pub partfeet_fresh : (ns t : ℕ) → BoundedPartfeet ns t no_partfeet
partfeet_fresh ns t = λ i h. rw (replicated {A = ℕ} 0 64 i) (omega arith)

pub partfeet_longer : (ns s t : ℕ) (partfeet : List ℕ) → s ≤ t → BoundedPartfeet ns s partfeet → BoundedPartfeet ns t partfeet
partfeet_longer ns s t partfeet h b = λ i l. omega (arith, b i l)

-- ---- the pass of the code: the segments before the one at hand have what they gained, and the others are those of the start
module _ (c : Conditions) (before now : List Tally) where
  -- what a segment gains is at most all steps' at its length
  pub gained_most : {t : ℕ} → GoodConditions c → BoundedTallies c.segments t now → (i : ℕ) → i < c.segments → gained_at c before now i ≤ 20000 * t * 26400
  unfolding gained_at
  gained_most {t} good counted i h =
      let gone : (tally_in now i).out - (tally_in before i).out ≤ 20000 * t = omega (arith, (counted i h).out) in
      mul-le-mul gone (good.place i h).length.1

  abbrev pub with_gain : List ℕ → ℕ → ℕ
  with_gain partfeet i = partfeet_in partfeet i + gained_at c before now i

  -- the one at hand has not gained yet
  pub not_yet : (start feet : List ℕ) (i : ℕ) → feet ≡ replaced (with_gain start) i start → partfeet_in feet i ≡ partfeet_in start i
  not_yet start feet i at = ap (λ (xs : List ℕ). get_or xs i 0) at ∙ replaced_beyond (with_gain start) i i start 0 (omega arith)

-- ---- a step
module _ (c : Conditions) (after : State) (partfeet : List ℕ) where
  pub driven_length : length (driven c after partfeet) ≡ length partfeet
  unfolding driven
  driven_length = length_replaced _ c.segments partfeet

  pub driven_more : c.segments ≤ length partfeet → (i : ℕ) → i < c.segments → partfeet_in (driven c after partfeet) i ≡ partfeet_in partfeet i + driven_at c after i
  unfolding driven
  driven_more long i h = replaced_at (λ j. partfeet_in partfeet j + driven_at c after j) c.segments i partfeet 0 h (omega arith)

  pub driven_beyond : (i : ℕ) → c.segments ≤ i → partfeet_in (driven c after partfeet) i ≡ partfeet_in partfeet i
  unfolding driven
  driven_beyond i h = replaced_beyond _ c.segments i partfeet 0 h

pub none_gained : (c : Conditions) (tallies : List Tally) (i : ℕ) → gained_at c tallies tallies i ≡ 0
unfolding gained_at
none_gained c tallies i = let none : (tally_in tallies i).out - (tally_in tallies i).out ≡ 0 = omega arith in rw (none, zero-mul)

with_more : (before now y length : ℕ) → before ≤ now → (now + y - before) * length ≡ (now - before) * length + y * length
with_more before now y length h = let e : now + y - before ≡ now - before + y = omega (arith, h) in rw e (add-mul _ _ _)

module _ (c : Conditions) (state : State) (cells : c.segments ≤ length state.cells) where
  -- what a segment gains in a step is all that left it in the step × L
  pub gained_more : (before tallies : List Tally) → c.segments ≤ length tallies → (i : ℕ) → i < c.segments
      → (tally_in before i).out ≤ (tally_in tallies i).out
      → gained_at c before (tallied c state tallies) i ≡ gained_at c before tallies i + driven_at c (stepped c state) i
  unfolding gained_at driven_at with_step
  gained_more before tallies long i h l = rw (tallied_at c state tallies cells long i h) (with_more _ _ _ _ l)

  -- and the part-feet stay within all steps' at the largest C × L
  pub bounded_driven : (t : ℕ) (partfeet : List ℕ) → GoodConditions c → BoundedPartfeet c.segments t partfeet
      → BoundedPartfeet c.segments (t + 1) (driven c (stepped c state) partfeet)
  unfolding driven driven_at moved_of
  bounded_driven t partfeet good so_far = λ i h.
      let out = let_out (in_force_at c i) (cell_in state i) (main_flow_at c state (suc i)) in
      let most : (cell_in (stepped c state) i).out ≤ 20000 = rw (stepped_cell c state cells i h) (omega (arith, out, (good.place i h).capacity)) in
      let feet : (cell_in (stepped c state) i).out * (in_force_at c i).length ≤ 20000 * 26400 = mul-le-mul most (good.place i h).length.1 in
      replaced_either (λ x. x ≤ 528000000 * (t + 1)) (λ j. partfeet_in partfeet j + driven_at c (stepped c state) j) c.segments i partfeet 0 h
      (omega (arith, feet, so_far i h)) (omega arith)
