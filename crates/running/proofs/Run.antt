-- A run's part-feet: what its steps add one by one is all that left in it, times each segment's length.
use Prim.Native.Nat.{ℕ, zero, suc, ◌≤◌, ◌<◌}
use mathlib.Core.Path.{◌≡◌, refl, sym, ap, ◌∙◌}
use native.Mathlib.Omega.{arith}
use lib.ListN.{length}
use Rattle.segment.specs.declared.tally.Tally.{Tally}
use Rattle.segment.specs.Tally.{with_step}
use Rattle.steps.specs.Step.{stepped}
use Rattle.steps.specs.Tallies.{tally_in}
use Rattle.steps.specs.Driven.{partfeet_in}
use Rattle.steps.specs.Since.{driven_since}
use Rattle.steps.proofs.Laws.{stepped_length}
use Rattle.steps.proofs.Tallies.{tallied_length, tallied_at}
use Rattle.steps.proofs.Driven.{driven_length, driven_more, driven_beyond, none_gained, gained_more, with_gain}
use Rattle.steps.proofs.Sums.{replaced_is}
use Rattle.door.specs.declared.Facility.{Facility}
use Rattle.running.specs.Steps.{conditions_on, step_of, steps_of}

module _ (f : Facility) where
  -- a run changes nothing that is in force
  pub same_conditions : (k : ℕ) → conditions_on (steps_of k f) ≡ conditions_on f
  unfolding steps_of step_of
  same_conditions zero = refl
  same_conditions (suc k) = same_conditions k

  pub same_lengths : (k : ℕ) → (length (steps_of k f).state.cells ≡ length f.state.cells) × (length (steps_of k f).tallies ≡ length f.tallies)
      × (length (steps_of k f).partfeet ≡ length f.partfeet)
  unfolding steps_of step_of
  same_lengths zero = (refl, refl, refl)
  same_lengths (suc k) =
      let g = steps_of k f in
      let c = conditions_on g in
      let s = same_lengths k in (
        stepped_length c g.state ∙ s.0,
        tallied_length c g.state g.tallies ∙ s.1,
        driven_length c _ g.partfeet ∙ s.2,
      )

  module _ (cells : (conditions_on f).segments ≤ length f.state.cells) (tallies : (conditions_on f).segments ≤ length f.tallies)
      (long : (conditions_on f).segments ≤ length f.partfeet) where
    -- a segment's total never falls, and its part-feet are those of the run's start with what it gained
    gained : (k i : ℕ) → i < (conditions_on f).segments
        → ((tally_in f.tallies i).out ≤ (tally_in (steps_of k f).tallies i).out)
        × (partfeet_in (steps_of k f).partfeet i ≡ with_gain (conditions_on f) f.tallies (steps_of k f).tallies f.partfeet i)
    unfolding steps_of step_of with_step
    gained zero i h = (omega arith, omega (arith, none_gained (conditions_on f) f.tallies i))
    gained (suc k) i h =
        let c = conditions_on f in
        let g = steps_of k f in
        let l = same_lengths k in
        let so_far = gained k i h in
        let leaves = tallied_at c g.state g.tallies (omega (arith, cells, l.0)) (omega (arith, tallies, l.1)) i h in
        let gains = gained_more c g.state (omega (arith, cells, l.0)) f.tallies g.tallies (omega (arith, tallies, l.1)) i h so_far.0 in
        let drives = driven_more c (stepped c g.state) g.partfeet (omega (arith, long, l.2)) i h in
        rw (same_conditions k) (omega (arith, ap (λ (x : Tally). x.out) leaves, so_far.0), omega (arith, drives, gains, so_far.1))

    -- behind the last nothing is added
    beyond : (k i : ℕ) → (conditions_on f).segments ≤ i → partfeet_in (steps_of k f).partfeet i ≡ partfeet_in f.partfeet i
    unfolding steps_of step_of
    beyond zero i h = refl
    beyond (suc k) i h =
        let c = conditions_on f in
        let g = steps_of k f in
        rw (same_conditions k) (driven_beyond c (stepped c g.state) g.partfeet i h ∙ beyond k i h)

    pub run_partfeet : (k : ℕ) → driven_since (conditions_on f) f.tallies (steps_of k f).tallies f.partfeet ≡ (steps_of k f).partfeet
    unfolding driven_since
    run_partfeet k =
        sym (replaced_is (with_gain (conditions_on f) f.tallies (steps_of k f).tallies f.partfeet) (conditions_on f).segments f.partfeet (steps_of k f).partfeet 0
        long (same_lengths k).2 (λ i h. (gained k i h).1) (beyond k))
