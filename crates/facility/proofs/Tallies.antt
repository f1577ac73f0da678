-- Each segment's totals over a trail: as a facility keeps them, and the off-ramp's to the part.
use Prim.Native.Nat.{ℕ, ◌+◌, ◌*◌, ◌/◌, ◌%◌, ◌≤◌, ◌<◌}
use mathlib.Core.Path.{◌≡◌, refl, sym, ap, ◌∙◌}
use mathlib.Core.List.{List, [], ◌∷◌}
use native.Mathlib.Omega.{arith}
use lib.ListN.{length}
use Rattle.parts.specs.Parts.{segment_of}
use Rattle.segment.specs.Tally.{no_tally, with_step}
use Rattle.segment.proofs.Tallies.{still_shared}
use Rattle.conditions.specs.Conditions.{Conditions, SheetInForce, conditions_of, segments, in_force, in_force_at}
use Rattle.conditions.proofs.Good.{conditions_segments, in_force_at_lem}
use Rattle.steps.specs.Step.{cell_in}
use Rattle.steps.specs.Tallies.{tally_in, fresh_tallies, tallied}
use Rattle.steps.proofs.Bounds.{cell_fresh}
use Rattle.conditions.proofs.Values.{replicated}
use Rattle.steps.proofs.Sums.{length_replaced, replaced_is, replaced_at, replaced_beyond}
use Rattle.steps.proofs.Tallies.{tallied_length, tallied_at, tallied_beyond}
use Rattle.facility.specs.Ledger.{Step, Trail, state_after, off_in, out_in, tally_of, step_from}
use Rattle.facility.specs.Claims.{Every, none, and, Chained, start, link, Right, ToThePart, Apportioned, at_first, by_now}
use Rattle.facility.specs.View.{tallies_of}

-- ---- as a facility keeps them
tally_none : (i : ℕ) → tally_of [] i ≡ no_tally
unfolding off_in out_in
tally_none i = refl

-- at first they are those of a road just laid
pub no_tallies : (ns : ℕ) → ns ≤ 64 → fresh_tallies ≡ tallies_of ns []
no_tallies ns few =
    replaced_is (tally_of []) ns fresh_tallies fresh_tallies no_tally few refl
    (λ i h. replicated no_tally 64 i ∙ sym (tally_none i)) (λ i h. refl)

-- of each segment they are its sums
pub tally_at : (ns : ℕ) (t : Trail) → ns ≤ 64 → (i : ℕ) → i < ns → tally_in (tallies_of ns t) i ≡ tally_of t i
tally_at ns t few i h = replaced_at (tally_of t) ns i fresh_tallies no_tally h (omega arith)

-- and a step's are added
tally_more : (s : Step) (t : Trail) (i : ℕ) → with_step (tally_of t i) (cell_in s.after i) ≡ tally_of (s ∷ t) i
unfolding off_in out_in with_step
tally_more s t i = refl

pub tallies_more : (c : Conditions) (ns : ℕ) (t : Trail) → c.segments ≡ ns → ns ≤ 64 → length (state_after t).cells ≡ 64
    → tallied c (state_after t) (tallies_of ns t) ≡ tallies_of ns (step_from c (state_after t) ∷ t)
tallies_more c ns t e few long =
    let kept = tallies_of ns t in
    let size : length kept ≡ 64 = length_replaced (tally_of t) ns fresh_tallies in
    let next = step_from c (state_after t) in
    let first : (i : ℕ) → i < ns → tally_in (tallied c (state_after t) kept) i ≡ tally_of (next ∷ t) i = λ i h.
    tallied_at c (state_after t) kept (omega (arith, e, long)) (omega (arith, e, size)) i (omega (arith, e))
    ∙ ap (λ x. with_step x (cell_in next.after i)) (tally_at ns t few i h)
    ∙ tally_more next t i in
    let behind : (i : ℕ) → ns ≤ i → tally_in (tallied c (state_after t) kept) i ≡ tally_in fresh_tallies i = λ i h.
    tallied_beyond c (state_after t) kept i (omega (arith, e)) ∙ replaced_beyond (tally_of t) ns i fresh_tallies no_tally h in
    replaced_is (tally_of (next ∷ t)) ns fresh_tallies (tallied c (state_after t) kept) no_tally few
    (tallied_length c (state_after t) kept ∙ size) first behind

-- ---- to the part: from the law of one step, by summing over the trail
-- a step of a road has its segments, and in each the road's share
pub record OnRoad (road : List ℕ) (s : Step) : Type 0 where
  pub same_segments : s.conditions.segments ≡ segments road
  pub same_share : (i : ℕ) → i < segments road → (in_force_at s.conditions i).share ≡ (segment_of road i).share

pub on_road : (road : List ℕ) (sheet : SheetInForce) (t : Trail) → OnRoad road (step_from (conditions_of road sheet) (state_after t))
unfolding in_force
on_road road sheet t = record {
  same_segments = conditions_segments road sheet;
  same_share = λ i h. ap (λ here. here.share) (in_force_at_lem road sheet i h);
}

divided : (off remainder x : ℕ) → off * 1000 + remainder ≡ x → remainder < 1000 → (off ≡ x / 1000) × (remainder ≡ x % 1000)
divided off remainder x e below = (omega arith, omega arith)

module _ (road : List ℕ) (i : ℕ) (h : i < segments road) where
  abbrev share : ℕ
  share = (segment_of road i).share

  -- the off-ramp's total with the remainder is the share of all that left, for the remainder of a road just laid is 0
  gained : (t : Trail) → Every Right t → Chained t → Every (OnRoad road) t
      → off_in t i * 1000 + (cell_in (state_after t) i).remainder ≡ out_in t i * share + 0
  unfolding off_in out_in with_step
  gained [] none start none = omega (arith, ap (λ cell. cell.remainder) (cell_fresh i))
  gained (s ∷ t) (and holds right) (link joins chained) (and on rest) =
      let below : i < s.conditions.segments = omega (arith, on.same_segments) in
      let before = cell_in s.before i in
      let after = cell_in s.after i in
      let step : after.off * 1000 + after.remainder ≡ after.out * share + before.remainder =
      holds.off_share i below ∙ ap (λ x. after.out * x + before.remainder) (on.same_share i h) in
      still_shared share 0 (tally_of t i) before after step (rw joins (gained t right chained rest))

  remains : (t : Trail) → Every Right t → Every (OnRoad road) t → (cell_in (state_after t) i).remainder < 1000
  remains [] none none = omega (arith, ap (λ cell. cell.remainder) (cell_fresh i))
  remains (s ∷ t) (and holds right) (and on rest) = holds.remainder i (omega (arith, on.same_segments))

  pub to_the_part : (t : Trail) → Every Right t → Chained t → Every (OnRoad road) t
      → ToThePart share (tally_of t i) (cell_in (state_after t) i).remainder
  to_the_part t right chained on =
      let d = divided (off_in t i) _ (out_in t i * share) (omega (arith, gained t right chained on)) (remains t right on) in
      record { off_ramp = d.0; left_over = d.1 }

pub each_to_the_part : (road : List ℕ) (t : Trail) → Every Right t → Chained t → Every (OnRoad road) t → Apportioned t
each_to_the_part road [] none start none = at_first
each_to_the_part road (s ∷ t) (and holds right) (link joins chained) (and on rest) =
    by_now
    (λ (i : ℕ) (h : i < s.conditions.segments).
    let below : i < segments road = omega (arith, h, on.same_segments) in
    rw (on.same_share i below) (to_the_part road i below (s ∷ t) (and holds right) (link joins chained) (and on rest)))
    (each_to_the_part road t right chained rest)
