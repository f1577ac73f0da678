-- Part-feet over a trail: as a facility keeps them, and those of all segments together.
use Prim.Native.Nat.{ℕ, ◌+◌, ◌≤◌, ◌<◌}
use mathlib.Core.Path.{◌≡◌, refl, sym, ap, ◌∙◌}
use mathlib.Core.List.{List, [], ◌∷◌}
use native.Mathlib.Omega.{arith}
use lib.ListN.{length}
use Rattle.conditions.specs.Conditions.{Conditions, segments}
use Rattle.conditions.proofs.Values.{replicated}
use Rattle.steps.specs.Step.{stepped, sum_to}
use Rattle.steps.specs.Driven.{no_partfeet, partfeet_in, partfeet_of, driven_at, driven_of, driven}
use Rattle.steps.proofs.Sums.{length_replaced, replaced_is, replaced_at, replaced_beyond, sum_both, sum_most, sum_same}
use Rattle.steps.proofs.Driven.{driven_length, driven_more, driven_beyond}
use Rattle.facility.specs.Ledger.{Trail, state_after, driven_in, partfeet_at, step_from}
use Rattle.facility.specs.Claims.{Every, none, and}
use Rattle.facility.specs.View.{partfeet_kept}
use Rattle.facility.proofs.Tallies.{OnRoad}

-- ---- as a facility keeps them: at first those of a road just laid
pub none_driven : (ns : ℕ) → ns ≤ 64 → no_partfeet ≡ partfeet_kept ns []
unfolding partfeet_at
none_driven ns few = replaced_is (partfeet_at []) ns no_partfeet no_partfeet 0 few refl (λ i h. replicated {A = ℕ} 0 64 i) (λ i h. refl)

-- of each segment they are its sum
pub partfeet_kept_at : (ns : ℕ) (t : Trail) → ns ≤ 64 → (i : ℕ) → i < ns → partfeet_in (partfeet_kept ns t) i ≡ partfeet_at t i
partfeet_kept_at ns t few i h = replaced_at (partfeet_at t) ns i no_partfeet 0 h (omega arith)

-- and a step's are added
pub partfeet_more : (c : Conditions) (ns : ℕ) (t : Trail) → c.segments ≡ ns → ns ≤ 64
    → driven c (stepped c (state_after t)) (partfeet_kept ns t) ≡ partfeet_kept ns (step_from c (state_after t) ∷ t)
unfolding partfeet_at
partfeet_more c ns t e few =
    let kept = partfeet_kept ns t in
    let size : length kept ≡ 64 = length_replaced (partfeet_at t) ns no_partfeet in
    let after = stepped c (state_after t) in
    replaced_is (partfeet_at (step_from c (state_after t) ∷ t)) ns no_partfeet (driven c after kept) 0 few (driven_length c after kept ∙ size)
    (λ i h. driven_more c after kept (omega (arith, e, size)) i (omega (arith, e)) ∙ ap (λ n. n + driven_at c after i) (partfeet_kept_at ns t few i h))
    (λ i h. driven_beyond c after kept i (omega (arith, e)) ∙ replaced_beyond (partfeet_at t) ns i no_partfeet 0 h)

-- ---- of all segments together: what the steps made over the whole road is the sum of what each segment has
pub driven_summed : (road : List ℕ) (t : Trail) → Every (OnRoad road) t → driven_in t ≡ sum_to (partfeet_at t) (segments road)
unfolding driven_in driven_of driven_at partfeet_at
driven_summed road [] none = omega (arith, sum_most (partfeet_at []) 0 (segments road) (λ i h. omega arith))
driven_summed road (s ∷ t) (and on rest) =
    let n = segments road in
    let both : sum_to (partfeet_at t) n + sum_to (driven_at s.conditions s.after) n ≡ sum_to (partfeet_at (s ∷ t)) n =
    sum_both (partfeet_at t) (driven_at s.conditions s.after) n in
    omega (arith, driven_summed road t rest, ap (sum_to (driven_at s.conditions s.after)) on.same_segments, both)

-- and so a facility's total
pub kept_driven : (road : List ℕ) (t : Trail) → segments road ≤ 64 → Every (OnRoad road) t → partfeet_of (segments road) (partfeet_kept (segments road) t) ≡ driven_in t
unfolding partfeet_of
kept_driven road t few on =
    sum_same (partfeet_in (partfeet_kept (segments road) t)) (partfeet_at t) (segments road) (partfeet_kept_at (segments road) t few) ∙ sym (driven_summed road t on)
