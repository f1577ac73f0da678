-- The test at the door and what it says, both ways.
use Prim.Native.Nat.{ℕ, ◌*◌, ◌≤◌, ◌<◌}
use mathlib.Core.Bool.{Bool, true, false, ◌&&◌, ◌||◌}
use mathlib.Core.Path.{◌≡◌, refl}
use mathlib.Core.List.{List}
use native.Mathlib.Omega.{arith}
use lib.Dec.{leb, eqb}
use borrow.Author.Tests.{leb-true, le-leb, eqb-true}
use Rattle.parts.specs.Allowed.{all_below, road_allowed, period_allowed}
use Rattle.parts.proofs.Allowed.{all_at, all_by, both}
use Rattle.parts.specs.Good.{GoodRoad, GoodPeriod}
use Rattle.parts.proofs.Good.{good_road, good_period}
use Rattle.segment.specs.declared.Cell.{Cell}
use Rattle.segment.specs.declared.tally.Tally.{Tally}
use Rattle.segment.specs.Bounded.{BoundedCell, BoundedTally}
use Rattle.steps.specs.declared.State.{State}
use Rattle.steps.specs.Step.{cell_in}
use Rattle.steps.specs.Tallies.{tally_in}
use Rattle.steps.specs.Driven.{partfeet_in}
use Rattle.steps.specs.Bounded.{Bounded, BoundedTallies, BoundedPartfeet}
use Rattle.door.specs.declared.Facility.{Facility}
use Rattle.conditions.specs.Conditions.{segments}
use Rattle.door.specs.Sound.{steps_by, counted, sheeted, cell_bounded, state_bounded, tally_bounded, tallies_bounded, driven_bounded, partfeet_bounded, sums_bounded, sound}

-- the sums after t steps
pub record BoundedSums (t arrived left partsteps : ℕ) : Type 0 where
  pub arrived_most : arrived ≤ 660000 * t
  pub left_most : left ≤ 660000 * t
  pub partsteps_most : partsteps ≤ 3801600000 * t

-- what a sound facility has
pub record Sound (f : Facility) : Type 0 where
  pub road : road_allowed f.road ≡ true
  pub few : f.taken ≤ 96
  pub short : f.made ≤ 60
  pub sheet : sheeted f.taken f.road f.period ≡ true
  pub bounds : Bounded (segments f.road) (steps_by f.taken f.made) f.state
  pub tallies : BoundedTallies (segments f.road) (steps_by f.taken f.made) f.tallies
  pub partfeet : BoundedPartfeet (segments f.road) (steps_by f.taken f.made) f.partfeet
  pub sums : BoundedSums (steps_by f.taken f.made) f.arrived f.left f.partsteps

-- ---- the parts of the test
cell_bounded_lem : (t : ℕ) (c : Cell) → cell_bounded t c ≡ true → BoundedCell t c
unfolding cell_bounded
cell_bounded_lem t c e =
    let x = both (leb c.n 2880000) _ e in
    let y = both (leb c.q (10000 * t)) _ x.1 in
    record { parts = leb-true _ _ x.0; queue = leb-true _ _ y.0; remainder = omega (arith, leb-true c.remainder _ y.1) }

bounded_cell : (t : ℕ) (c : Cell) → BoundedCell t c → cell_bounded t c ≡ true
unfolding cell_bounded
bounded_cell t c b = rw (le-leb _ _ b.parts, le-leb _ _ b.queue, le-leb c.remainder 999 (omega (arith, b.remainder)))

pub state_bounded_lem : (ns t : ℕ) (state : State) → state_bounded ns t state ≡ true → Bounded ns t state
unfolding state_bounded
state_bounded_lem ns t state e =
    let b = both (all_below (λ i. cell_bounded t (cell_in state i)) ns) (leb state.origin (20000 * t)) e in
    record { cells = λ i h. cell_bounded_lem t (cell_in state i) (all_at (λ i. cell_bounded t (cell_in state i)) ns i b.0 h); origin = leb-true _ _ b.1 }

pub bounded_state : (ns t : ℕ) (state : State) → Bounded ns t state → state_bounded ns t state ≡ true
unfolding state_bounded
bounded_state ns t state b =
    let each : (i : ℕ) → i < ns → cell_bounded t (cell_in state i) ≡ true = λ i h. bounded_cell t (cell_in state i) (b.cells i h) in
    rw (all_by (λ i. cell_bounded t (cell_in state i)) ns each, le-leb _ _ b.origin)

tally_bounded_lem : (t : ℕ) (x : Tally) → tally_bounded t x ≡ true → BoundedTally t x
unfolding tally_bounded
tally_bounded_lem t x e =
    let b = both (leb x.off (10000 * t)) (leb x.out (20000 * t)) e in
    record { off = leb-true _ _ b.0; out = leb-true _ _ b.1 }

bounded_tally : (t : ℕ) (x : Tally) → BoundedTally t x → tally_bounded t x ≡ true
unfolding tally_bounded
bounded_tally t x b = rw (le-leb _ _ b.off, le-leb _ _ b.out)

pub tallies_bounded_lem : (ns t : ℕ) (tallies : List Tally) → tallies_bounded ns t tallies ≡ true → BoundedTallies ns t tallies
unfolding tallies_bounded
tallies_bounded_lem ns t tallies e = λ i h. tally_bounded_lem t (tally_in tallies i) (all_at (λ i. tally_bounded t (tally_in tallies i)) ns i e h)

pub bounded_tallies : (ns t : ℕ) (tallies : List Tally) → BoundedTallies ns t tallies → tallies_bounded ns t tallies ≡ true
unfolding tallies_bounded
bounded_tallies ns t tallies b = all_by (λ i. tally_bounded t (tally_in tallies i)) ns (λ i h. bounded_tally t (tally_in tallies i) (b i h))

pub partfeet_bounded_lem : (ns t : ℕ) (partfeet : List ℕ) → partfeet_bounded ns t partfeet ≡ true → BoundedPartfeet ns t partfeet
unfolding partfeet_bounded driven_bounded
partfeet_bounded_lem ns t partfeet e = λ i h. omega (arith, leb-true _ _ (all_at (λ i. driven_bounded t (partfeet_in partfeet i)) ns i e h))

pub bounded_partfeet : (ns t : ℕ) (partfeet : List ℕ) → BoundedPartfeet ns t partfeet → partfeet_bounded ns t partfeet ≡ true
unfolding partfeet_bounded driven_bounded
bounded_partfeet ns t partfeet b = all_by (λ i. driven_bounded t (partfeet_in partfeet i)) ns (λ i h. le-leb _ _ (b i h))

pub sums_bounded_lem : (t a l p : ℕ) → sums_bounded t a l p ≡ true → BoundedSums t a l p
unfolding sums_bounded
sums_bounded_lem t a l p e =
    let x = both (leb a (660000 * t)) _ e in
    let y = both (leb l (660000 * t)) (leb p (3801600000 * t)) x.1 in
    record { arrived_most = leb-true _ _ x.0; left_most = leb-true _ _ y.0; partsteps_most = leb-true _ _ y.1 }

pub bounded_sums : (t a l p : ℕ) → BoundedSums t a l p → sums_bounded t a l p ≡ true
unfolding sums_bounded
bounded_sums t a l p s = rw (le-leb _ _ s.arrived_most, le-leb _ _ s.left_most, le-leb _ _ s.partsteps_most)

-- ---- the whole test
pub is_sound : (f : Facility) → sound f ≡ true → Sound f
unfolding sound counted
is_sound f e =
    let a = both (road_allowed f.road) _ e in
    let b = both (leb f.taken 96 && leb f.made 60) _ a.1 in
    let n = both (leb f.taken 96) (leb f.made 60) b.0 in
    let c = both (sheeted f.taken f.road f.period) _ b.1 in
    let d = both (state_bounded (segments f.road) (steps_by f.taken f.made) f.state) _ c.1 in
    let g = both (tallies_bounded (segments f.road) (steps_by f.taken f.made) f.tallies) _ d.1 in
    let p = both (partfeet_bounded (segments f.road) (steps_by f.taken f.made) f.partfeet) _ g.1 in
    record {
      road = a.0;
      few = leb-true _ _ n.0;
      short = leb-true _ _ n.1;
      sheet = c.0;
      bounds = state_bounded_lem _ _ _ d.0;
      tallies = tallies_bounded_lem _ _ _ g.0;
      partfeet = partfeet_bounded_lem _ _ _ p.0;
      sums = sums_bounded_lem _ _ _ _ p.1;
    }

pub sound_is : (f : Facility) → Sound f → sound f ≡ true
unfolding sound counted
sound_is f s =
    rw (
      s.road,
      le-leb _ _ s.few,
      le-leb _ _ s.short,
      s.sheet,
      bounded_state _ _ _ s.bounds,
      bounded_tallies _ _ _ s.tallies,
      bounded_partfeet _ _ _ s.partfeet,
      bounded_sums _ _ _ _ s.sums,
    )

-- what the first two parts say
pub counts : (taken made : ℕ) → counted taken made ≡ true → (taken ≤ 96) × (made ≤ 60)
unfolding counted
counts taken made e =
    let n = both (leb taken 96) (leb made 60) e in
    (leb-true _ _ n.0, leb-true _ _ n.1)

pub few_segments : (road : List ℕ) → road_allowed road ≡ true → segments road ≤ 64
few_segments road e = (good_road road e).segments.1

-- the sheet in force, once one is taken
sheet_by_lem : (road period : List ℕ) (taken : ℕ) (t : Bool) → eqb taken 0 ≡ t → (t || period_allowed road period) ≡ true → 0 < taken
    → period_allowed road period ≡ true
sheet_by_lem road period taken true q e h = absurd (omega (arith, eqb-true taken 0 q))
sheet_by_lem road period taken false q e h = e

pub sheet_allowed : (taken : ℕ) (road period : List ℕ) → sheeted taken road period ≡ true → 0 < taken → period_allowed road period ≡ true
unfolding sheeted
sheet_allowed taken road period e h = sheet_by_lem road period taken (eqb taken 0) refl e h

pub good_sheet : (taken : ℕ) (road period : List ℕ) → GoodRoad road → sheeted taken road period ≡ true → 0 < taken → GoodPeriod road period
good_sheet taken road period g e h = good_period road period g (sheet_allowed taken road period e h)
