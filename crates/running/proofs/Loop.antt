-- The loop of a run: after i steps the facility is that of i steps but for the part-feet, which are added after the last, and in its bounds.
use Prim.Native.Nat.{ℕ, ◌+◌, ◌-◌, ◌*◌, ◌≤◌, ◌<◌}
use mathlib.Core.List.{List}
use mathlib.Core.Path.{◌≡◌, refl, sym, ap, ◌∙◌, subst}
use native.Mathlib.Omega.{arith}
use native.Mathlib.Numerals.{add-one}
use lib.ListN.{length}
use Rattle.parts.specs.Good.{GoodRoad, GoodPeriod}
use Rattle.parts.proofs.Good.{good_road}
use Rattle.segment.specs.declared.tally.Tally.{Tally}
use Rattle.steps.specs.declared.State.{State}
use Rattle.conditions.specs.Conditions.{Conditions, Under, conditions_of}
use Rattle.steps.specs.Step.{stepped, arrived_of, left_of}
use Rattle.conditions.specs.Good.{GoodConditions}
use Rattle.conditions.proofs.Good.{under, good_conditions}
use Rattle.steps.specs.Tallies.{tallied}
use Rattle.steps.specs.Since.{driven_since}
use Rattle.steps.specs.Bounded.{Bounded, BoundedTallies, BoundedPartfeet}
use Rattle.steps.proofs.Bounds.{bounded_longer, bounded_after, arrived_most, left_most}
use Rattle.steps.proofs.Tallies.{tallies_longer, tallied_bounded}
use Rattle.steps.proofs.Driven.{partfeet_longer}
use Rattle.door.specs.declared.Facility.{Facility}
use Rattle.door.specs.Sound.{steps_by}
use Rattle.running.specs.Ready.{Ready}
use Rattle.door.proofs.Sound.{BoundedSums, Sound, is_sound, good_sheet}
use Rattle.running.proofs.InForce.{sheeted_by_some}
use Rattle.running.proofs.Run.{run_partfeet}
use Rattle.running.specs.Steps.{conditions_on, step_of, steps_of}

-- with the part-feet of the run's start
abbrev pub with_first_partfeet : (start now : Facility) → Facility
with_first_partfeet start now = record now { partfeet = start.partfeet }

-- a run's turn: the facility of i steps, under the same conditions, with its counts and bounds
pub record Turn (f : Facility) (k i : ℕ) (now : Facility) : Type 0 where
  pub is : now ≡ with_first_partfeet f (steps_of i f)
  pub most : i ≤ k
  pub same : conditions_on now ≡ conditions_on f
  pub taken : now.taken ≡ f.taken
  pub made : now.made ≡ f.made + i
  pub bounds : Bounded (conditions_on f).segments (steps_by now.taken now.made) now.state
  pub tallies : BoundedTallies (conditions_on f).segments (steps_by now.taken now.made) now.tallies
  pub sums : BoundedSums (steps_by now.taken now.made) now.arrived now.left now.partsteps

module _ (f : Facility) (k : ℕ) (ready : Ready f k) where
  facts : Sound f
  facts = is_sound f ready.is

  pub road_good : GoodRoad f.road
  road_good = good_road f.road facts.road

  pub sheet_good : GoodPeriod f.road f.period
  sheet_good = good_sheet f.taken f.road f.period road_good facts.sheet ready.some

  -- what is in force is the sheet's
  force_is : conditions_on f ≡ conditions_of f.road (Under f.period)
  force_is = ap (conditions_of f.road) (sheeted_by_some f.taken f.period ready.some)

  pub force_good : GoodConditions (conditions_on f)
  force_good = rw force_is (good_conditions f.road (Under f.period) road_good (under sheet_good))

  -- what is in force, as it was worked out
  pub filled : (c : Conditions) → c ≡ conditions_of f.road (Under f.period) → c ≡ conditions_on f
  filled c e = e ∙ sym force_is

  pub turn_start : Turn f k 0 f
  unfolding steps_of conditions_of
  turn_start = record {
    is = refl;
    most = omega arith;
    same = refl;
    taken = refl;
    made = omega arith;
    bounds = facts.bounds;
    tallies = facts.tallies;
    sums = facts.sums;
  }

  module _ (i : ℕ) (now : Facility) (t : Turn f k i now) (h : i < k) where
    few : steps_by now.taken now.made < 5760
    unfolding steps_by
    few = omega (arith, facts.few, ready.room, t.taken, t.made)

    one_more : steps_by now.taken (now.made + 1) ≡ steps_by now.taken now.made + 1
    unfolding steps_by
    one_more = omega (arith, ready.some, t.taken)

    -- what the step asks
    pub turn_bounds : Bounded (conditions_on f).segments 5760 now.state
    turn_bounds = bounded_longer _ _ 5760 now.state (omega (arith, few)) t.bounds

    pub turn_tallies : BoundedTallies (conditions_on f).segments 5760 now.tallies
    turn_tallies = tallies_longer _ _ 5760 now.tallies (omega (arith, few)) t.tallies

    abbrev comes : ℕ
    comes = arrived_of (conditions_on f)

    abbrev goes : ℕ
    goes = left_of (conditions_on f).segments (stepped (conditions_on f) now.state)

    comes_most : comes ≤ 660000
    comes_most = arrived_most (conditions_on f) force_good

    goes_most : goes ≤ 660000
    goes_most = left_most (conditions_on f) now.state force_good t.bounds

    pub turn_fits : (now.made < 60) × (now.arrived + comes ≤ 3801600000) × (now.left + goes ≤ 3801600000)
        × (now.partsteps + (now.arrived + comes - (now.left + goes)) ≤ 3801600000 * 5760)
    turn_fits =
        let s = t.sums in
        let n = few in (
          omega (arith, ready.room, t.made),
          omega (arith, s.arrived_most, comes_most),
          omega (arith, s.left_most, goes_most),
          omega (arith, s.partsteps_most, s.arrived_most, comes_most),
        )

    -- the step made
    pub turned : (next : State) (counted : List Tally) (arrives leaves more : ℕ) → next ≡ stepped (conditions_on f) now.state
        → counted ≡ tallied (conditions_on f) now.state now.tallies → leaves ≡ goes → arrives ≡ comes
        → more ≡ now.arrived + arrives - (now.left + leaves)
        → Turn f k (i + 1) (record now {
          made = now.made + 1;
          state = next;
          tallies = counted;
          arrived = now.arrived + arrives;
          left = now.left + leaves;
          partsteps = now.partsteps + more;
        })
    unfolding step_of steps_of
    turned next counted arrives leaves more en et el ea em =
        let s = t.sums in
        let n = few in
        record {
          is = rw (em, ea, el, et, en, ← t.same) (
              ap (λ (g : Facility). record (step_of g) { partfeet = g.partfeet }) t.is ∙ ap (λ (j : ℕ). with_first_partfeet f (steps_of j f)) (sym (add-one i)));
          most = omega arith;
          same = t.same;
          taken = t.taken;
          made = omega (arith, t.made);
          bounds = rw (one_more, en) (bounded_after (conditions_on f) now.state force_good t.bounds);
          tallies = rw (one_more, et) (tallied_bounded (conditions_on f) now.state now.tallies force_good t.bounds t.tallies);
          sums = rw (one_more, em, el, ea) (record {
            arrived_most = omega (arith, s.arrived_most, comes_most);
            left_most = omega (arith, s.left_most, goes_most);
            partsteps_most = omega (arith, s.partsteps_most, s.arrived_most, comes_most);
          });
        }

  module _ (i : ℕ) (now : Facility) (t : Turn f k i now) where
    -- what adding the part-feet asks
    pub end_tallies : BoundedTallies (conditions_on f).segments 5760 now.tallies
    unfolding steps_by
    end_tallies = tallies_longer _ _ 5760 now.tallies (omega (arith, facts.few, ready.room, t.taken, t.made, t.most)) t.tallies

    pub end_partfeet : BoundedPartfeet (conditions_on f).segments 5760 now.partfeet
    unfolding steps_by conditions_of
    end_partfeet =
        rw (ap (λ (g : Facility). g.partfeet) t.is) (partfeet_longer _ _ 5760 f.partfeet (omega (arith, facts.few, facts.short)) facts.partfeet)

    -- and the end, with them added
    pub turn_end : k ≤ i → (conditions_on f).segments ≤ length f.state.cells → (conditions_on f).segments ≤ length f.tallies
        → (conditions_on f).segments ≤ length f.partfeet → (feet : List ℕ) → feet ≡ driven_since (conditions_on f) f.tallies now.tallies now.partfeet
        → record now { partfeet = feet } ≡ steps_of k f
    turn_end h cells tallies long feet e =
        let last : i ≡ k = omega (arith, t.most) in
        let is : now ≡ with_first_partfeet f (steps_of k f) = subst (λ (j : ℕ). now ≡ with_first_partfeet f (steps_of j f)) last t.is in
        rw (e, is, run_partfeet f cells tallies long k)
