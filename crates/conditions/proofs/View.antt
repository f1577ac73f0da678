-- The code's conditions as those of the rules: read at a segment, and good.
use Prim.Native.Nat.{ℕ, zero, suc, ◌<◌}
use mathlib.Core.Path.{◌≡◌, sym, ap, ◌∙◌}
use mathlib.Core.List.{List, [], ◌∷◌, map}
use native.Mathlib.Omega.{arith}
use lib.ListN.{length, get_or, take}
use Rattle.std.proofs.lemmas.List.{get_or-map, get_or-take, length-take-le}
use Rattle.conditions.specs.declared.place.Place.{Place}
use Rattle.conditions.specs.declared.place.Conditions as code
use Rattle.conditions.specs.Conditions.{nothing_in_force, in_force_at}
use Rattle.conditions.specs.Good.{GoodPlace, GoodConditions}
use Rattle.conditions.specs.View.{conditions_in}

module _ (c : code.Conditions) (i : ℕ) (h : i < c.segments) where
  within : i < length (take c.segments c.places)
  within = omega (arith, c.counted.1, c.room, length-take-le c.segments c.places (omega (arith, c.counted.1, c.room)))

  -- the place at a segment tells what is in force there
  pub view_at : (d : Place) → (get_or c.places i d).here ≡ in_force_at (conditions_in c) i
  unfolding conditions_in
  view_at d =
      ap (λ (p : Place). p.here) (sym (get_or-take c.segments c.places i d h))
      ∙ sym (get_or-map (λ (p : Place). p.here) (take c.segments c.places) i d nothing_in_force within)

good_at : (xs : List Place) (i : ℕ) → i < length xs → GoodPlace (get_or (map (λ (p : Place). p.here) xs) i nothing_in_force)
good_at [] i h = absurd (omega arith)
good_at (p ∷ ps) zero h = p.good
good_at (p ∷ ps) (suc i) h = good_at ps i (omega arith)

pub view_good : (c : code.Conditions) → GoodConditions (conditions_in c)
unfolding conditions_in
view_good c = record {
  segments = c.counted;
  demand = c.demand_most;
  outlet = c.outlet_most;
  place = λ i h. good_at (take c.segments c.places) i (within c i h);
}
