-- The code's conditions as those of the rules: no rule of the manual.
use Rattle.std.specs.Prelude.{map, take}
use Rattle.conditions.specs.Conditions.{Conditions}
use Rattle.conditions.specs.declared.place.Conditions as code

-- the conditions that the code's tell: what is in force at the first NS places
unfoldable pub conditions_in : code.Conditions → Conditions
conditions_in c = record {
  segments = c.segments;
  demand = c.demand;
  outlet = c.outlet;
  places = map (λ p. p.here) (take c.segments c.places);
}
