-- What is in force with lanes closed, computed.
use mathlib.Core.Path.{◌≡◌, refl}
use mathlib.Core.List.{List, [], ◌∷◌}
use Prim.Native.Nat.{ℕ}
use Rattle.parts.specs.Parts.{road_globals, segment_of, entry_of}
use Rattle.conditions.specs.Values.{values_to}
use Rattle.conditions.specs.Conditions.{open_capacity, parts_at, lowered_by, in_force, None, Under, demand_under, outlet_under, entry_under, in_force_of, conditions_of}

-- a segment of three lanes, 1,321 ft, C = 6,604
road : List ℕ
road = 1 ∷ 190 ∷ 45 ∷ 7 ∷ 1321 ∷ 3 ∷ 60 ∷ 6604 ∷ 2000 ∷ 250 ∷ 900 ∷ []

-- what is in force there with two of the three lanes open, each number rounded where it is formed
two_of_three_open : in_force_of road (Under (1 ∷ 4800 ∷ 10000 ∷ 700 ∷ 300 ∷ 2 ∷ [])) 0
    ≡ record {
      length = 1321;
      speed = 60;
      lanes = 2;
      capacity = 4402;
      lowered = 4093;
      jam = 22817;
      critical = 5404;
      limit = 300;
      share = 250;
      offramp = 900;
      demand = 700;
    }
unfolding road in_force open_capacity parts_at lowered_by entry_under road_globals segment_of entry_of
two_of_three_open = refl

-- before any sheet the road's own lanes and C are in force, and every ramp is held
unsheeted : conditions_of road None
    ≡ record {
      segments = 1;
      demand = 0;
      outlet = 0;
      places = record {
        length = 1321;
        speed = 60;
        lanes = 3;
        capacity = 6604;
        lowered = 6141;
        jam = 34225;
        critical = 8106;
        limit = 0;
        share = 250;
        offramp = 900;
        demand = 0;
      } ∷ [];
    }
unfolding road conditions_of demand_under outlet_under entry_under in_force values_to open_capacity lowered_by parts_at road_globals segment_of
unsheeted = refl

-- a small capacity may be lost whole
one_of_eight_open : (open_capacity 7 8 1 ≡ 0) × (open_capacity 8 8 1 ≡ 1)
unfolding open_capacity
one_of_eight_open = (refl, refl)
