-- The first segment's place, and then the others' in turn.
use mathlib.Core.Path.{◌≡◌, ap}
use native.Mathlib.Omega.{arith}
use Rattle.std.proofs.Common.{rules}
use Rattle.parts.specs.declared.RoadGlobals.{RoadGlobals}
use Rattle.conditions.specs.Conditions.{segments, demand_under, outlet_under, conditions_of}
use Rattle.conditions.specs.Values.{values_to}
use Rattle.conditions.specs.View.{conditions_in}
use Rattle.conditions.specs.declared.place.Place.{Place}
use Rattle.conditions.proofs.Values.{values_set}
use Rattle.conditions.proofs.work_out.Goals as goal

pub loop-i-init : goal.loop-i-init
unfolding values_to
loop-i-init c = search rules

pub loop-i-preserved : goal.loop-i-preserved
loop-i-preserved c =
    let s : c.globals_of_road-g.result.segments ≡ segments c.args.road.now = ap (λ (g : RoadGlobals). g.segments) c.globals_of_road-g.ensures in
    record {
      room = search rules;
      filled =
          values_set (λ (p : Place). p.here) _ c.loop-i.places c.loop-i.i _ (omega (arith, c.loop-i.invariant.room, c.requires.0.segments.1))
          c.place_of.ensures c.loop-i.invariant.filled;
    }

pub returns : goal.returns
unfolding conditions_in conditions_of demand_under outlet_under
returns c = search rules
