-- Each test by its own slice.
use native.Mathlib.Omega.{arith}
use Rattle.parts.specs.Parts.{road_globals}
use Rattle.conditions.specs.Conditions.{segments}
use Rattle.door.proofs.Cells.{each_tally, each_partfeet}
use Rattle.door.specs.Sound.{steps_by, tallies_bounded, partfeet_bounded}
use Rattle.door.proofs.Facility.is_bounded.Goals as goal

pub returns : goal.returns
unfolding road_globals tallies_bounded partfeet_bounded
returns c =
    let f = c.args.self.now in
    let t = steps_by f.taken f.made in
    rw (
      c.is_state_bounded.ensures,
      c.are_tallies_bounded.ensures,
      c.are_partfeet_bounded.ensures,
      c.are_sums_bounded.ensures,
      c.from.ensures,
      c.from-2.ensures,
      c.steps-t.ensures.0,
      each_tally t (segments f.road) f.tallies (omega (arith, c.requires.0)),
      each_partfeet t (segments f.road) f.partfeet (omega (arith, c.requires.0)),
    )
