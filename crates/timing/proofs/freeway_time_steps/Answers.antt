-- The periods in turn, and the letters of each.
use Rattle.std.proofs.Common.{refl, sym, ap, ◌∙◌, add-one, arith}
use Rattle.door.specs.declared.Facility.{Facility}
use Rattle.facility.specs.Calls.{Reply, take_of}
use Rattle.facility.proofs.Told.{facility_after}
use Rattle.timing.specs.Repeated.{one_by_one, periods_one_by_one, letters_over_periods}
use Rattle.timing.proofs.freeway_time_steps.Goals as goal

pub loop-init : goal.loop-init
unfolding periods_one_by_one letters_over_periods
loop-init c = (refl, refl, omega arith)

pub loop-preserved : goal.loop-preserved
unfolding periods_one_by_one letters_over_periods
loop-preserved c =
    let taken = sym (facility_after c.take.result c.take.new.f) ∙ ap (λ (q : Reply). q.facility) c.take.ensures ∙ ap (λ (f : Facility). (take_of f c.args.period.now).facility) c.loop.invariant.0 in
    let told = c.sixty_runs-letters.ensures in (
      rw add-one (told.runs ∙ ap (one_by_one 60) taken),
      rw (add-one, c.loop.invariant.1, told.told, taken) refl,
      omega (arith, c.loop.invariant.2, told.most),
    )
