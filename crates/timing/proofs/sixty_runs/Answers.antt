-- The runs in turn, and the letters after each.
use Rattle.std.proofs.Common.{refl, sym, ap, ◌∙◌, add-one, arith}
use Rattle.door.specs.declared.Facility.{Facility}
use Rattle.facility.specs.Calls.{Reply, run_of}
use Rattle.facility.proofs.Told.{facility_after_run}
use Rattle.timing.specs.Repeated.{one_by_one, letters_after_runs}
use Rattle.timing.proofs.sixty_runs.Goals as goal

pub loop-init : goal.loop-init
unfolding one_by_one letters_after_runs
loop-init c = (refl, refl, omega arith)

pub loop-preserved : goal.loop-preserved
unfolding one_by_one letters_after_runs
loop-preserved c =
    let run = sym (facility_after_run c.run.result c.run.new.f) ∙ ap (λ (q : Reply). q.facility) c.run.ensures ∙ ap (λ (f : Facility). (run_of f 1).facility) c.loop.invariant.0 in
    let told = c.letters_of_reports-letters.ensures in (
      rw add-one run,
      rw (add-one, c.loop.invariant.1, told.told, c.from.ensures, run) refl,
      omega (arith, c.loop.invariant.2, told.most, c.from.ensures, c.ranges.reports.fits),
    )
