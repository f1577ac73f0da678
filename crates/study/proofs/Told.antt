-- What a forecast tells, of what the study comes to: a refusal with its place, or the listing at the end of the file.
use Rattle.std.proofs.Common.{◌≡◌, ℕ, ◌≤◌, sym, ap, ◌∙◌, List, length, Err}
use Rattle.refusals.specs.declared.Refused.{Refused as RefusedCall}
use Rattle.door.specs.declared.Facility.{Facility}
use Rattle.facility.specs.Ledger.{present}
use Rattle.study.specs.Forecast.{listing, outcome_by, forecast_by, forecast_of}
use Rattle.study.specs.Shown.{shown, told}
use Rattle.study.proofs.Lines.{shows}
use Rattle.study.proofs.Periods.{Turn, ends, refused_by}

pub refused_is : (bytes : List ℕ) (e : RefusedCall) → outcome_by present bytes ≡ refused_by e → told (Err e) ≡ forecast_of bytes
unfolding forecast_by
refused_is bytes e is = sym (ap (listing present) is)

pub shown_at_the_end : (bytes : List ℕ) (f : Facility) (at : ℕ) (p : Turn bytes f at) → length bytes ≤ at → shown f ≡ forecast_of bytes
unfolding forecast_by
shown_at_the_end bytes f at p h = rw p.view (shows p.book p.kept ∙ sym (ap (listing present) (ends bytes f at p h)))
