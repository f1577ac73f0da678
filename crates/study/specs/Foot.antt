-- Manual 9.2, the foot of the listing: the claim on the last line. `proofs/Foot` shows it of every study.
use Rattle.std.specs.Prelude.{◌≡◌, get_or}
use Rattle.steps.specs.Step.{sum_to}
use Rattle.study.specs.Forecast.{Listing, no_line}

-- it is the sum of the lines above it
abbrev pub AddsUp : Listing → Type 0
AddsUp x = x.partfeet ≡ sum_to (λ i. (get_or x.lines i no_line).partfeet) x.segments
