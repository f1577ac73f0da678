-- Manual 3.2, fields and refusal 4: a field is a number that has a range; the range names its refusal, 14 for a period's NS.
use Rattle.std.specs.Prelude.{ℕ, ◌≤◌, List, ltb, if◌then◌else◌}
use Rattle.refusals.specs.Numbers.{refusal_number}
use Rattle.numbers.specs.declared.Range.{Range}
use Rattle.numbers.specs.Number.{Reading, Read, Refused, read_number}

-- a number that was read, held to its range
unfoldable pub in_range : Range → Reading → Reading
in_range r (Read v next) = if ltb v r.low then Refused (refusal_number r.refusal) else if ltb r.high v then Refused (refusal_number r.refusal) else Read v next
in_range r (Refused e) = Refused e

-- the field at a place: refusals 1, 2, 3 of its number, then the range's own
unfoldable pub read_field : Range → List ℕ → ℕ → Reading
read_field r bytes at = in_range r (read_number bytes at)

-- v is a value of the range
abbrev pub In : Range → ℕ → Type 0
In r v = (r.low ≤ v) × (v ≤ r.high)
