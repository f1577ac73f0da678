-- No byte before is another outside the part.
use Rattle.std.proofs.Common.{ℕ, ◌≡◌, ◌<◌, get_or}
use Rattle.records.specs.Rest.{IsOutside}
use Rattle.records.proofs.altered_at.Given as goal

abbrev pub invariant-loop-i : goal.invariant-loop-i
invariant-loop-i l = (k : ℕ) → k < l.i → IsOutside l.at l.count k → get_or l.buffer k 0 ≡ l.fill
