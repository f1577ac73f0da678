-- What was written lies within its buffer.
use Rattle.std.proofs.Common.{ℕ, ◌+◌, ◌≤◌, Bool, true, false, ◌≡◌, refl, List, length, leb, leb-true, arith}
use Rattle.std.specs.Prelude.{if◌then◌else◌}
use Rattle.numbers.specs.Writing.{Wrote, Refused, room_at, write_answer}

within_by : (buffer bytes : List ℕ) (at n : ℕ) (t : Bool) → leb (at + length bytes) (length buffer) ≡ t
    → Wrote n ≡ (if t then Wrote (length bytes) else Refused 7) → at + n ≤ length buffer
within_by buffer bytes at n true e w =
    let same : n ≡ length bytes = cc in
    omega (arith, leb-true (at + length bytes) (length buffer) e)
within_by buffer bytes at n false e w = absurd (let z : ◌≡◌ {A = ℕ} 0 1 = cc in omega arith)

pub within : (buffer bytes : List ℕ) (at n : ℕ) → Wrote n ≡ write_answer buffer at bytes → at + n ≤ length buffer
unfolding room_at write_answer
within buffer bytes at n w = within_by buffer bytes at n (leb (at + length bytes) (length buffer)) refl w
