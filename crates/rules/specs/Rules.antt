-- Manual 4.3 to 4.8: each rule of a step as a formula, in the manual's order; C, the lowered C, J, Q and the lanes are those in force, which
-- stand in the conditions (4.1). Every difference is zero where it would be negative, J − n too.
use Rattle.std.specs.Prelude.{ℕ, zero, suc, ◌+◌, ◌-◌, ◌*◌, ◌/◌, ◌%◌, min, max, Bool, leb, if◌then◌else◌}
use Rattle.rules.specs.declared.Flow.{Flow}

-- the largest y up to b that passes the test, by search from the top
unfoldable pub largest : (ℕ → Bool) → ℕ → ℕ
largest p zero = zero
largest p (suc b) = if p (suc b) then suc b else largest p b

-- a division rounded up
unfoldable pub rounded_up : ℕ → ℕ → ℕ
rounded_up a b = (a + (b - 1)) / b

-- D, wish to leave (4.3): the least of n, C and n × 22 × V / L rounded up
unfoldable pub wish_to_leave : (parts capacity speed length : ℕ) → ℕ
wish_to_leave n c v l = min n (min c (rounded_up (n * 22 * v) l))

-- what off(y) goes by (4.4): the share s, and the remainder at the step's start
pub record Split : Type 0 where
  pub share : ℕ
  pub remainder : ℕ

-- off(y) = (y × s + remainder) / 1000
unfoldable pub off : Split → (leaving : ℕ) → ℕ
off s y = (y * s.share + s.remainder) / 1000

-- the remainder after the step: what that division leaves, for the y that leaves
unfoldable pub remainder_after : Split → (leaving : ℕ) → ℕ
remainder_after s y = (y * s.share + s.remainder) % 1000

-- through(y) = y − off(y)
unfoldable pub through : Split → (leaving : ℕ) → ℕ
through s y = y - off s y

-- Y0: the largest y up to D with off(y) at most F
unfoldable pub most_leaving : Split → (offramp wish : ℕ) → ℕ
most_leaving s f d = largest (λ y. leb (off s y) f) d

-- W, ramp wish (4.5): the lesser of q + ramp demand and the limit, which is the lesser of R and the meter rate
unfoldable pub ramp_wish : (queue demand limit : ℕ) → ℕ
ramp_wish q d l = min (q + d) l

-- E, entrance capacity (4.6): the lowered one, C × (100 − A) / 100, behind a queue, else C
unfoldable pub entrance : (capacity lowered : ℕ) (queued : Bool) → ℕ
entrance c l t = if t then l else c

-- P, supply (4.6): the least of E, J − n and C × (J − n) / (J − Q)
unfoldable pub supply : (entrance capacity jam critical parts : ℕ) → ℕ
supply e c j q n = min e (min (j - n) (c * (j - n) / (j - q)))

-- r, ramp flow (4.7): the smaller of W and the larger of (P − M, zero if negative) and P / (2 × w), w the lanes in force
unfoldable pub ramp_flow : (supply lanes main_wish ramp_wish : ℕ) → ℕ
ramp_flow p n m w = min w (max (p - m) (p / (2 * n)))

-- f, mainline flow (4.7) at the entrance of a segment: the smaller of M and P − r. At the exit there is no P and no r; Step says f there
unfoldable pub main_flow : (main_wish supply ramp_flow : ℕ) → ℕ
main_flow m p r = min m (p - r)

-- f and r at the entrance of a segment
abbrev pub merge : (supply lanes main_wish ramp_wish : ℕ) → Flow
merge p n m w = let r = ramp_flow p n m w in record { main = main_flow m p r; ramp = r }

-- y, leaving (4.8): the largest y up to Y0 with through(y) at most f(i + 1)
unfoldable pub leaving : Split → (most ahead : ℕ) → ℕ
leaving s b f = largest (λ y. leb (through s y) f) b
