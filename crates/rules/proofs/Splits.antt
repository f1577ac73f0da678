-- The split of what leaves a segment into off(y) and through(y): all that is known of it, behind its name.
use Prim.Native.Nat.{ℕ, zero, suc, ◌+◌, ◌-◌, ◌*◌, ◌/◌, ◌≤◌, ◌<◌}
use mathlib.Core.Path.{◌≡◌, sym, ap, ◌∙◌}
use mathlib.Core.Logic.{◌↔◌, ⊎_elim}
use native.Mathlib.Nat.{le-div_iff_mul-le, mul-sub, mul-zero, suc-mul, eq-or-lt_of_le, mul-le-mul_left, mul-le-mul_right}
use native.Mathlib.Omega.{arith}
use lib.Dec.{leb}
use borrow.Author.Tests.{le-leb, leb-true}
use Rattle.rules.specs.Rules.{Split, off, remainder_after, through, most_leaving, leaving}
use Rattle.rules.proofs.Largest.{largest_most, largest_passes, largest_reaches, largest_whole, largest_bound}
use Rattle.rules.specs.Good.{GoodSplit}

-- ---- the division: off(y) and the remainder after are the whole share with the remainder before, and less than a part remains
pub off_exact : (s : Split) (y : ℕ) → off s y * 1000 + remainder_after s y ≡ y * s.share + s.remainder
unfolding off remainder_after
off_exact s y = omega arith

pub remainder_below : (s : Split) (y : ℕ) → remainder_after s y < 1000
unfolding remainder_after
remainder_below s y = omega arith

-- ---- how it rises
pub off_zero : (s : Split) → GoodSplit s → off s 0 ≡ 0
unfolding off
off_zero s g = omega (arith, g.remainder)

pub off_rises : (s : Split) (x y : ℕ) → x ≤ y → off s x ≤ off s y
unfolding off
off_rises s x y h = omega (arith, mul-le-mul_right s.share h)

pub off_most : (s : Split) (y : ℕ) → GoodSplit s → off s y ≤ y
unfolding off
off_most s y g = omega (arith, mul-le-mul_left y g.share, g.remainder)

pub off_rises_by_one : (s : Split) (y : ℕ) → GoodSplit s → off s (suc y) ≤ suc (off s y)
unfolding off
off_rises_by_one s y g = omega (arith, g.share, suc-mul y s.share)

-- nobody is lost and nobody doubled
pub split_whole : (s : Split) (y : ℕ) → GoodSplit s → off s y + through s y ≡ y
unfolding through
split_whole s y g = omega (arith, off_most s y g)

pub through_zero : (s : Split) → through s 0 ≡ 0
unfolding through
through_zero s = omega arith

pub through_rises_by_one : (s : Split) (y : ℕ) → through s (suc y) ≤ suc (through s y)
unfolding through
through_rises_by_one s y = omega (arith, off_rises s y (suc y) (omega arith))

pub through_most : (s : Split) (y : ℕ) → through s y ≤ y
unfolding through
through_most s y = omega arith

-- ---- Y0 and y
pub most_leaving_most : (s : Split) (f d : ℕ) → most_leaving s f d ≤ d
unfolding most_leaving
most_leaving_most s f d = largest_most _ d

pub most_leaving_off : (s : Split) (f d : ℕ) → GoodSplit s → off s (most_leaving s f d) ≤ f
unfolding most_leaving
most_leaving_off s f d g =
    leb-true _ _ (largest_passes (λ y. leb (off s y) f) d (le-leb (off s 0) f (omega (arith, off_zero s g))))

-- by an off-ramp that does not take all exactly its capacity
most_leaving_full : (s : Split) (f d : ℕ) → GoodSplit s → f ≤ off s d → off s (most_leaving s f d) ≡ f
unfolding most_leaving
most_leaving_full s f d g h = largest_reaches (off s) f d (off_zero s g) (λ y. off_rises_by_one s y g) h

pub leaving_most : (s : Split) (b f : ℕ) → leaving s b f ≤ b
unfolding leaving
leaving_most s b f = largest_most _ b

-- what goes on is exactly what the node ahead lets in, where that is no more than wished to
pub leaving_through : (s : Split) (b f : ℕ) → f ≤ through s b → through s (leaving s b f) ≡ f
unfolding leaving
leaving_through s b f h = largest_reaches (through s) f b (through_zero s) (through_rises_by_one s) h

-- and the rest takes the off-ramp
leaving_rest : (s : Split) (b f : ℕ) → GoodSplit s → f ≤ through s b → (f ≤ leaving s b f) × (leaving s b f - f ≡ off s (leaving s b f))
leaving_rest s b f g h =
    let on = leaving_through s b f h in
    let whole = split_whole s (leaving s b f) g in
    (omega (arith, on, whole), omega (arith, on, whole))

-- ---- without a share nobody takes the off-ramp
pub off_without_share : (s : Split) (y : ℕ) → GoodSplit s → s.share ≡ 0 → off s y ≡ 0
unfolding off
off_without_share s y g z = rw (z, mul-zero y) (omega (arith, g.remainder))

-- ---- closed forms. Y0: all who wish, or by the off-ramp's capacity
off_bound : (s : Split) (f y : ℕ) → GoodSplit s → 0 < s.share → (off s y ≤ f) ↔ (y ≤ ((f + 1) * 1000 - 1 - s.remainder) / s.share)
unfolding off
off_bound s f y g pos =
    let d = le-div_iff_mul-le {k = s.share} {x = y} {y = (f + 1) * 1000 - 1 - s.remainder} pos in
    let r = g.remainder in
    (λ h. d.1 (omega arith), λ h. omega (arith, d.0 h))

pub most_all : (s : Split) (f d : ℕ) → off s d ≤ f → most_leaving s f d ≡ d
unfolding most_leaving
most_all s f d h = largest_whole (λ y. leb (off s y) f) d (le-leb (off s d) f h)

no_share : (k r d f : ℕ) → r < 1000 → f < (d * k + r) / 1000 → 0 < k
no_share zero r d f l h = absurd (omega (arith, mul-zero d))
no_share (suc s) r d f l h = omega arith

-- a share by which more would leave than the off-ramp takes is above zero
pub share_positive : (s : Split) (f d : ℕ) → GoodSplit s → f < off s d → 0 < s.share
unfolding off
share_positive s f d g h = no_share s.share s.remainder d f g.remainder h

most_by_offramp : (s : Split) (f d : ℕ) → GoodSplit s → f < off s d → most_leaving s f d ≡ ((f + 1) * 1000 - 1 - s.remainder) / s.share
unfolding most_leaving
most_by_offramp s f d g h = largest_bound (off s) f _ d (λ y. off_bound s f y g (share_positive s f d g h)) h

-- the quotient is Y0, and by the off-ramp goes its capacity
pub full_off_ramp : (s : Split) (f d : ℕ) → GoodSplit s → f < off s d
    → let y = ((f + 1) * 1000 - 1 - s.remainder) / s.share in (y ≤ d) × (f ≡ off s y) × (most_leaving s f d ≡ y)
full_off_ramp s f d g h =
    let e = most_by_offramp s f d g h in
    (omega (arith, e, most_leaving_most s f d), sym (ap (off s) (sym e) ∙ most_leaving_full s f d g (omega arith)), e)

-- ---- y: all who may, or by the flow ahead
through_bound : (s : Split) (f y : ℕ) → s.share < 1000 → (through s y ≤ f) ↔ (y ≤ (1000 * f + s.remainder) / (1000 - s.share))
unfolding off through
through_bound s f y small =
    let d = le-div_iff_mul-le {k = 1000 - s.share} {x = y} {y = 1000 * f + s.remainder} (omega arith) in
    let e = mul-sub y 1000 s.share in
    let l : y * s.share ≤ y * 1000 = mul-le-mul_left y (omega arith) in
    (λ h. d.1 (omega (arith, e)), λ h. omega (arith, e, d.0 h))

pub leaving_all : (s : Split) (b f : ℕ) → through s b ≤ f → leaving s b f ≡ b
unfolding leaving
leaving_all s b f h = largest_whole (λ y. leb (through s y) f) b (le-leb (through s b) f h)

-- a share by which more would go on than is let in is below 1000
pub share_below : (s : Split) (b f : ℕ) → GoodSplit s → f < through s b → s.share < 1000
unfolding through off
share_below s b f g l =
    ⊎_elim (λ e. absurd (omega (arith, rw e at l))) (λ small. small) (eq-or-lt_of_le {n = s.share} {m = 1000} g.share)

leaving_by_flow : (s : Split) (b f : ℕ) → s.share < 1000 → f < through s b → leaving s b f ≡ (1000 * f + s.remainder) / (1000 - s.share)
unfolding leaving
leaving_by_flow s b f small h = largest_bound (through s) f _ b (λ y. through_bound s f y small) h

-- the quotient is y, of whom f are let in and the others take the off-ramp
pub held_back : (s : Split) (b f : ℕ) → GoodSplit s → f < through s b
    → let y = (1000 * f + s.remainder) / (1000 - s.share) in (y ≤ b) × (f ≤ y) × (y - f ≡ off s y) × (leaving s b f ≡ y)
held_back s b f g h =
    let e = leaving_by_flow s b f (share_below s b f g h) h in
    let rest = leaving_rest s b f g (omega arith) in
    (omega (arith, e, leaving_most s b f), omega (arith, e, rest.0), rw e at rest.1, e)

-- without a share as many leave as are let in
pub leaving_without_share : (s : Split) (b f : ℕ) → GoodSplit s → s.share ≡ 0 → f < through s b → leaving s b f ≡ f
leaving_without_share s b f g z h = leaving_by_flow s b f (omega (arith, z)) h ∙ rw z (omega (arith, g.remainder))
