-- What follows from the rules as formulas, at any numbers.
use Prim.Native.Nat.{ℕ, ◌+◌, ◌-◌, ◌*◌, ◌/◌, ◌≤◌, min, max}
use mathlib.Core.Bool.{Bool, true, false}
use mathlib.Core.Path.{◌≡◌, refl}
use native.Mathlib.Nat.{div-le_self}
use native.Mathlib.Omega.{arith}
use Rattle.rules.specs.Rules.{wish_to_leave, ramp_wish, entrance, supply, ramp_flow, main_flow}

-- ---- D
pub wish_most_parts : (n c v l : ℕ) → wish_to_leave n c v l ≤ n
unfolding wish_to_leave
wish_most_parts n c v l = omega arith

pub wish_most_capacity : (n c v l : ℕ) → wish_to_leave n c v l ≤ c
unfolding wish_to_leave
wish_most_capacity n c v l = omega arith

-- ---- E, P
pub entrance_most : (c l : ℕ) (t : Bool) → l ≤ c → entrance c l t ≤ c
unfolding entrance
entrance_most c l true h = h
entrance_most c l false h = omega arith

pub supply_most_entrance : (e c j q n : ℕ) → supply e c j q n ≤ e
unfolding supply
supply_most_entrance e c j q n = omega arith

pub supply_most_room : (e c j q n : ℕ) → supply e c j q n ≤ j - n
unfolding supply
supply_most_room e c j q n = omega arith

-- ---- W, r, f
pub ramp_wish_most_queue : (q d l : ℕ) → ramp_wish q d l ≤ q + d
unfolding ramp_wish
ramp_wish_most_queue q d l = omega arith

pub ramp_wish_most_limit : (q d l : ℕ) → ramp_wish q d l ≤ l
unfolding ramp_wish
ramp_wish_most_limit q d l = omega arith

pub ramp_flow_most : (p n m w : ℕ) → ramp_flow p n m w ≤ w
unfolding ramp_flow
ramp_flow_most p n m w = omega arith

-- the ramp gets its share of the supply, or all that wish, also where the mainline would fill it
pub ramp_flow_share_least : (p n m w : ℕ) → min w (p / (2 * n)) ≤ ramp_flow p n m w
unfolding ramp_flow
ramp_flow_share_least p n m w = omega arith

ramp_flow_fits : (p h m w : ℕ) → h ≤ p → min w (max (p - m) h) ≤ p
ramp_flow_fits p h m w l = omega arith

shared : (p h m w r : ℕ) → r ≤ p → r ≡ min w (max (p - m) h) → min m (p - r) + r ≡ min (m + w) p
shared p h m w r l e = omega arith

-- a merge lets in exactly the smaller of what wishes to enter and what can be taken
pub merge_exact : (p n m w : ℕ) → main_flow m p (ramp_flow p n m w) + ramp_flow p n m w ≡ min (m + w) p
unfolding main_flow ramp_flow
merge_exact p n m w =
    shared p (p / (2 * n)) m w _ (ramp_flow_fits p (p / (2 * n)) m w (div-le_self p (2 * n))) refl

pub main_flow_most : (m p r : ℕ) → main_flow m p r ≤ m
unfolding main_flow
main_flow_most m p r = omega arith
