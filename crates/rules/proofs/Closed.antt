-- Closed forms: what each rule comes to where a test spares a search or a division.
use Prim.Native.Nat.{ℕ, suc, ◌+◌, ◌-◌, ◌*◌, ◌/◌, ◌≤◌, ◌<◌, min}
use mathlib.Core.Path.{◌≡◌, refl, sym, ◌∙◌}
use mathlib.Core.Bool.{Bool, true, false}
use native.Mathlib.Nat.{le-div_iff_mul-le, div-lt_iff_lt-mul, mul_assoc, mul-le-mul, mul-le-mul_left}
use native.Mathlib.Omega.{arith}
use lib.Dec.{leb, ltb}
use borrow.Author.Tests.{leb-true, leb-false, ltb-false}
use Rattle.std.specs.Prelude.{if◌then◌else◌}
use Rattle.conditions.specs.Shortcuts.{easy_below, full_from}
use Rattle.rules.specs.Rules.{rounded_up, wish_to_leave, supply, ramp_flow, main_flow}
use Rattle.rules.proofs.Formulas.{main_flow_most, merge_exact, ramp_flow_most}

-- the least of three, where the last is no less than the first
least_first : (a b x : ℕ) → a ≤ x → min a (min b x) ≡ min a b
least_first a b x h = omega arith

-- ---- D: by the speed with fewer parts than full, else the lesser of the parts and C; the reach is 22 × V
-- below full the reach is short of L, and fewer than C get away
pub below_full : (n c l reach : ℕ) → 1 ≤ reach → n < full_from l reach c → (reach < l) × (n * reach < c * l)
unfolding full_from
below_full n c l reach some h = by_length (leb l reach) refl h
  where
    by_length : (t : Bool) → leb l reach ≡ t → n < (if t then 0 else (c * l + (reach - 1)) / reach) → (reach < l) × (n * reach < c * l)
    by_length true e b = absurd (omega arith)
    by_length false e b =
        let d = le-div_iff_mul-le {k = reach} {x = suc n} {y = c * l + (reach - 1)} some in
        (leb-false l reach e, omega (arith, d.0 (omega arith)))

module _ (n c v l reach : ℕ) (is : reach ≡ 22 * v) (pos : 1 ≤ l) where
  moving : n * reach ≡ n * 22 * v
  moving = rw is (sym (mul_assoc n 22 v))

  -- how many the speed lets away, rounded up
  abbrev away : ℕ
  away = rounded_up (n * 22 * v) l

  away_most : (k : ℕ) → n * reach ≤ k * l → away ≤ k
  unfolding rounded_up
  away_most k h =
      let d = div-lt_iff_lt-mul {k = l} {x = n * 22 * v + (l - 1)} {y = suc k} pos in
      omega (arith, d.1 (omega (arith, moving)))

  away_least : (k : ℕ) → k * l ≤ n * reach → k ≤ away
  unfolding rounded_up
  away_least k h =
      let d = le-div_iff_mul-le {k = l} {x = k} {y = n * 22 * v + (l - 1)} pos in
      d.1 (omega (arith, moving))

  wish_by_speed : n * reach ≤ n * l → n * reach ≤ c * l → (n * reach + (l - 1)) / l ≡ wish_to_leave n c v l
  unfolding wish_to_leave rounded_up
  wish_by_speed a b = rw moving (omega (arith, away_most n a, away_most c b))

  -- C get away, or all
  wish_by_capacity : c * l ≤ n * reach → min n c ≡ wish_to_leave n c v l
  unfolding wish_to_leave
  wish_by_capacity h = omega (arith, away_least c h)

  wish_by_parts : n * l ≤ n * reach → min n c ≡ wish_to_leave n c v l
  unfolding wish_to_leave
  wish_by_parts h = omega (arith, away_least n h)

  module _ (some : 1 ≤ reach) where
    pub wish_below_full : n < full_from l reach c → (n * reach + (l - 1)) / l ≡ wish_to_leave n c v l
    wish_below_full h =
        let b = below_full n c l reach some h in
        wish_by_speed (mul-le-mul_left n (omega (arith, b.0))) (omega (arith, b.1))

    pub wish_from_full : full_from l reach c ≤ n → min n c ≡ wish_to_leave n c v l
    unfolding full_from
    wish_from_full h = by_length (leb l reach) refl h
      where
        by_length : (t : Bool) → leb l reach ≡ t → (if t then 0 else (c * l + (reach - 1)) / reach) ≤ n → min n c ≡ wish_to_leave n c v l
        by_length true e b = wish_by_parts (mul-le-mul_left n (leb-true l reach e))
        by_length false e b =
            let d = div-lt_iff_lt-mul {k = reach} {x = c * l + (reach - 1)} {y = suc n} some in
            wish_by_capacity (omega (arith, d.0 (omega arith)))

-- ---- P: without the quotient where it is at least E
supply_by_entrance : (e c j q n room : ℕ) →
    room ≡ j - n →
    q < j →
    e * (j - q) ≤ c * room →
    supply e c j q n ≡ min e room
unfolding supply
supply_by_entrance e c j q n room is pos h =
    let d = le-div_iff_mul-le {k = j - q} {x = e} {y = c * room} (omega arith) in
    rw (← is) (least_first e room (c * room / (j - q)) (d.1 h))

-- which it is up to Q, where it is at least C
pub supply_below_critical : (e c j q n room : ℕ) →
    room ≡ j - n →
    q < j →
    e ≤ c →
    n ≤ q →
    supply e c j q n ≡ min e room
supply_below_critical e c j q n room is pos low h =
    let wider : j - q ≤ room = omega arith in
    supply_by_entrance e c j q n room is pos (mul-le-mul low wider)

-- above Q the quotient is at most C
pub quotient_most : (c j q n room : ℕ) → room ≡ j - n → q < j → q < n → c * room / (j - q) ≤ c
quotient_most c j q n room is pos h =
    let d = div-lt_iff_lt-mul {k = j - q} {x = c * room} {y = suc c} (omega arith) in
    let l : c * room ≤ c * (j - q) = mul-le-mul_left c (omega arith) in
    omega (arith, d.1 (omega arith))

-- with fewer parts than easy the room is at least C too, and P is E
pub supply_easy : (e c j q n : ℕ) → q < j → e ≤ c → n < easy_below j q c → supply e c j q n ≡ e
unfolding easy_below
supply_easy e c j q n pos low h = by_jam (ltb j c) refl h
  where
    by_jam : (t : Bool) → ltb j c ≡ t → n < (if t then 0 else min q (j - c) + 1) → supply e c j q n ≡ e
    by_jam true _ l = absurd (omega arith)
    by_jam false b l = supply_below_critical e c j q n (j - n) refl pos low (omega arith) ∙ omega (arith, ltb-false j c b)

-- ---- f and r where both wishes fit: all enter, and of each no more than wish to
pub both_fit : (p n m w : ℕ) → m + w ≤ p → (main_flow m p (ramp_flow p n m w) ≡ m) × (ramp_flow p n m w ≡ w)
both_fit p n m w h =
    let all = merge_exact p n m w in
    let main = main_flow_most m p (ramp_flow p n m w) in
    let ramp = ramp_flow_most p n m w in
    (omega (arith, all, main, ramp), omega (arith, all, main, ramp))
