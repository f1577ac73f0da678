-- One turn of the running sum of demands.
use mathlib.Core.Path.{◌≡◌, refl, sym, ap, ◌∙◌}
use mathlib.Core.Bool.{Bool, true, false, false≢true}
use mathlib.Core.List.{List}
use mathlib.Core.Logic.{⊎_elim}
use Prim.Native.Nat.{ℕ, zero, suc, ◌+◌, ◌-◌, ◌≤◌, ◌<◌}
use native.Mathlib.Nat.{add-zero, sub-zero, eq-or-lt_of_le, le_of_suc-le-suc, not-suc-le-zero}
use native.Mathlib.Numerals.{add-one}
use native.Mathlib.Omega.{arith}
use lib.Dec.{leb}
use lib.IntN.{ℤ, pos, negsuc, neg_ℤ, ◌+ℤ◌, ◌-ℤ◌, nat_abs, +ℤ_assoc, +ℤ_comm}
use lib.ListN.{get_or}
use borrow.Author.Tests.{le-ltb, lt-ltb, le-leb, lt-leb, leb-true}
use Rattle.std.proofs.Math.Bool.{and-false, and-eq-true_iff}
use Rattle.std.specs.Prelude.{Option, Some, None, if◌then◌else◌}
use Rattle.sections.specs.Section.{SectionNumbers}
use Rattle.planning_sheet.specs.Sheet.{section_at}
use Rattle.demands.specs.Demand.{next_of, demand_of, allowed_demand, checked_of, all_within, demand_at}

-- ---- one difference of whole numbers
less_is : (a b : ℕ) → b ≤ a → pos a -ℤ pos b ≡ pos (a - b)
less_is a zero h = rw (add-zero, sub-zero)
less_is a (suc b) h = rw (le-ltb a (suc b) h)

less_below : (a b : ℕ) → a < b → checked_of (pos a -ℤ pos b) ≡ None
less_below a zero h = absurd (not-suc-le-zero h)
less_below a (suc b) h = rw (lt-ltb a (suc b) h)

swap : (x y z : ℤ) → x +ℤ y +ℤ z ≡ x +ℤ z +ℤ y
swap x y z = +ℤ_assoc x y z ∙ ap (◌+ℤ◌ x) (+ℤ_comm y z) ∙ sym (+ℤ_assoc x z y)

module _ (d : ℕ) (s : SectionNumbers) (carried : ℕ) where
  next_is : next_of (pos d) s carried ≡ pos (d + s.inflow + carried) -ℤ pos s.outflow
  next_is = swap (pos (d + s.inflow)) (neg_ℤ (pos s.outflow)) (pos carried)

  pub next_below : d + s.inflow + carried < s.outflow → None ≡ checked_of (next_of (pos d) s carried)
  next_below h = sym (ap checked_of next_is ∙ less_below _ _ h)

  pub next_above : s.outflow ≤ d + s.inflow + carried → 1000000 < d + s.inflow + carried - s.outflow → None ≡ checked_of (next_of (pos d) s carried)
  next_above l h = sym (ap checked_of (next_is ∙ less_is _ _ l) ∙ rw (lt-leb (d + s.inflow + carried - s.outflow) 1000000 h))

  pub next_within : s.outflow ≤ d + s.inflow + carried → d + s.inflow + carried - s.outflow ≤ 1000000
      → Some (d + s.inflow + carried - s.outflow) ≡ checked_of (next_of (pos d) s carried)
  next_within l h = sym (ap checked_of (next_is ∙ less_is _ _ l) ∙ rw (le-leb (d + s.inflow + carried - s.outflow) 1000000 h))

-- ---- a demand that was checked
within_by : (d v : ℕ) (t : Bool) → leb d 1000000 ≡ t → (if t then Some d else None) ≡ Some v → (pos d ≡ pos v) × (v ≤ 1000000)
within_by d v true p e =
    let q : d ≡ v = cc in
    (ap pos q, omega (arith, q, leb-true d 1000000 p))
within_by d v false p e = absurd cc

within_back : (z : ℤ) (v : ℕ) → checked_of z ≡ Some v → (z ≡ pos v) × (v ≤ 1000000)
within_back (pos d) v e = within_by d v (leb d 1000000) refl e
within_back (negsuc d) v e = absurd cc

outside_by : (d : ℕ) (t : Bool) → leb d 1000000 ≡ t → (if t then Some d else None) ≡ None → leb d 1000000 ≡ false
outside_by d true p e = absurd cc
outside_by d false p e = p

outside_back : (z : ℤ) → checked_of z ≡ None → allowed_demand z ≡ false
outside_back (pos d) e = outside_by d (leb d 1000000) refl e
outside_back (negsuc d) e = refl

-- ---- the sum
module _ (sections : List SectionNumbers) (carryover : List ℕ) where
  -- d is the sum of i sections, and none before it was outside
  pub record Sum (i d : ℕ) : Type 0 where
    pub is : demand_of sections carryover i ≡ pos d
    pub most : d ≤ 1000000
    pub fit : all_within sections carryover i ≡ true

  pub sum_start : Sum 0 0
  unfolding demand_of all_within
  sum_start = record { is = refl; most = omega arith; fit = refl }

  -- x is the next section, and r its demand, checked
  module _ (i d : ℕ) (s : Sum i d) (x : SectionNumbers) (here : x ≡ section_at sections i) (r : Option ℕ) (e : r ≡ checked_of (next_of (pos d) x (get_or carryover i 0))) where
    after : r ≡ checked_of (demand_of sections carryover (suc i))
    unfolding demand_of
    after = rw (s.is, ← here) e

    pub sum_more : (v : ℕ) → r ≡ Some v → Sum (i + 1) v × (v ≡ demand_at sections carryover i)
    unfolding all_within demand_at
    sum_more v w =
        let b = within_back (demand_of sections carryover (suc i)) v (sym after ∙ w) in (
          record {
            is = rw add-one b.0;
            most = b.1;
            fit = rw (add-one, s.fit, b.0, le-leb v 1000000 b.1);
          },
          rw b.0,
        )

    all_out : (m : ℕ) → i < m → allowed_demand (demand_of sections carryover (suc i)) ≡ false → all_within sections carryover m ≡ false
    unfolding all_within
    all_out zero h o = absurd (not-suc-le-zero h)
    all_out (suc m) h o =
        ⊎_elim
        (λ (q : i ≡ m). rw (rw q at o, and-false))
        (λ (l : i < m). rw (all_out m l o))
        (eq-or-lt_of_le (le_of_suc-le-suc h))

    pub sum_out : (n : ℕ) → i < n → r ≡ None → all_within sections carryover n ≡ false
    sum_out n h w = all_out n h (outside_back (demand_of sections carryover (suc i)) (sym after ∙ w))

  -- ---- a demand of sections whose demands are all within their bounds
  most : (z : ℤ) → allowed_demand z ≡ true → nat_abs z ≤ 1000000
  most (pos d) e = leb-true d 1000000 e
  most (negsuc d) e = absurd (false≢true e)

  each_most : (i m : ℕ) → i < m → all_within sections carryover m ≡ true → allowed_demand (demand_of sections carryover (suc i)) ≡ true
  unfolding all_within
  each_most i zero h e = absurd (not-suc-le-zero h)
  each_most i (suc m) h e =
      let b = (and-eq-true_iff (all_within sections carryover m) (allowed_demand (demand_of sections carryover (suc m)))).0 e in
      ⊎_elim (λ (q : i ≡ m). rw q b.1) (λ (l : i < m). each_most i m l b.0) (eq-or-lt_of_le (le_of_suc-le-suc h))

  pub demand_most : (i m : ℕ) → i < m → all_within sections carryover m ≡ true → demand_at sections carryover i ≤ 1000000
  unfolding demand_at
  demand_most i m h e = most (demand_of sections carryover (suc i)) (each_most i m h e)
