-- The verdicts, by the tests that the code makes; and back, what a verdict says.
use Prim.Native.Nat.{ℕ, zero, suc, ◌-◌, ◌≤◌, ◌<◌}
use mathlib.Core.Bool.{Bool, true, false, ◌||◌}
use mathlib.Core.Path.{◌≡◌, refl}
use mathlib.Core.List.{List}
use native.Mathlib.Omega.{arith}
use lib.ListN.{length}
use lib.Dec.{leb, ltb, eqb}
use borrow.Author.Tests.{le-leb, lt-leb, le-ltb, eq-eqb, ne_eqb, leb-false, ltb-false}
use Rattle.std.specs.Prelude.{if◌then◌else◌}
use Rattle.numbers.specs.Row.{Rows}
use Rattle.conditions.specs.Conditions.{segments}
use Rattle.facility.specs.Verdicts.{GoesOn, RefusedBy, Taking, SameSheet, NotTaken, as_read, outside, unfinished, repeat_verdict, take_verdict, run_verdict, report_verdict, period_verdict}

-- a call goes on where its check is passed
pub passed : (x : Bool) (number : ℕ) → GoesOn ≡ (if x then GoesOn else RefusedBy number) → x ≡ true
passed true number e = refl
passed false number e = absurd (let z : ◌≡◌ {A = ℕ} 0 1 = cc in omega arith)

nonzero : (n : ℕ) → eqb n 0 ≡ false → 0 < n
nonzero zero e = absurd (let z : ◌≡◌ {A = ℕ} 0 1 = cc in omega arith)
nonzero (suc n) e = omega arith

-- ---- taking a sheet
module _ (read : List ℕ → Rows) (taken made : ℕ) (bytes : List ℕ) where
  pub take_full : unfinished taken made ≡ false → 96 ≤ taken → take_verdict read taken made bytes ≡ NotTaken 13 0
  unfolding take_verdict
  take_full u h = rw (u, le-leb _ _ h)

  -- a sheet that has bytes is read
  pub take_reads : unfinished taken made ≡ false → taken < 96 → 0 < length bytes → take_verdict read taken made bytes ≡ as_read (read bytes)
  unfolding take_verdict
  take_reads u h some = rw (u, lt-leb _ _ h, ne_eqb (length bytes) 0 (λ e. omega (arith, some)))

  -- the verdict has P if each that the table can give has it: the three refusals; the same sheet and the reading, where neither 12 nor 13 holds
  pub take_cases : (P : Taking → Type 0) → P (NotTaken 12 0) → P (NotTaken 13 0) → P (NotTaken 10 0)
      → (unfinished taken made ≡ false → taken < 96 → 0 < taken → P SameSheet)
      → (unfinished taken made ≡ false → taken < 96 → P (as_read (read bytes)))
      → P (take_verdict read taken made bytes)
  unfolding take_verdict repeat_verdict
  take_cases P twelve thirteen ten same reads = checked (unfinished taken made) (leb 96 taken) refl refl
    where
      repeated : (x : Bool) → unfinished taken made ≡ false → taken < 96 → eqb taken 0 ≡ x → P (if x then NotTaken 10 0 else SameSheet)
      repeated true idle room e = ten
      repeated false idle room e = same idle room (nonzero taken e)

      given : (x : Bool) → unfinished taken made ≡ false → taken < 96
          → P (if x then (if eqb taken 0 then NotTaken 10 0 else SameSheet) else as_read (read bytes))
      given true idle room = repeated (eqb taken 0) idle room refl
      given false idle room = reads idle room

      checked : (x y : Bool) → unfinished taken made ≡ x → leb 96 taken ≡ y
          → P (if x then NotTaken 12 0 else if y then NotTaken 13 0
          else if eqb (length bytes) 0 then (if eqb taken 0 then NotTaken 10 0 else SameSheet) else as_read (read bytes))
      checked true y idle room = twelve
      checked false true idle room = thirteen
      checked false false idle room = given (eqb (length bytes) 0) idle (leb-false _ _ room)

-- ---- running
module _ (taken made k : ℕ) where
  module _ (l : 1 ≤ k) (m : k ≤ 60) where
    pub run_goes : (taken ≡ 0 → ⊥) → k ≤ 60 - made → run_verdict taken made k ≡ GoesOn
    unfolding run_verdict
    run_goes n s = rw (le-ltb k 1 l, le-ltb 60 k m, ne_eqb _ _ n, le-ltb (60 - made) k s)

  goes_by : (x y z : Bool) → eqb taken 0 ≡ y → ltb (60 - made) k ≡ z
      → (if x then RefusedBy 5 else if y then RefusedBy 10 else if z then RefusedBy 11 else GoesOn) ≡ GoesOn → (0 < taken) × (k ≤ 60 - made)
  goes_by true y z q r e = absurd (let z : ◌≡◌ {A = ℕ} 0 1 = cc in omega arith)
  goes_by false true z q r e = absurd (let z : ◌≡◌ {A = ℕ} 0 1 = cc in omega arith)
  goes_by false false true q r e = absurd (let z : ◌≡◌ {A = ℕ} 0 1 = cc in omega arith)
  goes_by false false false q r e = (nonzero taken q, ltb-false _ _ r)

  -- a run is made only under a sheet with k steps left
  pub run_accepted : run_verdict taken made k ≡ GoesOn → (0 < taken) × (k ≤ 60 - made)
  unfolding run_verdict
  run_accepted e = goes_by (outside 1 60 k) (eqb taken 0) (ltb (60 - made) k) refl refl e

  run_named_by : (x y z : Bool) (e : ℕ)
      → (if x then RefusedBy 5 else if y then RefusedBy 10 else if z then RefusedBy 11 else GoesOn) ≡ RefusedBy e → 1 ≤ e
  run_named_by true y z e q = let n : 5 ≡ e = cc in omega arith
  run_named_by false true z e q = let n : 10 ≡ e = cc in omega arith
  run_named_by false false true e q = let n : 11 ≡ e = cc in omega arith
  run_named_by false false false e q = absurd (let z : ◌≡◌ {A = ℕ} 0 1 = cc in omega arith)

  pub run_named : (e : ℕ) → run_verdict taken made k ≡ RefusedBy e → 1 ≤ e
  unfolding run_verdict
  run_named e q = run_named_by (outside 1 60 k) (eqb taken 0) (ltb (60 - made) k) e q

-- ---- a report
module _ (road : List ℕ) (i : ℕ) where
  pub report_goes : 1 ≤ i → i ≤ segments road → report_verdict road i ≡ GoesOn
  unfolding report_verdict
  report_goes l h = rw (le-ltb i 1 l, le-ltb (segments road) i h)

  report_named_by : (x : Bool) (e : ℕ) → (if x then RefusedBy 6 else GoesOn) ≡ RefusedBy e → 1 ≤ e
  report_named_by true e q = let n : 6 ≡ e = cc in omega arith
  report_named_by false e q = absurd (let z : ◌≡◌ {A = ℕ} 0 1 = cc in omega arith)

  pub report_named : (e : ℕ) → report_verdict road i ≡ RefusedBy e → 1 ≤ e
  unfolding report_verdict
  report_named e q = report_named_by (outside 1 (segments road) i) e q

  report_accepted_by : (x y : Bool) → ltb i 1 ≡ x → ltb (segments road) i ≡ y → (if x || y then RefusedBy 6 else GoesOn) ≡ GoesOn
      → (1 ≤ i) × (i ≤ segments road)
  report_accepted_by true y p q e = absurd (let z : ◌≡◌ {A = ℕ} 0 1 = cc in omega arith)
  report_accepted_by false true p q e = absurd (let z : ◌≡◌ {A = ℕ} 0 1 = cc in omega arith)
  report_accepted_by false false p q e = (ltb-false i 1 p, ltb-false (segments road) i q)

  -- a report is made only of a segment of the road
  pub report_accepted : report_verdict road i ≡ GoesOn → (1 ≤ i) × (i ≤ segments road)
  unfolding report_verdict
  report_accepted e = report_accepted_by (ltb i 1) (ltb (segments road) i) refl refl e

-- ---- writing the period
pub period_none : (taken : ℕ) → taken ≡ 0 → period_verdict taken ≡ RefusedBy 10
unfolding period_verdict
period_none taken z = rw (eq-eqb _ _ z)
