-- The largest number up to a bound that passes a test: what is known of it.
use Prim.Native.Nat.{ℕ, zero, suc, ◌≤◌, ◌<◌, min}
use mathlib.Core.Bool.{Bool, true, false}
use mathlib.Core.Path.{◌≡◌, refl, sym, ◌∙◌}
use mathlib.Core.Logic.{◌↔◌}
use native.Mathlib.Omega.{arith}
use lib.Dec.{leb}
use borrow.Author.Tests.{leb-true, leb-false, le-leb, lt-leb}
use Rattle.std.specs.Prelude.{if◌then◌else◌}
use Rattle.std.proofs.lemmas.Bool.Decides.{same_from_decides}
use Rattle.rules.specs.Rules.{largest}

-- ---- of any test
chosen_most : (b x : ℕ) (t : Bool) → x ≤ b → (if t then suc b else x) ≤ suc b
chosen_most b x true h = omega arith
chosen_most b x false h = omega arith

pub largest_most : (p : ℕ → Bool) (b : ℕ) → largest p b ≤ b
unfolding largest
largest_most p zero = omega arith
largest_most p (suc b) = chosen_most b (largest p b) (p (suc b)) (largest_most p b)

chosen_passes : (p : ℕ → Bool) (a b : ℕ) (t : Bool) → p a ≡ t → p b ≡ true → p (if t then a else b) ≡ true
chosen_passes p a b true e h = e
chosen_passes p a b false e h = h

-- where zero passes, it passes
pub largest_passes : (p : ℕ → Bool) (b : ℕ) → p 0 ≡ true → p (largest p b) ≡ true
unfolding largest
largest_passes p zero h = h
largest_passes p (suc b) h = chosen_passes p (suc b) (largest p b) (p (suc b)) refl (largest_passes p b h)

-- where the bound passes, it is the bound
pub largest_whole : (p : ℕ → Bool) (b : ℕ) → p b ≡ true → largest p b ≡ b
unfolding largest
largest_whole p zero h = refl
largest_whole p (suc b) h = rw h

-- ---- of a test that is a bound
one_more : (b m : ℕ) (t : Bool) → leb (suc b) m ≡ t → (if t then suc b else min b m) ≡ min (suc b) m
one_more b m true e = omega (arith, leb-true (suc b) m e)
one_more b m false e = omega (arith, leb-false (suc b) m e)

-- where the test says that y is at most m, it is the lesser of the bound and m
largest_min : (p : ℕ → Bool) (m b : ℕ) → ((y : ℕ) → p y ≡ leb y m) → largest p b ≡ min b m
unfolding largest
largest_min p m zero h = omega arith
largest_min p m (suc b) h = rw (h (suc b), largest_min p m b h) (one_more b m (leb (suc b) m) refl)

-- where a function is at most f just up to m, and above f at the bound, it is m
pub largest_bound : (g : ℕ → ℕ) (f m b : ℕ) → ((y : ℕ) → (g y ≤ f) ↔ (y ≤ m)) → f < g b → largest (λ y. leb (g y) f) b ≡ m
largest_bound g f m b bound h =
    let same : (y : ℕ) → leb (g y) f ≡ leb y m =
    λ y. same_from_decides _ _ (λ e. (bound y).0 (leb-true (g y) f e), λ l. le-leb (g y) f ((bound y).1 l)) (leb-true y m, le-leb y m) in
    omega (arith, largest_min (λ y. leb (g y) f) m b same, leb-false b m (sym (same b) ∙ lt-leb (g b) f h))

-- ---- of a test by a function that starts at zero and rises by at most one
reaches : (g : ℕ → ℕ) (f b x : ℕ) (t : Bool) →
    leb (g (suc b)) f ≡ t →
    f ≤ g (suc b) →
    g (suc b) ≤ suc (g b) →
    (f ≤ g b → g x ≡ f) →
    g (if t then suc b else x) ≡ f
reaches g f b x true e h s r = omega (arith, leb-true (g (suc b)) f e)
reaches g f b x false e h s r = r (omega (arith, leb-false (g (suc b)) f e))

-- such a function takes each value up to its last
pub largest_reaches : (g : ℕ → ℕ) (f b : ℕ) →
    g 0 ≡ 0 →
    ((y : ℕ) → g (suc y) ≤ suc (g y)) →
    f ≤ g b →
    g (largest (λ y. leb (g y) f) b) ≡ f
unfolding largest
largest_reaches g f zero z s h = omega arith
largest_reaches g f (suc b) z s h =
    reaches g f b (largest (λ y. leb (g y) f) b) (leb (g (suc b)) f) refl h (s b) (largest_reaches g f b z s)
