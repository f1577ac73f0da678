-- Laws of the tests of a row.
use Prim.Native.Nat.{ℕ, zero, suc, ◌<◌}
use native.Mathlib.Nat.{eq-or-lt_of_le}
use native.Mathlib.Omega.{arith}
use borrow.Author.Tests.{leb-true, le-leb}
use mathlib.Core.Bool.{Bool, true, false, ◌&&◌, false≢true}
use mathlib.Core.Path.{◌≡◌, refl}
use mathlib.Core.Logic.{⊎_elim}
use mathlib.Core.List.{List}
use lib.ListN.{get_or}
use lib.Dec.{leb}
use Rattle.numbers.specs.declared.Range.{Range}
use Rattle.numbers.specs.Field.{In}
use Rattle.sheets.specs.declared.Layout.{Layout}
use Rattle.sheets.specs.Layout.{range_of, count_of}
use Rattle.parts.specs.Allowed.{within, all_below, allowed}

-- ---- laws of these tests
pub both : (a b : Bool) → (a && b) ≡ true → (a ≡ true) × (b ≡ true)
both true b e = (refl, e)
both false b e = absurd (false≢true e)

pub all_at : (p : ℕ → Bool) (k i : ℕ) → all_below p k ≡ true → i < k → p i ≡ true
unfolding all_below
all_at p zero i e h = absurd (omega arith)
all_at p (suc k) i e h =
    let b = both (all_below p k) (p k) e in
    ⊎_elim (λ q. rw q b.1) (λ l. all_at p k i b.0 l) (eq-or-lt_of_le {n = i} {m = k} (omega arith))

pub all_by : (p : ℕ → Bool) (k : ℕ) → ((i : ℕ) → i < k → p i ≡ true) → all_below p k ≡ true
unfolding all_below
all_by p zero h = refl
all_by p (suc k) h = rw (all_by p k (λ i l. h i (omega arith)), h k (omega arith))

pub within_in : (r : Range) (v : ℕ) → within r v ≡ true → In r v
unfolding within
within_in r v e =
    let b = both (leb r.low v) (leb v r.high) e in
    (leb-true _ _ b.0, leb-true _ _ b.1)

pub in_within : (r : Range) (v : ℕ) → In r v → within r v ≡ true
unfolding within
in_within r v i = rw (le-leb _ _ i.0, le-leb _ _ i.1)

pub allowed_at_lem : (l : Layout) (road row : List ℕ) (k : ℕ) → allowed l road row ≡ true → k < count_of l → In (range_of l road k) (get_or row k 0)
unfolding allowed
allowed_at_lem l road row k e h = within_in (range_of l road k) (get_or row k 0) (all_at (λ i. within (range_of l road i) (get_or row i 0)) (count_of l) k e h)

pub allowed_by : (l : Layout) (road row : List ℕ) → ((k : ℕ) → k < count_of l → In (range_of l road k) (get_or row k 0)) → allowed l road row ≡ true
unfolding allowed
allowed_by l road row h = all_by (λ i. within (range_of l road i) (get_or row i 0)) (count_of l) (λ k i. in_within (range_of l road k) (get_or row k 0) (h k i))
