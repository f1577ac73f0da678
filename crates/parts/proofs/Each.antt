-- A test of each number below one, by the library's `all`.
use Prim.Native.Nat.{ℕ, zero, suc, ◌+◌}
use native.Mathlib.Nat.{add-zero}
use native.Mathlib.Numerals.{add-one}
use native.Mathlib.Omega.{arith}
use mathlib.Core.Bool.{Bool, true, false, ◌&&◌, and-true, and_assoc}
use mathlib.Core.Path.{◌≡◌, sym, ◌∙◌}
use mathlib.Core.List.{List}
use denote.Param.Members.{Mut}
use Rattle.std.specs.Prelude.{Option}
use Rattle.std.specs.declared.ops.Range.{Range}
use Rattle.std.specs.Fn.{Called}
use Rattle.std.specs.Iterator.{YieldsThen}
use Rattle.std.specs.List.{FoldsTo, list_all, range_with_len}
use Rattle.std.specs.Option.{MatchOption}
use Rattle.std.proofs.iter.Yields.{nat_range_steps}
use Rattle.std.proofs.lemmas.Iterator.{YieldsList-from_range}
use Rattle.std.proofs.lemmas.Iterator.Search.{all_from_yields_List}
use Rattle.parts.specs.Allowed.{all_below}

-- the numbers below one, from a on
from_on : (p : ℕ → Bool) (a n : ℕ) → (all_below p a && list_all p (range_with_len a n)) ≡ all_below p (a + n)
unfolding all_below
from_on p a zero = rw (and-true, add-zero)
from_on p a (suc n) =
    let next : suc a + n ≡ a + suc n = omega arith in
    rw (add-one, ← next) (sym (and_assoc (all_below p a) (p a) (list_all p (range_with_len (suc a) n))) ∙ from_on p (suc a) n)

-- `all` over a range answers whether the test passes at each number in it
pub each_below : {F : Type 0} {g : Mut F (ℕ × Unit {0}) Bool} {s : Range ℕ} (test : ℕ → Bool) (n : ℕ) (u : Range ℕ) (f : F) (r : Bool)
    → (xs : List ℕ) × (o : Option ℕ) × (j : F) × YieldsThen nat_range_steps s xs o u × FoldsTo (λ p x q. Called g p (x, tt) true q) f xs j
    × MatchOption o (r ≡ true) (λ x. (r ≡ false) × ((h : F) × Called g j (x, tt) false h))
    → s ≡ record { start = 0; end = n }
    → ((x : ℕ) (b : Bool) (q : F) → Called g f (x, tt) b q → (q ≡ f) × (b ≡ test x))
    → r ≡ all_below test n
unfolding all_below
each_below test n u f r ran is answers =
    let whole : 0 + n ≡ n = omega arith in
    all_from_yields_List test u f r ran (YieldsList-from_range 0 n n is (omega arith)) answers ∙ rw whole at (from_on test 0 n)
