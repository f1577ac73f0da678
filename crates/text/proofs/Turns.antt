-- What the definitions say, by the tests that the code makes.
use Rattle.std.proofs.Common.{ℕ, ◌+◌, ◌-◌, ◌≤◌, ◌<◌, min, Bool, true, false, ◌&&◌, ◌≡◌, refl, ap, List, [], ◌∷◌, ◌++◌, length, get_or, take, drop, arith, Some, None, cond, Option, ◌∙◌, not, add-zero, ltb, unwrap_or, length-append, drop-drop}
use native.Mathlib.Numerals.{add-one}
use lib.ListN.{drop_of_length-le}
use lib.Seq.{drop-cons}
use lib.Dec.{eqb}
use borrow.Author.Tests.{ltb-false, eqb-true}
use Rattle.std.specs.List.{position_or_len}
use Rattle.std.proofs.lemmas.List.Sums.{prefix_len-le-length}
use Rattle.std.proofs.Math.Seq.{drop-append_seam, drop-append-add}
use lib.Pointwise.{pointwise}
use Rattle.text.specs.Text.{stops, first_from, word_starting, word_from, word_at, IsWord, IsNoWord, with_digit, number_from, same_word}

-- ---- the first byte that stops
pub first_is : (in_word : Bool) (at : ℕ) (s : List ℕ) → first_from in_word at s ≡ at + position_or_len (stops in_word) s
unfolding first_from
first_is in_word at [] = rw add-zero
first_is in_word at (b ∷ bs) = elim (stops in_word b) as (λ t. cond t at (first_from in_word (at + 1) bs) ≡ at + cond (not t) (1 + position_or_len (stops in_word) bs) 0)
    [ true ↦ rw add-zero | false ↦ first_is in_word (at + 1) bs ∙ omega arith ]

or_end : (t : Bool) (i n : ℕ) → (t ≡ false → n ≡ i) → unwrap_or (cond t (Some i) None) n ≡ i
or_end true i n e = refl
or_end false i n e = e refl

or_length : (p : ℕ → Bool) (s : List ℕ) → position_or_len p s ≤ length s → (r : Option ℕ) → r ≡ cond (ltb (position_or_len p s) (length s)) (Some (position_or_len p s)) None
    → unwrap_or r (length s) ≡ position_or_len p s
or_length p s within r found = rw found (or_end (ltb (position_or_len p s) (length s)) (position_or_len p s) (length s) (λ e. let h = ltb-false (position_or_len p s) (length s) e in omega arith))

pub first_or_end : (p : ℕ → Bool) (s : List ℕ) (r : Option ℕ) → r ≡ cond (ltb (position_or_len p s) (length s)) (Some (position_or_len p s)) None
    → (n : ℕ) → n ≡ unwrap_or r (length s) → (n ≡ position_or_len p s) × (n ≤ length s)
first_or_end p s r found n is =
    let within = prefix_len-le-length (λ x. not (p x)) s in
    let value : unwrap_or r (length s) ≡ position_or_len p s = or_length p s within r found in
    (is ∙ value, omega arith)

-- ---- the next word
module _ (front line : List ℕ) (p : ℕ) (ps : p ≡ position_or_len (stops false) line) (q : ℕ) (qs : q ≡ position_or_len (stops true) (drop p line)) where
  seam : (n : ℕ) → drop (length front + n) (front ++ line) ≡ drop n line
  seam n = drop-append-add front line n

  word_is : word_at (front ++ line) (length front) ≡ record { start = length front + p; end = length front + p + q }
  unfolding word_at word_from word_starting
  word_is =
      let at : min (length front) (length (front ++ line)) ≡ length front = rw length-append (omega arith) in
      let start : first_from false (length front) (drop (length front) (front ++ line)) ≡ length front + p = rw (drop-append_seam front line, first_is, ← ps) refl in
      let end : first_from true (length front + p) (drop (length front + p) (front ++ line)) ≡ length front + p + q = rw (seam p, first_is, ← qs) refl in
      rw (at, start, end) refl

  pub no_word : q ≡ 0 → IsNoWord (word_at (front ++ line) (length front))
  no_word z = rw (word_is, z, add-zero)

  pub some_word : (q ≡ 0 → ⊥) → (word : List ℕ) → word ≡ take q (drop p line) → (rest : List ℕ) → rest ≡ drop q (drop p line)
      → IsWord (front ++ line) (word_at (front ++ line) (length front)) word rest
  some_word some word w rest r =
      let count : length front + p + q - (length front + p) ≡ q = omega arith in
      let end : length front + p + q ≡ length front + (p + q) = omega arith in
      rw word_is (omega arith, w ∙ rw (count, seam p), r ∙ rw (end, seam (p + q), drop-drop))

-- ---- the number that a word says
number_by : (t : Bool) (n w : ℕ) (bs : List ℕ) → Some w ≡ cond t (Some n) None → cond t (number_from n bs) None ≡ number_from w bs
number_by true n w bs e = let same : w ≡ n = cc in rw same refl
number_by false n w bs e = absurd (cc)

number_not : (t : Bool) (n : ℕ) (bs : List ℕ) → None ≡ cond t (Some n) None → cond t (number_from n bs) None ≡ None
number_not true n bs e = absurd (cc)
number_not false n bs e = refl

pub number_end : (s : List ℕ) (i : ℕ) → length s ≤ i → (v : ℕ) → number_from v (drop i s) ≡ Some v
unfolding number_from
number_end s i h v = rw (drop_of_length-le s h) refl

module _ (s : List ℕ) (i : ℕ) (inside : i < length s) (v : ℕ) where
  pub number_more : (w : ℕ) → Some w ≡ with_digit v (get_or s i 0) → number_from v (drop i s) ≡ number_from w (drop (i + 1) s)
  unfolding number_from with_digit
  number_more w e = rw (drop-cons s i 0 inside, add-one i) (number_by _ _ w _ e)

  pub number_stops : None ≡ with_digit v (get_or s i 0) → number_from v (drop i s) ≡ None
  unfolding number_from with_digit
  number_stops e = rw (drop-cons s i 0 inside) (number_not _ _ _ e)

-- ---- two words
pub same_is : (a b : List ℕ) → pointwise eqb a b ≡ same_word a b
unfolding same_word
same_is [] [] = refl
same_is [] (y ∷ b) = refl
same_is (x ∷ a) [] = refl
same_is (x ∷ a) (y ∷ b) = ap (λ t. eqb x y && t) (same_is a b)

both : (a b : Bool) → (a && b) ≡ true → (a ≡ true) × (b ≡ true)
both true b e = (refl, e)
both false b e = absurd (cc)

pub same_true : (a b : List ℕ) → same_word a b ≡ true → a ≡ b
unfolding same_word
same_true [] [] e = refl
same_true [] (y ∷ b) e = absurd (cc)
same_true (x ∷ a) [] e = absurd (cc)
same_true (x ∷ a) (y ∷ b) e =
    let h = both (eqb x y) (same_word a b) e in
    let first : x ≡ y = eqb-true x y h.0 in
    let others : a ≡ b = same_true a b h.1 in
    cc
