-- Rows of one width: where each stands among the joined ones, and one row more put into its place.
use Rattle.std.proofs.Common.{◌≡◌, ℕ, zero, suc, ◌+◌, ◌*◌, ◌≤◌, ◌<◌, refl, sym, ap, ◌∙◌, List, [], ◌∷◌, ◌++◌, length, take, drop, get_or, arith, append-nil}
use Rattle.std.proofs.lemmas.List.{take-append-drop, take_all, drop_all, length-append}
use Rattle.std.proofs.Math.Nat.{mul-suc, mul-zero}
use Rattle.std.proofs.Math.Seq.{drop-append-add, take-append_seam, take-append-add}
use mathlib.Core.List.{append_assoc}
use lib.Seq.{drop-drop, length-take-le}
use Rattle.numbers.proofs.Stores.{stored_to}
use Rattle.exports.specs.Rows.{joined, put_row}

-- a row of w in its place, where the numbers before it are those of w
pub row_more : (w d row rest : List ℕ) (k : ℕ) → k ≤ length w → drop k w ≡ row ++ rest → put_row row (stored_to w d k) k ≡ stored_to w d (k + length row)
unfolding put_row
row_more w d row rest k h e =
    let n = length row in
    let front : length (take k w) ≡ k = length-take-le k w h in
    let before = rw front at (take-append_seam (take k w) (drop k d)) in
    let behind = rw front at (drop-append-add (take k w) (drop k d) n) ∙ drop-drop n k d in
    let more : take (k + n) w ≡ take k w ++ row =
    ap (take (k + n)) (sym (take-append-drop k w)) ∙ rw front at (take-append-add (take k w) (drop k w) n)
    ∙ ap (λ (l : List ℕ). take k w ++ l) (ap (take n) e ∙ take-append_seam row rest) in
    rw (before, behind, more, append_assoc)

-- a row in front of the numbers
pub in_front : (row numbers : List ℕ) (n : ℕ) → length row ≡ n → put_row row numbers 0 ≡ row ++ drop n numbers
unfolding put_row
in_front row numbers n e = let many : 0 + length row ≡ n = omega (arith, e) in rw many

-- all of w, where it fills what it is put into
pub stored_all : (w d : List ℕ) (n : ℕ) → length w ≡ n → length d ≡ n → stored_to w d n ≡ w
stored_all w d n e f = rw (take_all n w (omega (arith, e)), drop_all n d (omega (arith, f))) (append-nil w)

module _ {A : Type 0} (row : A → List ℕ) (width : ℕ) (even : (x : A) → length (row x) ≡ width) where
  pub joined_length : (xs : List A) → length (joined row xs) ≡ width * length xs
  unfolding joined
  joined_length [] = sym (mul-zero width)
  joined_length (x ∷ xs) = rw (length-append (row x) (joined row xs), even x, joined_length xs, mul-suc) (omega arith)

  -- the rows from the i-th on
  rows_from : (xs : List A) (i : ℕ) (d : A) → i < length xs → drop (width * i) (joined row xs) ≡ row (get_or xs i d) ++ joined row (drop (suc i) xs)
  unfolding joined
  rows_from [] i d h = absurd (omega arith)
  rows_from (x ∷ xs) zero d h = rw (mul-zero width) refl
  rows_from (x ∷ xs) (suc i) d h =
      let behind : width * suc i ≡ length (row x) + width * i = omega (arith, mul-suc width i, even x) in
      rw (behind, drop-append-add (row x) (joined row xs) (width * i)) (rows_from xs i d (omega arith))

  -- a row more, behind a head, where the rows before it stand in their places
  pub rows_more : (head : List ℕ) (xs : List A) (into : List ℕ) (k i : ℕ) (d : A) → i < length xs → k ≡ length head + width * i
      → k ≤ length (head ++ joined row xs)
      → put_row (row (get_or xs i d)) (stored_to (head ++ joined row xs) into k) k ≡ stored_to (head ++ joined row xs) into (k + width)
  rows_more head xs into k i d h e fits =
      let w = head ++ joined row xs in
      let r = row (get_or xs i d) in
      let next : drop k w ≡ r ++ joined row (drop (suc i) xs) = rw e (drop-append-add head (joined row xs) (width * i) ∙ rows_from xs i d h) in
      row_more w into r _ k fits next ∙ ap (λ (n : ℕ). stored_to w into (k + n)) (even (get_or xs i d))
