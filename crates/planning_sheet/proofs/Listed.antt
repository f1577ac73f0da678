-- One store of a loop that puts the values of g into a list, from the front.
use mathlib.Core.Path.{◌≡◌, ap, ◌∙◌}
use mathlib.Core.List.{List, [], ◌∷◌, ◌++◌, append_assoc, map, map-append}
use Prim.Native.Nat.{ℕ, ◌+◌, ◌-◌, ◌<◌}
use native.Mathlib.Nat.{zero-add}
use native.Mathlib.Numerals.{add-one}
use lib.ListN.{length, get_or, take, drop, set, replicate}
use lib.Seq.{take-suc-set, drop-cons, set_at}
use Rattle.std.proofs.lemmas.List.{drop-replicate, get_or_append_left}
use Rattle.std.proofs.lemmas.List.FromFn.{length-map-range_with_len, get_or-map-range_with_len, map-range_with_len_more}
use Rattle.planning_sheet.specs.Listing.{first, first_padded}

-- one value more
first_more : {A : Type 0} (g : ℕ → A) (i : ℕ) → first (i + 1) g ≡ first i g ++ (g i ∷ [])
unfolding first
first_more g i = map-range_with_len_more g 0 i i (zero-add i)

pub length_first : {A : Type 0} (g : ℕ → A) (n : ℕ) → length (first n g) ≡ n
unfolding first
length_first g n = length-map-range_with_len g 0 n

pub get_or-first : {A : Type 0} (g : ℕ → A) (n i : ℕ) (d : A) → i < n → get_or (first n g) i d ≡ g i
unfolding first
get_or-first g n i d h = get_or-map-range_with_len g 0 n i i d h (zero-add i)

-- the list t has the first i values, and v, the next, is stored
pub store_next : {A : Type 0} (g : ℕ → A) (i : ℕ) (xs t : List A) (v : A) → i < length xs → t ≡ first i g ++ drop i xs → v ≡ g i
    → set t i v ≡ first (i + 1) g ++ drop (i + 1) xs
store_next g i xs t v h e w =
    rw (e, w, drop-cons xs i (g i) h, set_at (first i g) _ _ (g i) i (length_first g i), first_more g i, append_assoc, add-one i)

-- the list is stored from the front, and v, the next, is stored
pub listed_more : {A B : Type 0} (f : A → B) (g : ℕ → B) (i : ℕ) (xs : List A) (v : A) → i < length xs → map f (take i xs) ≡ first i g → f v ≡ g i
    → map f (take (i + 1) (set xs i v)) ≡ first (i + 1) g
listed_more f g i xs v h e w = rw (first_more g i, add-one i, take-suc-set xs i v h, map-append f (take i xs) (v ∷ []), e, w)

pub padded_is : {A : Type 0} (m n : ℕ) (g : ℕ → A) (z : A) → first n g ++ drop n (replicate m z) ≡ first_padded m n g z
padded_is m n g z = ap (◌++◌ (first n g)) (drop-replicate n m z)

-- a value of a padded list
pub get_or-first_padded : {A : Type 0} (m n : ℕ) (g : ℕ → A) (z : A) (i : ℕ) (d : A) → i < n → get_or (first_padded m n g z) i d ≡ g i
get_or-first_padded m n g z i d h =
    get_or_append_left (first n g) (replicate (m - n) z) d i (rw (length_first g n) h) ∙ get_or-first g n i d h
