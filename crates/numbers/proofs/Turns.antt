-- Laws of the reader's loop: what the byte at i says of the number that starts there, and what the weights leave room for.
use mathlib.Core.Path.{◌≡◌, refl, sym, ap, ◌∙◌}
use Prim.Native.Nat.{ℕ, zero, suc, ◌+◌, ◌-◌, ◌*◌, ◌^◌, ◌≤◌, ◌<◌}
use mathlib.Core.List.{List, ◌∷◌}
use native.Mathlib.Nat.{zero-add, one-mul, mul-add, add_assoc, mul_assoc, mul-le-mul_left, mul-one}
use native.Mathlib.Numerals.{add-one, sub-one}
use native.Mathlib.Omega.{arith}
use borrow.Author.Tests.{le-ltb, lt-ltb}
use lib.ListN.{drop, length, get_or, drop_of_length-le}
use lib.Seq.{drop-cons}
use Rattle.numbers.specs.Number.{Reading, Read, Refused, last, more, groups, placed, above}

-- the values of at most k groups after the first are below this
unfoldable pub top : ℕ → ℕ
top zero = 16
top (suc k) = 128 * top k

pub above_start : (at : ℕ) (r : Reading) → placed at r ≡ above 0 1 at r
unfolding placed above
above_start at (Read w n) = simp (zero-add, one-mul)
above_start at (Refused e) = refl

pub above_more : (v sc i g : ℕ) (r : Reading) → above v sc i (more g r) ≡ above (v + sc * g) (sc * 128) (i + 1) r
unfolding above more
above_more v sc i g (Read w n) = simp (mul-add, mul_assoc, add_assoc)
above_more v sc i g (Refused e) = refl

pub read_end : (k least : ℕ) (s : List ℕ) (i : ℕ) → length s ≤ i → groups k least (drop i s) ≡ Refused 1
unfolding groups
read_end k least s i h = rw (drop_of_length-le s h)

-- b is the byte at i
abbrev pub ByteAt : List ℕ → ℕ → ℕ → Type 0
ByteAt s i b = (i < length s) × (b ≡ get_or s i 0)

-- what `get` says of it, and its conversion
pub byte_at : (s : List ℕ) (i byte b : ℕ) → (i < length s) × ((d : ℕ) → byte ≡ get_or s i d) → b ≡ byte → ByteAt s i b
byte_at s i byte b h e = (h.0, e ∙ h.1 0)

module _ (least : ℕ) (s : List ℕ) (i b : ℕ) (here : ByteAt s i b) where
  from_here : drop i s ≡ b ∷ drop (i + 1) s
  from_here = rw (here.1, drop-cons s i 0 here.0, add-one i)

  pub read_wide : (k : ℕ) → k ≡ 0 → 15 < b → groups k least (drop i s) ≡ Refused 2
  unfolding groups
  read_wide k z h = rw (z, from_here, lt-ltb _ _ h)

  pub read_fifth : (k : ℕ) → k ≡ 0 → b ≤ 15 → groups k least (drop i s) ≡ last least b
  unfolding groups
  read_fifth k z h = rw (z, from_here, le-ltb _ _ h)

  pub read_last : (k : ℕ) → (k ≡ 0 → ⊥) → b < 128 → groups k least (drop i s) ≡ last least b
  unfolding groups
  read_last zero nz h = absurd (nz refl)
  read_last (suc k) nz h = rw (from_here, lt-ltb _ _ h)

  pub read_more : (k : ℕ) → (k ≡ 0 → ⊥) → 128 ≤ b → groups k least (drop i s) ≡ more (b - 128) (groups (k - 1) 1 (drop (i + 1) s))
  unfolding groups
  read_more zero nz h = absurd (nz refl)
  read_more (suc k) nz h = rw (from_here, le-ltb _ _ h, sub-one)

-- what the weights leave room for
pub top_more : (k : ℕ) → (k ≡ 0 → ⊥) → top k ≡ 128 * top (k - 1)
unfolding top
top_more zero nz = absurd (nz refl)
top_more (suc k) nz = rw sub-one

pub top_least : (k : ℕ) → 16 ≤ top k
unfolding top
top_least zero = omega arith
top_least (suc k) = omega (arith, top_least k)

pub top_wide : (k : ℕ) → (k ≡ 0 → ⊥) → 2048 ≤ top k
top_wide k nz = omega (arith, top_more k nz, top_least (k - 1))

pub group_fits : (v sc b m : ℕ) → v < sc → b < m → v + sc * b < sc * m
group_fits v sc b m hv hb =
    let h : b + 1 ≤ m = omega arith in
    omega (arith, mul-le-mul_left sc h, mul-add sc b 1, mul-one sc)

-- v of the groups so far, the next group's weight sc, and at most k groups after it: the whole stays below 2 ^ 32
module _ (v sc k : ℕ) (below : v < sc) (room : sc * top k ≡ 2 ^ 32) where
  pub fifth_fits : (b : ℕ) → k ≡ 0 → b ≤ 15 → v + sc * b < 2 ^ 32
  unfolding top
  fifth_fits b z h =
      let e : top k ≡ 16 = ap top z in
      let e16 : sc * 16 ≡ 2 ^ 32 = sym (ap (◌*◌ sc) e) ∙ room in
      omega (arith, group_fits v sc b 16 below (omega arith))

  pub scale_fits : (k ≡ 0 → ⊥) → sc * 128 < 2 ^ 32
  scale_fits nz = omega (arith, mul-le-mul_left sc (top_wide k nz))

  pub group_below : (b : ℕ) → b < 128 → v + sc * b < sc * 128
  group_below b h = group_fits v sc b 128 below h

  pub room_more : (k ≡ 0 → ⊥) → sc * 128 * top (k - 1) ≡ 2 ^ 32
  room_more nz = mul_assoc _ _ _ ∙ sym (ap (◌*◌ sc) (top_more k nz)) ∙ room
