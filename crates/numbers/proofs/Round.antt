-- A number written and read is the same number, wherever it stands; a number read and written is the bytes that its reading used.
use mathlib.Core.Path.{◌≡◌, refl, sym, ap, ◌∙◌}
use mathlib.Core.Bool.{Bool, true, false}
use Prim.Native.Nat.{ℕ, zero, suc, ◌+◌, ◌-◌, ◌*◌, ◌/◌, ◌%◌, ◌^◌, ◌≤◌, ◌<◌}
use mathlib.Core.List.{List, [], ◌∷◌, ◌++◌}
use native.Mathlib.Numerals.{one-add}
use native.Mathlib.Omega.{arith}
use borrow.Author.Tests.{le-ltb, ltb-true, ltb-false}
use lib.ListN.{drop, take, length}
use lib.Dec.{ltb}
use lib.Seq.{drop-append_seam, get_or-drop}
use Rattle.std.specs.Prelude.{if◌then◌else◌}
use Rattle.numbers.specs.Number.{Reading, Read, Refused, last, more, groups, placed, read_number, low_group, bytes_from, number_bytes, Bytes}
use Rattle.numbers.proofs.Turns.{top, top_least}
use Rattle.numbers.proofs.Stores.{bytes_last}

-- ---- what was written is read back

abbrev Reads : ℕ → ℕ → ℕ → List ℕ → Type 0
Reads k least v rest = groups k least (bytes_from k v ++ rest) ≡ Read v (length (bytes_from k v))

written_more : (k least v : ℕ) (rest : List ℕ) → least ≤ v → v < top (suc k)
    → (1 ≤ v / 128 → v / 128 < top k → Reads k 1 (v / 128) rest)
    → (t : Bool) → ltb v 128 ≡ t → Reads (suc k) least v rest
unfolding groups bytes_from last more top
written_more k least v rest h l ih true e = rw (e, e, le-ltb v least h)
written_more k least v rest h l ih false e =
    let big : 128 ≤ v = ltb-false _ _ e in
    let g : 128 + v % 128 - 128 + 128 * (v / 128) ≡ v = omega arith in
    rw (e, le-ltb (128 + v % 128) 128 (omega arith), ih (omega arith) (omega arith), g, one-add)

written_groups : (k least v : ℕ) (rest : List ℕ) → least ≤ v → v < top k → Reads k least v rest
unfolding groups bytes_from last top
written_groups zero least v rest h l = rw (le-ltb 15 v (omega arith), le-ltb v least h)
written_groups (suc k) least v rest h l = written_more k least v rest h l (written_groups k 1 (v / 128) rest) (ltb v 128) refl

-- a number's bytes, wherever they stand, read as that number
pub written_reads : (v : ℕ) (before rest : List ℕ) → v < 2 ^ 32
    → read_number (before ++ (number_bytes v ++ rest)) (length before) ≡ Read v (length before + length (number_bytes v))
unfolding read_number number_bytes top placed
written_reads v before rest h = rw (drop-append_seam, written_groups 4 0 v rest (omega arith) h)

-- ---- what was read is the shortest form of its value

last_back : (least b v n : ℕ) (t : Bool) → ltb b least ≡ t → (if t then Refused 3 else Read b 1) ≡ Read v n → (b ≡ v) × (1 ≡ n) × (least ≤ b)
last_back least b v n true e r = absurd (let z : ◌≡◌ {A = ℕ} 0 1 = cc in omega arith)
last_back least b v n false e r = (cc, cc, ltb-false _ _ e)

more_back : (g : ℕ) (r : Reading) (v n : ℕ) → more g r ≡ Read v n → (w : ℕ) × (m : ℕ) × (r ≡ Read w m) × (g + 128 * w ≡ v) × (1 + m ≡ n)
unfolding more
more_back g (Read w m) v n e = (w, m, refl, cc, cc)
more_back g (Refused x) v n e = absurd (let z : ◌≡◌ {A = ℕ} 0 1 = cc in omega arith)

-- n bytes of bs are the shortest form of v, which k more groups can hold
abbrev Back : ℕ → ℕ → List ℕ → ℕ → ℕ → Type 0
Back k least bs v n = (take n bs ≡ bytes_from k v) × (least ≤ v) × (v < top k) × (n ≡ length (bytes_from k v))

last_group : (k least b : ℕ) (bs : List ℕ) (v n : ℕ) → b < 128 → b < top k → last least b ≡ Read v n → Back k least (b ∷ bs) v n
unfolding last
last_group k least b bs v n small fits r =
    let l = last_back least b v n (ltb b least) refl r in
    let e : take 1 (b ∷ bs) ≡ bytes_from k b = sym (bytes_last k b small) in
    (rw (← l.0, ← l.1) e, omega arith, omega arith, rw (← l.0, ← l.1, bytes_last k b small))

more_group : (k least b : ℕ) (bs : List ℕ) (v n : ℕ) → least ≤ 1 → b < 256 → 128 ≤ b
    → ((w m : ℕ) → groups k 1 bs ≡ Read w m → Back k 1 bs w m)
    → more (b - 128) (groups k 1 bs) ≡ Read v n → Back (suc k) least (b ∷ bs) v n
unfolding bytes_from top
more_group k least b bs v n le small big ih r =
    let m = more_back (b - 128) (groups k 1 bs) v n r in
    let h = ih m.0 m.1 m.2 in
    let low : 128 ≤ v = omega (arith, m.3, h.1) in
    let gb : 128 + v % 128 ≡ b = omega (arith, m.3) in
    let wv : v / 128 ≡ m.0 = omega (arith, m.3) in
    (rw (← m.4, one-add, le-ltb v 128 low, gb, wv, h.0), omega arith, omega (arith, m.3, h.2), rw (← m.4, one-add, le-ltb v 128 low, wv, ← h.3))

fifth_group : (least b : ℕ) (bs : List ℕ) (v n : ℕ) (t : Bool) → ltb 15 b ≡ t → (if t then Refused 2 else last least b) ≡ Read v n → Back 0 least (b ∷ bs) v n
unfolding top
fifth_group least b bs v n true e r = absurd (let z : ◌≡◌ {A = ℕ} 0 1 = cc in omega arith)
fifth_group least b bs v n false e r = last_group 0 least b bs v n (omega (arith, ltb-false)) (omega (arith, ltb-false)) r

one_group : (k least b : ℕ) (bs : List ℕ) (v n : ℕ) → least ≤ 1 → b < 256
    → ((w m : ℕ) → groups k 1 bs ≡ Read w m → Back k 1 bs w m)
    → (t : Bool) → ltb b 128 ≡ t → (if t then last least b else more (b - 128) (groups k 1 bs)) ≡ Read v n → Back (suc k) least (b ∷ bs) v n
unfolding top
one_group k least b bs v n le small ih true e r = last_group (suc k) least b bs v n (ltb-true _ _ e) (omega (arith, ltb-true, top_least k)) r
one_group k least b bs v n le small ih false e r = more_group k least b bs v n le small (ltb-false _ _ e) ih r

groups_back : (k least : ℕ) (bs : List ℕ) (v n : ℕ) → least ≤ 1 → Bytes bs → groups k least bs ≡ Read v n → Back k least bs v n
unfolding groups
groups_back k least [] v n le by r = absurd (let z : ◌≡◌ {A = ℕ} 0 1 = cc in omega arith)
groups_back zero least (b ∷ bs) v n le by r = fifth_group least b bs v n (ltb 15 b) refl r
groups_back (suc k) least (b ∷ bs) v n le by r =
    one_group k least b bs v n le (by 0) (λ w m. groups_back k 1 bs w m (omega arith) (λ i. by (suc i))) (ltb b 128) refl r

placed_back : (at : ℕ) (r : Reading) (v next : ℕ) → placed at r ≡ Read v next → (n : ℕ) × (r ≡ Read v n) × (next ≡ at + n)
unfolding placed
placed_back at (Read w n) v next e = (n, cc, cc)
placed_back at (Refused x) v next e = absurd (let z : ◌≡◌ {A = ℕ} 0 1 = cc in omega arith)

-- what was read, written again, is the bytes that were read; and the value fits
pub read_writes : (s : List ℕ) (at v next : ℕ) → Bytes s → read_number s at ≡ Read v next
    → (take (next - at) (drop at s) ≡ number_bytes v) × (v < 2 ^ 32) × (next ≡ at + length (number_bytes v))
unfolding read_number number_bytes top
read_writes s at v next by r =
    let p = placed_back at (groups 4 0 (drop at s)) v next r in
    let h = groups_back 4 0 (drop at s) v p.0 (omega arith) (λ i. rw get_or-drop (by (at + i))) p.1 in
    let e : next - at ≡ p.0 = omega (arith, p.2) in
    (rw (e, h.0), h.2, p.2 ∙ ap (◌+◌ at) h.3)

-- ---- written numbers are bytes
bytes_one : (b : ℕ) → b < 256 → Bytes (b ∷ [])
bytes_one b h zero = h
bytes_one b h (suc i) = omega arith

bytes_cons : (b : ℕ) (s : List ℕ) → b < 256 → Bytes s → Bytes (b ∷ s)
bytes_cons b s h t zero = h
bytes_cons b s h t (suc i) = t i

bytes_by : (k v : ℕ) → v < top (suc k) → (v / 128 < top k → Bytes (bytes_from k (v / 128))) → (t : Bool) → ltb v 128 ≡ t
    → Bytes (if t then v ∷ [] else low_group v ∷ bytes_from k (v / 128))
unfolding top
bytes_by k v h ih true t = bytes_one v (omega (arith, ltb-true v 128 t))
bytes_by k v h ih false t = bytes_cons (low_group v) (bytes_from k (v / 128)) (omega arith) (ih (omega arith))

bytes_below : (k v : ℕ) → v < top k → Bytes (bytes_from k v)
unfolding bytes_from top
bytes_below zero v h = bytes_one v (omega arith)
bytes_below (suc k) v h = bytes_by k v h (bytes_below k (v / 128)) (ltb v 128) refl

pub number_bytes_lem : (v : ℕ) → v < 2 ^ 32 → Bytes (number_bytes v)
unfolding number_bytes top
number_bytes_lem v h = bytes_below 4 v h

pub bytes_both : (xs ys : List ℕ) → Bytes xs → Bytes ys → Bytes (xs ++ ys)
bytes_both [] ys a b = b
bytes_both (x ∷ xs) ys a b = bytes_cons x (xs ++ ys) (a 0) (bytes_both xs ys (λ i. a (suc i)) b)
