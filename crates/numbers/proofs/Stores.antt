-- Laws of the writers: the bytes w go into d one by one, and one more of them is stored; a part that is lent comes back.
use mathlib.Core.Path.{◌≡◌, refl, sym, ap, ◌∙◌}
use Prim.Native.Nat.{ℕ, zero, suc, ◌+◌, ◌-◌, ◌/◌, ◌≤◌, ◌<◌}
use mathlib.Core.List.{List, [], ◌∷◌, ◌++◌, append_assoc}
use native.Mathlib.Numerals.{add-one, sub-one}
use native.Mathlib.Omega.{arith}
use borrow.Author.Tests.{le-ltb, lt-ltb}
use lib.ListN.{drop, take, set, length, get_or, length-drop}
use lib.Seq.{drop-cons, take-suc, set_at, length-take-le, drop-drop}
use borrow.Rule.Slice.PartMut.{put_mid}
use Rattle.numbers.specs.Number.{low_group, bytes_from}
use Rattle.numbers.proofs.Turns.{top}
use Rattle.numbers.specs.Writing.{write_into}
use Rattle.numbers.proofs.Writings.{written}

-- the first i of w are stored in d
abbrev pub stored_to : List ℕ → List ℕ → ℕ → List ℕ
stored_to w d i = take i w ++ drop i d

module _ (w : List ℕ) (i y : ℕ) (rest : List ℕ) (next : drop i w ≡ y ∷ rest) where
  store_inside : i < length w
  store_inside = omega (arith, simp length-drop at (ap length next))

  pub store_rest : drop (i + 1) w ≡ rest
  store_rest = sym (drop-drop 1 i w) ∙ ap (drop 1) next

  store_byte : get_or w i 0 ≡ y
  store_byte = cc (drop-cons w i 0 store_inside)

  pub store_more : (d : List ℕ) → length w ≤ length d → set (stored_to w d i) i y ≡ stored_to w d (i + 1)
  store_more d room =
      let in_w : i < length w = store_inside in
      let in_d : i < length d = omega arith in
      rw (drop-cons d i 0 in_d, set_at (take i w) _ _ y i (length-take-le i w (omega arith)), add-one i, take-suc w i 0 in_w, store_byte, append_assoc)

  pub store_last : rest ≡ [] → length w ≡ i + 1
  store_last e = omega (arith, store_inside, simp length-drop at (ap length (store_rest ∙ e)))

-- the bytes of x, where it has more groups, and where it has not
pub bytes_more : (k x : ℕ) → 128 ≤ x → x < top k → bytes_from k x ≡ low_group x ∷ bytes_from (k - 1) (x / 128)
unfolding bytes_from top
bytes_more zero x h l = absurd (omega arith)
bytes_more (suc k) x h l = rw (le-ltb _ _ h, sub-one)

pub bytes_last : (k x : ℕ) → x < 128 → bytes_from k x ≡ x ∷ []
unfolding bytes_from
bytes_last zero x h = refl
bytes_last (suc k) x h = rw (lt-ltb _ _ h)

pub top_down : (k x : ℕ) → 128 ≤ x → x < top k → (1 ≤ k) × (x / 128 < top (k - 1))
unfolding top
top_down zero x h l = absurd (omega arith)
top_down (suc k) x h l = (omega arith, rw sub-one (omega arith))

-- i bytes of the number's w are stored in what was d, and those that are left are the bytes of x
abbrev pub Stored : (w d out : List ℕ) (i x : ℕ) → Type 0
Stored w d out i x = (out ≡ stored_to w d i) × (i < length w → (drop i w ≡ bytes_from (4 - i) x) × (x < top (4 - i)))

module _ (w d out : List ℕ) (i x : ℕ) (inside : i < length w) (room : length w ≤ length d) (s : Stored w d out i x) where
  pub stored_group : 128 ≤ x → Stored w d (set out i (low_group x)) (i + 1) (x / 128)
  stored_group h =
      let e = (s.1 inside).0 ∙ bytes_more (4 - i) x h (s.1 inside).1 in
      let down : 4 - i - 1 ≡ 4 - (i + 1) = omega arith in (
        ap (λ (o : List ℕ). set o i (low_group x)) s.0 ∙ store_more w i _ _ e d room,
        λ h2. (rw (← down) (store_rest w i _ _ e), rw (← down) (top_down (4 - i) x h (s.1 inside).1).1),
      )

  pub stored_end : x < 128 → Stored w d (set out i x) (i + 1) (x / 128)
  stored_end h =
      let e = (s.1 inside).0 ∙ bytes_last (4 - i) x h in
      (ap (λ (o : List ℕ). set o i x) s.0 ∙ store_more w i _ _ e d room, λ h2. absurd (omega (arith, store_last w i _ _ e refl)))

-- `&mut d[at..at + length w]` is lent to a writer, which leaves w there, and comes back
pub lent_back : (d w : List ℕ) (at n : ℕ) → n ≡ length w → at + n ≤ length d → put_mid at n d w ≡ write_into d at w
lent_back d w at n e h = rw (e, drop-drop (length w) at d, ← append_assoc) (sym (written d at w (omega (arith, h, e))).1)
