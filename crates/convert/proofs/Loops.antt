-- A row in the other layout, number by number; a part of a study, byte by byte.
use Prim.Native.Nat.{ℕ, suc, ◌+◌, ◌-◌, ◌≤◌, ◌<◌}
use mathlib.Core.Path.{◌≡◌, sym, ◌∙◌}
use mathlib.Core.List.{List, append_assoc}
use native.Mathlib.Nat.{sub-zero}
use native.Mathlib.Numerals.{add-one}
use native.Mathlib.Omega.{arith}
use lib.ListN.{length, set, replicate, take, drop, get_or}
use lib.Seq.{set_at, drop-cons, take_all}
use Rattle.numbers.specs.Row.{padded_to}
use Rattle.numbers.specs.Writing.{write_into}
use Rattle.numbers.proofs.Writings.{written}
use Rattle.numbers.proofs.Stores.{stored_to, store_more}
use Rattle.conditions.specs.Values.{values_to}
use Rattle.conditions.proofs.Values.{values_length, values_more}

pub value_none : (g : ℕ → ℕ) (size : ℕ) → replicate size 0 ≡ padded_to size (values_to g 0)
unfolding values_to
value_none g size = rw sub-zero

pub value_more : (g : ℕ → ℕ) (size k : ℕ) (row : List ℕ) (v : ℕ) → k < size → row ≡ padded_to size (values_to g k) → v ≡ g k
    → set row k v ≡ padded_to size (values_to g (k + 1))
value_more g size k row v h e ev =
    let n : length (values_to g k) ≡ k = values_length g k in
    let n1 : length (values_to g (k + 1)) ≡ k + 1 = values_length g (k + 1) in
    let z : size - k ≡ suc (size - (k + 1)) = omega arith in
    rw (e, ev, n, n1, z, set_at (values_to g k) 0 (replicate (size - (k + 1)) 0) (g k) k n, add-one k, values_more g k, append_assoc)

module _ (part before : List ℕ) (room : length part ≤ length before) where
  pub copy_more : (i : ℕ) (out : List ℕ) → i < length part → out ≡ stored_to part before i → set out i (get_or part i 0) ≡ stored_to part before (i + 1)
  copy_more i out h e = rw e (store_more part i (get_or part i 0) (drop (suc i) part) (drop-cons part i 0 h) before room)

  pub copied : (i : ℕ) (out : List ℕ) → i ≡ length part → out ≡ stored_to part before i → out ≡ write_into before 0 part
  copied i out z e =
      let whole : take (length part) part ≡ part = take_all (length part) part (omega arith) in
      let size : 0 + length part ≡ length part = omega arith in
      e ∙ rw (z, whole) (sym ((written before 0 part (omega arith)).1 ∙ rw size))
