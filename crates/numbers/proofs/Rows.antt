-- Laws of the readers of rows, for every sheet and every width: one turn of the loop, what a row that was read has, and that a refusal's
-- number is never 0.
use mathlib.Core.Path.{◌≡◌, refl, sym, ap, ◌∙◌}
use mathlib.Core.List.{List, [], ◌∷◌, ◌++◌, append_assoc, append-nil}
use Prim.Native.Nat.{ℕ, zero, suc, ◌+◌, ◌-◌, ◌≤◌, ◌<◌}
use native.Mathlib.Nat.{zero-add, add-zero, sub-zero}
use native.Mathlib.Numerals.{add-one}
use native.Mathlib.Omega.{arith}
use lib.ListN.{length, take, drop, set, get_or, replicate, length-replicate, length-set, take-append-drop, get_or-append}
use lib.Seq.{take-suc-set, drop-set-lt, drop-drop, length-take-le}
use Rattle.numbers.specs.Number.{Reading, Read, Refused}
use Rattle.numbers.specs.Row.{Rows, ReadRow, RefusedAt, onto, and_then, fields, padded_to, Each}
use Rattle.numbers.specs.Filled.{filled}
use Rattle.numbers.proofs.Refusals.{Told, Named}

-- ---- one turn of a reader
onto_onto : (xs ys : List ℕ) (r : Rows) → onto xs (onto ys r) ≡ onto (xs ++ ys) r
unfolding onto
onto_onto xs ys (ReadRow zs next) = rw append_assoc
onto_onto xs ys (RefusedAt e at) = refl

onto_nil : (r : Rows) → onto [] r ≡ r
unfolding onto
onto_nil (ReadRow zs next) = refl
onto_nil (RefusedAt e at) = refl

fields_step : (field : ℕ → ℕ → Reading) (n k at : ℕ) → k < n
    → fields field (n - k) k at ≡ and_then at (field k at) (fields field (n - (k + 1)) (k + 1))
unfolding fields
fields_step field n k at h =
    let e : n - k ≡ suc (n - (k + 1)) = omega arith in
    rw e

-- a field that was read stands before the fields that follow it
pub field_before : (field : ℕ → ℕ → Reading) (left k at v next : ℕ) → field k at ≡ Read v next
    → fields field (suc left) k at ≡ onto (v ∷ []) (fields field left (k + 1) next)
unfolding fields and_then
field_before field left k at v next e = rw e

fields_end : (field : ℕ → ℕ → Reading) (n k at : ℕ) → n ≤ k → fields field (n - k) k at ≡ ReadRow [] at
unfolding fields
fields_end field n k at h =
    let e : n - k ≡ 0 = omega arith in
    rw e

-- k of n numbers are read, the next starts at `at`, and the row of `size` places has zeros from there on
pub record Turn (field : ℕ → ℕ → Reading) (start n size : ℕ) (row : List ℕ) (k at : ℕ) : Type 0 where
  pub whole : fields field n 0 start ≡ onto (take k row) (fields field (n - k) k at)
  pub up_to : k ≤ n
  pub rest : drop k row ≡ replicate (size - k) 0
  pub long : length row ≡ size

pub turn_start : (field : ℕ → ℕ → Reading) (start n size : ℕ) → Turn field start n size (replicate size 0) 0 start
turn_start field start n size = record {
  whole = rw (onto_nil, sub-zero);
  up_to = omega arith;
  rest = rw sub-zero;
  long = length-replicate size 0;
}

module _ (field : ℕ → ℕ → Reading) (start n size : ℕ) (row : List ℕ) (k at : ℕ) (most : n ≤ size) (t : Turn field start n size row k at) where
  pub turn_more : (v next : ℕ) → k < n → field k at ≡ Read v next → Turn field start n size (set row k v) (k + 1) next
  turn_more v next h e =
      let inside : k < length row = omega (arith, t.long) in
      let left : n - k ≡ suc (n - (k + 1)) = omega arith in
      let f : fields field (n - k) k at ≡ onto (v ∷ []) (fields field (n - (k + 1)) (k + 1) next) =
      rw left (field_before field (n - (k + 1)) k at v next e)
      in
      let z : size - k ≡ suc (size - (k + 1)) = omega arith in
      record {
        whole = t.whole ∙ rw (f, onto_onto, add-one k, take-suc-set row k v inside);
        up_to = omega arith;
        rest =
            drop-set-lt (k + 1) row k v (omega arith)
            ∙ sym (drop-drop 1 k row)
            ∙ ap (drop 1) (t.rest ∙ ap (λ (m : ℕ). replicate m 0) z);
        long = simp length-set t.long;
      }

  pub turn_refused : (e : ℕ) → k < n → field k at ≡ Refused e → fields field n 0 start ≡ RefusedAt e at
  unfolding and_then onto
  turn_refused e h r = t.whole ∙ rw (fields_step field n k at h, r)

  turn_end : n ≤ k → fields field n 0 start ≡ ReadRow (take k row) at
  unfolding onto
  turn_end h = t.whole ∙ rw (fields_end field n k at h, append-nil)

  -- what is read is the row, but for the zeros after it
  pub turn_row : n ≤ k → (fields field n 0 start ≡ ReadRow (take k row) at) × (padded_to size (take k row) ≡ row)
  turn_row h =
      let len : length (take k row) ≡ k = length-take-le k row (omega (arith, t.long, t.up_to)) in
      (turn_end h, rw (len, ← t.rest, take-append-drop))

-- ---- what the reader answers, back to what the fields say
pub filled_read : (size : ℕ) (x : Rows) (numbers : List ℕ) (used : ℕ) → ReadRow numbers used ≡ filled size x
    → (row : List ℕ) × (x ≡ ReadRow row used) × (numbers ≡ padded_to size row)
unfolding filled
filled_read size (ReadRow row n) numbers used e =
    let u : n ≡ used = cc in
    (row, ap (ReadRow row) u, cc)
filled_read size (RefusedAt x at) numbers used e = absurd (let z : ◌≡◌ {A = ℕ} 0 1 = cc in omega arith)

pub filled_refused : (size : ℕ) (x : Rows) (e at : ℕ) → RefusedAt e at ≡ filled size x → x ≡ RefusedAt e at
unfolding filled
filled_refused size (ReadRow row n) e at h = absurd (let z : ◌≡◌ {A = ℕ} 0 1 = cc in omega arith)
filled_refused size (RefusedAt x p) e at h = sym h

-- ---- a row that was read, field by field
onto_back : (v : ℕ) (r : Rows) (row : List ℕ) (next : ℕ) → onto (v ∷ []) r ≡ ReadRow row next
    → (more : List ℕ) × (r ≡ ReadRow more next) × (row ≡ v ∷ more)
unfolding onto
onto_back v (ReadRow more n) row next e = (more, cc, cc)
onto_back v (RefusedAt x at) row next e = absurd (let z : ◌≡◌ {A = ℕ} 0 1 = cc in omega arith)

pub then_back : (at : ℕ) (x : Reading) (rest : ℕ → Rows) (row : List ℕ) (next : ℕ) → and_then at x rest ≡ ReadRow row next
    → (v : ℕ) × (n : ℕ) × (more : List ℕ) × (x ≡ Read v n) × (rest n ≡ ReadRow more next) × (row ≡ v ∷ more)
unfolding and_then
then_back at (Read v n) rest row next e =
    let o = onto_back v (rest n) row next e in
    (v, n, o.0, refl, o.1, o.2)
then_back at (Refused x) rest row next e = absurd (let z : ◌≡◌ {A = ℕ} 0 1 = cc in omega arith)

first_onto : (field : ℕ → ℕ → Reading) (m k at v n : ℕ) (row more : List ℕ) (place : ℕ) → field k at ≡ Read v n → row ≡ v ∷ more
    → fields field m (k + 1) n ≡ ReadRow (take m more) place → and_then at (field k at) (fields field m (k + 1)) ≡ ReadRow (take (suc m) row) place
unfolding and_then onto
first_onto field m k at v n row more place r e h = rw (r, e, h)

-- the first m fields of a row that was read
pub fields_first : (field : ℕ → ℕ → Reading) (m left k at : ℕ) (row : List ℕ) (next : ℕ) → m ≤ left → fields field left k at ≡ ReadRow row next
    → (place : ℕ) × (fields field m k at ≡ ReadRow (take m row) place)
unfolding fields and_then onto
fields_first field zero left k at row next h e = (at, refl)
fields_first field (suc m) zero k at row next h e = absurd (omega arith)
fields_first field (suc m) (suc left) k at row next h e =
    let g = then_back at (field k at) (fields field left (k + 1)) row next e in
    let i = fields_first field m left (k + 1) g.1 g.2 next (omega arith) g.4 in
    (i.0, first_onto field m k at g.0 g.1 row g.2 i.0 g.3 g.5 i.1)

-- what holds of a number and those after it holds of all, and back
pub each_cons : (P : ℕ → ℕ → Type 0) (k v : ℕ) (row : List ℕ) → P k v → Each P (k + 1) row → Each P k (v ∷ row)
each_cons P k v row h t zero i = rw add-zero h
each_cons P k v row h t (suc j) i =
    let e : k + suc j ≡ k + 1 + j = omega arith in
    rw e (t j (omega arith))

pub each_head : (P : ℕ → ℕ → Type 0) (k v : ℕ) (row : List ℕ) → Each P k (v ∷ row) → P k v
each_head P k v row h = rw add-zero at (h 0 (omega arith))

pub each_tail : (P : ℕ → ℕ → Type 0) (k v : ℕ) (row : List ℕ) → Each P k (v ∷ row) → Each P (k + 1) row
each_tail P k v row h j i =
    let e : k + 1 + j ≡ k + suc j = omega arith in
    rw e (h (suc j) (omega arith))

-- each number of a row that was read has what its field's reading shows
pub fields_each : (field : ℕ → ℕ → Reading) (P : ℕ → ℕ → Type 0) → ((k at v next : ℕ) → field k at ≡ Read v next → P k v)
    → (left k at : ℕ) (row : List ℕ) (next : ℕ) → fields field left k at ≡ ReadRow row next → (length row ≡ left) × Each P k row
unfolding fields
fields_each field P shows zero k at row next e =
    let r : [] ≡ row = cc in
    rw (← r) (refl, λ j h. absurd (omega arith))
fields_each field P shows (suc left) k at row next e =
    let g = then_back at (field k at) (fields field left (k + 1)) row next e in
    let b = fields_each field P shows left (k + 1) g.1 g.2 next g.4 in
    rw g.5 (ap suc b.0, each_cons P k g.0 g.2 (shows k at g.0 g.1 g.3) b.1)

-- and still has it in the row with zeros after it
pub each_padded : (P : ℕ → ℕ → Type 0) (size : ℕ) (row : List ℕ) → Each P 0 row → (k : ℕ) → k < length row → P k (get_or (padded_to size row) k 0)
each_padded P size row h k inside =
    rw (get_or-append row (replicate (size - length row) 0) 0 k inside) (rw zero-add at (h k inside))

-- ---- a refusal's number has P, and is never 0
abbrev pub ToldRow : (P : ℕ → Type 0) → Rows → Type 0
ToldRow P (ReadRow row next) = 0 ≤ next
ToldRow P (RefusedAt e at) = P e

abbrev pub NamedRow : Rows → Type 0
NamedRow = ToldRow (λ e. 1 ≤ e)

module _ (P : ℕ → Type 0) where
  told_onto : (xs : List ℕ) (r : Rows) → ToldRow P r → ToldRow P (onto xs r)
  unfolding onto
  told_onto xs (ReadRow row next) h = h
  told_onto xs (RefusedAt e at) h = h

  told_then : (at : ℕ) (x : Reading) (rest : ℕ → Rows) → Told P x → ((n : ℕ) → ToldRow P (rest n)) → ToldRow P (and_then at x rest)
  unfolding and_then
  told_then at (Read v n) rest p q = told_onto (v ∷ []) (rest n) (q n)
  told_then at (Refused e) rest p q = p

  pub told_fields : (field : ℕ → ℕ → Reading) → ((k at : ℕ) → Told P (field k at)) → (left k at : ℕ) → ToldRow P (fields field left k at)
  unfolding fields
  told_fields field told zero k at = omega arith
  told_fields field told (suc left) k at =
      told_then at (field k at) (fields field left (k + 1)) (told k at) (λ n. told_fields field told left (k + 1) n)

pub named_fields : (field : ℕ → ℕ → Reading) → ((k at : ℕ) → Named (field k at)) → (left k at : ℕ) → NamedRow (fields field left k at)
named_fields = told_fields (λ e. 1 ≤ e)
