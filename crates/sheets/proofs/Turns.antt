-- Laws of the reader and the writer of a row: what the one answers, and one turn of the other.
use mathlib.Core.Path.{◌≡◌, refl, sym, ap, ◌∙◌}
use Prim.Native.Nat.{ℕ, zero, suc, ◌+◌, ◌*◌, ◌/◌, ◌≤◌, ◌<◌}
use mathlib.Core.Bool.{Bool, true, false}
use mathlib.Core.List.{List, [], ◌∷◌, ◌++◌, append_assoc, append-nil}
use native.Mathlib.Numerals.{add-one}
use native.Mathlib.Omega.{arith}
use lib.ListN.{length, take, drop, get_or, length-append, length-drop, take-append-drop}
use lib.Dec.{ltb}
use lib.Seq.{take-suc, drop-drop, take_at, drop_at}
use Rattle.std.specs.Prelude.{if◌then◌else◌}
use Rattle.numbers.specs.Number.{Read, low_group, bytes_from, number_bytes}
use Rattle.numbers.specs.Field.{read_field}
use Rattle.numbers.specs.Writing.{write_into}
use Rattle.numbers.proofs.Writings.{written}
use Rattle.sheets.specs.declared.Layout.TheVariants.{Road}
use Rattle.sheets.specs.Layout.{road_range, range_of}
use Rattle.numbers.specs.Row.{Rows, ReadRow, RefusedAt}
use Rattle.numbers.specs.Filled.{rows, filled}
use Rattle.numbers.specs.declared.reader.Row.{Row}
use Rattle.refusals.specs.declared.Refused.{Refused as RefusedPlace}
use Rattle.std.specs.Prelude.{Result, Ok, Err}
use Rattle.sheets.specs.Read.{read_row, road_from, read_road, sheet_reading, sheet_told}
use Rattle.sheets.specs.Write.{row_bytes}

-- ---- reading
-- what the code answers, in numbers
pub told : (r : Result (Row 452) RefusedPlace) (x : Rows) → rows r ≡ filled 452 x → sheet_told r ≡ sheet_reading x
unfolding filled sheet_reading
told (Ok s) (ReadRow row n) e = cc
told (Ok s) (RefusedAt x at) e = absurd (let z : ◌≡◌ {A = ℕ} 0 1 = cc in omega arith)
told (Err r) (ReadRow row n) e = absurd (let z : ◌≡◌ {A = ℕ} 0 1 = cc in omega arith)
told (Err r) (RefusedAt x at) e = cc

-- a road's ranges come from no road
pub road_alone : (ns : ℕ) (road s : List ℕ) → read_row (Road ns) road s ≡ read_row (Road ns) [] s
unfolding read_row range_of
road_alone ns road s = refl

-- a road, by its first number
pub road_read : (s : List ℕ) (ns n : ℕ) → read_field (road_range 0) s 0 ≡ Read ns n → read_road s ≡ read_row (Road ns) [] s
unfolding read_road road_from
road_read s ns n e = rw e

-- ---- writing
bytes_most : (k v : ℕ) → length (bytes_from k v) ≤ k + 1
unfolding bytes_from
bytes_most zero v = omega arith
bytes_most (suc k) v = by_test k v (bytes_most k (v / 128)) (ltb v 128)
  where
    by_test : (k v : ℕ) → length (bytes_from k (v / 128)) ≤ k + 1 → (t : Bool) → length (if t then v ∷ [] else low_group v ∷ bytes_from k (v / 128)) ≤ suc k + 1
    by_test k v h true = omega arith
    by_test k v h false = omega arith

pub number_most : (v : ℕ) → length (number_bytes v) ≤ 5
unfolding number_bytes
number_most v = bytes_most 4 v

bytes_some : (k v : ℕ) → 1 ≤ length (bytes_from k v)
unfolding bytes_from
bytes_some zero v = omega arith
bytes_some (suc k) v = by_test k v (ltb v 128)
  where
    by_test : (k v : ℕ) (t : Bool) → 1 ≤ length (if t then v ∷ [] else low_group v ∷ bytes_from k (v / 128))
    by_test k v true = omega arith
    by_test k v false = omega arith

pub number_some : (v : ℕ) → 1 ≤ length (number_bytes v)
unfolding number_bytes
number_some v = bytes_some 4 v

-- a row has at least a byte, and at most five for each number
pub row_some : (row : List ℕ) → 0 < length row → 1 ≤ length (row_bytes row)
unfolding row_bytes
row_some [] h = absurd (omega arith)
row_some (v ∷ row) h = rw length-append (omega (arith, number_some v))

pub row_most : (row : List ℕ) → length (row_bytes row) ≤ 5 * length row
unfolding row_bytes
row_most [] = omega arith
row_most (v ∷ row) = rw length-append (omega (arith, number_most v, row_most row))

pub bytes_append : (xs ys : List ℕ) → row_bytes (xs ++ ys) ≡ row_bytes xs ++ row_bytes ys
unfolding row_bytes
bytes_append [] ys = refl
bytes_append (x ∷ xs) ys = rw (bytes_append xs ys, append_assoc)

module _ (row : List ℕ) (k : ℕ) (inside : k < length row) where
  pub bytes_more : row_bytes (take (k + 1) row) ≡ row_bytes (take k row) ++ number_bytes (get_or row k 0)
  unfolding row_bytes
  bytes_more = rw (add-one k, take-suc row k 0 inside, bytes_append, append-nil)

  pub length_more : length (row_bytes (take (k + 1) row)) ≡ length (row_bytes (take k row)) + length (number_bytes (get_or row k 0))
  length_more = ap length bytes_more ∙ simp length-append

pub length_part : (row : List ℕ) (k : ℕ) → length (row_bytes (take k row)) ≤ length (row_bytes row)
length_part row k =
    let e : length (row_bytes row) ≡ length (row_bytes (take k row)) + length (row_bytes (drop k row)) =
    ap (λ (l : List ℕ). length (row_bytes l)) (sym (take-append-drop k row))
    ∙ ap length (bytes_append (take k row) (drop k row))
    ∙ length-append (row_bytes (take k row)) (row_bytes (drop k row))
    in omega arith

-- a buffer d whose start is the bytes p, and then the bytes w written after them
pub put_more : (o p w d : List ℕ) (i : ℕ) → o ≡ p ++ drop i d → length p ≡ i → i + length w ≤ length d
    → write_into o i w ≡ (p ++ w) ++ drop (i + length w) d
put_more o p w d i e z room =
    let len : length o ≡ length d = ap length e ∙ simp (length-append, length-drop) (omega arith) in
    (written o i w (omega (arith, len))).1
    ∙ rw (e, take_at p (drop i d) i z, ← drop-drop (length w) i (p ++ drop i d), drop_at p (drop i d) i z, drop-drop)
