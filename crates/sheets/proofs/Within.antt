-- A reading stays within its bytes: what it used, and the offset of a refusal, are at most their length.
use Prim.Native.Nat.{ℕ, zero, suc, ◌+◌, ◌-◌, ◌≤◌}
use mathlib.Core.Bool.{Bool, true, false}
use mathlib.Core.Path.{◌≡◌}
use mathlib.Core.List.{List, [], ◌∷◌}
use native.Mathlib.Omega.{arith}
use lib.ListN.{length, take, drop, get_or, length-drop}
use lib.Seq.{take_all}
use lib.Dec.{ltb}
use Rattle.std.specs.Prelude.{if◌then◌else◌}
use Rattle.refusals.specs.Numbers.{refusal_number}
use Rattle.numbers.specs.declared.Range.{Range}
use Rattle.numbers.specs.Number.{Reading, Read, Refused, last, more, groups, placed, read_number}
use Rattle.numbers.specs.Field.{in_range, read_field}
use Rattle.sheets.specs.declared.Layout.{Layout}
use Rattle.sheets.specs.declared.Layout.TheVariants.{Road, Period}
use Rattle.sheets.specs.Layout.{road_range, range_of, count_of}
use Rattle.numbers.specs.Row.{Rows, ReadRow, RefusedAt, onto, and_then, fields}
use Rattle.sheets.specs.Read.{field_of, read_row, road_from, read_road, read_period}

-- the place after a number that was read is at most m
abbrev Within : ℕ → Reading → Type 0
Within m (Read v next) = next ≤ m
Within m (Refused e) = 0 ≤ m

either : (m : ℕ) (t : Bool) (a b : Reading) → Within m a → Within m b → Within m (if t then a else b)
either m true a b p q = p
either m false a b p q = q

last_within : (m least b : ℕ) → Within (suc m) (last least b)
unfolding last
last_within m least b = either (suc m) (ltb b least) (Refused 3) (Read b 1) (omega arith) (omega arith)

more_within : (m g : ℕ) (r : Reading) → Within m r → Within (suc m) (more g r)
unfolding more
more_within m g (Read v n) h = omega arith
more_within m g (Refused e) h = omega arith

groups_within : (k least : ℕ) (bs : List ℕ) → Within (length bs) (groups k least bs)
unfolding groups
groups_within zero least [] = omega arith
groups_within (suc k) least [] = omega arith
groups_within zero least (b ∷ bs) = either (suc (length bs)) (ltb 15 b) (Refused 2) (last least b) (omega arith) (last_within (length bs) least b)
groups_within (suc k) least (b ∷ bs) =
    either (suc (length bs)) (ltb b 128) (last least b) (more (b - 128) (groups k 1 bs)) (last_within (length bs) least b)
    (more_within (length bs) (b - 128) (groups k 1 bs) (groups_within k 1 bs))

placed_within : (m at : ℕ) (r : Reading) → at ≤ m → Within (m - at) r → Within m (placed at r)
unfolding placed
placed_within m at (Read v n) l h = omega arith
placed_within m at (Refused e) l h = omega arith

range_within : (m : ℕ) (r : Range) (x : Reading) → Within m x → Within m (in_range r x)
unfolding in_range
range_within m r (Read v n) h =
    either m (ltb v r.low) (Refused (refusal_number r.refusal)) (if ltb r.high v then Refused (refusal_number r.refusal) else Read v n) (omega arith)
    (either m (ltb r.high v) (Refused (refusal_number r.refusal)) (Read v n) (omega arith) h)
range_within m r (Refused e) h = h

field_within : (r : Range) (s : List ℕ) (at : ℕ) → at ≤ length s → Within (length s) (read_field r s at)
unfolding read_field read_number
field_within r s at l =
    range_within (length s) r (placed at (groups 4 0 (drop at s)))
    (placed_within (length s) at (groups 4 0 (drop at s)) l (rw length-drop at (groups_within 4 0 (drop at s))))

-- what a row used, or the offset of its refusal, is at most m
abbrev pub RowWithin : ℕ → Rows → Type 0
RowWithin m (ReadRow row used) = used ≤ m
RowWithin m (RefusedAt e at) = at ≤ m

onto_within : (m : ℕ) (xs : List ℕ) (r : Rows) → RowWithin m r → RowWithin m (onto xs r)
unfolding onto
onto_within m xs (ReadRow row n) h = h
onto_within m xs (RefusedAt e at) h = h

then_within : (m at : ℕ) (x : Reading) (rest : ℕ → Rows) → at ≤ m → Within m x → ((n : ℕ) → n ≤ m → RowWithin m (rest n)) → RowWithin m (and_then at x rest)
unfolding and_then
then_within m at (Read v n) rest l h q = onto_within m (v ∷ []) (rest n) (q n h)
then_within m at (Refused e) rest l h q = l

fields_within : (l : Layout) (road s : List ℕ) (left k at : ℕ) → at ≤ length s → RowWithin (length s) (fields (field_of l road s) left k at)
unfolding fields
fields_within l road s zero k at h = h
fields_within l road s (suc left) k at h =
    then_within (length s) at (field_of l road s k at) (fields (field_of l road s) left (k + 1)) h (field_within (range_of l road k) s at h)
    (λ n. fields_within l road s left (k + 1) n)

pub row_within : (l : Layout) (road s : List ℕ) → RowWithin (length s) (read_row l road s)
unfolding read_row
row_within l road s = fields_within l road s (count_of l) 0 0 (omega arith)

from_within : (s : List ℕ) (x : Reading) → RowWithin (length s) (road_from s x)
unfolding road_from
from_within s (Read ns n) = row_within (Road ns) [] s
from_within s (Refused e) = omega arith

pub road_within : (s : List ℕ) → RowWithin (length s) (read_road s)
unfolding read_road
road_within s = from_within s (read_field (road_range 0) s 0)

pub period_within : (road s : List ℕ) → RowWithin (length s) (read_period road s)
unfolding read_period
period_within road s = row_within (Period (get_or road 0 0)) road s

-- the bytes from a place on, handed on as a part
pub rest_of : (bytes : List ℕ) (at : ℕ) → at ≤ length bytes → take (length bytes - at) (drop at bytes) ≡ drop at bytes
rest_of bytes at h = take_all (length bytes - at) (drop at bytes) (rw length-drop (omega arith))
