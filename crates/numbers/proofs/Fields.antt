-- What a field gives, by the tests of its range; and back: a field that was read is a number of its range.
use Prim.Native.Nat.{ℕ}
use mathlib.Core.Path.{◌≡◌, refl}
use mathlib.Core.List.{List}
use mathlib.Core.Bool.{Bool, true, false}
use native.Mathlib.Omega.{arith}
use lib.Dec.{ltb}
use borrow.Author.Tests.{le-ltb, ltb-false}
use Rattle.std.specs.Prelude.{if◌then◌else◌}
use Rattle.refusals.specs.Numbers.{refusal_number}
use Rattle.numbers.specs.declared.Range.{Range}
use Rattle.numbers.specs.Number.{Reading, Read, Refused, read_number}
use Rattle.numbers.specs.Field.{in_range, read_field, In}

module _ (r : Range) (bytes : List ℕ) (at v next : ℕ) (e : read_number bytes at ≡ Read v next) where
  pub field_value : In r v → read_field r bytes at ≡ Read v next
  unfolding read_field in_range
  field_value i = rw (e, le-ltb _ _ i.0, le-ltb _ _ i.1)

pub field_refused : (r : Range) (bytes : List ℕ) (at e : ℕ) → read_number bytes at ≡ Refused e → read_field r bytes at ≡ Refused e
unfolding read_field in_range
field_refused r bytes at e h = rw h

range_by : (r : Range) (v n w m : ℕ) (a b : Bool) → ltb v r.low ≡ a → ltb r.high v ≡ b
    → (if a then Refused (refusal_number r.refusal) else if b then Refused (refusal_number r.refusal) else Read v n) ≡ Read w m → (Read v n ≡ Read w m) × In r v
range_by r v n w m true b p q e = absurd (let z : ◌≡◌ {A = ℕ} 0 1 = cc in omega arith)
range_by r v n w m false true p q e = absurd (let z : ◌≡◌ {A = ℕ} 0 1 = cc in omega arith)
range_by r v n w m false false p q e = (e, (ltb-false _ _ p, ltb-false _ _ q))

range_back : (r : Range) (x : Reading) (w m : ℕ) → in_range r x ≡ Read w m → (x ≡ Read w m) × In r w
unfolding in_range
range_back r (Read v n) w m e =
    let p = range_by r v n w m (ltb v r.low) (ltb r.high v) refl refl e in
    let q : v ≡ w = cc p.0 in
    (p.0, (omega (arith, p.1.0), omega (arith, p.1.1)))
range_back r (Refused x) w m e = absurd (let z : ◌≡◌ {A = ℕ} 0 1 = cc in omega arith)

-- a field that was read is a number of its range
pub field_back : (r : Range) (bytes : List ℕ) (at v next : ℕ) → read_field r bytes at ≡ Read v next → (read_number bytes at ≡ Read v next) × In r v
unfolding read_field
field_back r bytes at v next e = range_back r (read_number bytes at) v next e
