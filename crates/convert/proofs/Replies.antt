-- A study's road and its sheets, and what the call gives by the walk over it.
use Prim.Native.Nat.{ℕ, ◌+◌, ◌≤◌, ◌<◌}
use mathlib.Core.Bool.{Bool, true, false}
use mathlib.Core.Path.{◌≡◌, refl, sym, ap, ◌∙◌}
use mathlib.Core.List.{List}
use native.Mathlib.Nat.{zero-add}
use native.Mathlib.Omega.{arith}
use lib.ListN.{length, take, drop}
use lib.Dec.{leb}
use lib.Seq.{take_at}
use borrow.Author.Tests.{leb-true, leb-false}
use mathlib.Core.Logic.{◌⊎◌, inl, inr}
use Rattle.numbers.specs.Row.{ReadRow, RefusedAt}
use Rattle.numbers.specs.Writing.{write_answer, write_into}
use Rattle.numbers.proofs.Writings.{written, no_room}
use Rattle.sheets.specs.Read.{read_road, padded}
use Rattle.sheets.proofs.Within.{road_within}
use Rattle.convert.specs.declared.Way.{Way}
use Rattle.numbers.specs.Filled.{filled}
use Rattle.numbers.proofs.Rows.{filled_read, filled_refused}
use Rattle.convert.specs.Sheet.{converted_sheet}
use Rattle.convert.specs.Convert.{sheets_from, Conversion, Converted, Unconverted, behind, converted_on, conversion_of, Told, Written, RefusedAs, told_by, replied_by, convert_of}
use Rattle.convert.specs.Walked.{walked_of, Filled}

-- ---- the road, as the code has it
module _ (way : Way) (study : List ℕ) where
  pub no_road : (number offset : ℕ) → RefusedAt number offset ≡ filled 452 (read_road study) → (lent : List ℕ)
      → (RefusedAs number offset ≡ walked_of (conversion_of way study)) × Filled (conversion_of way study) lent lent
  unfolding conversion_of
  no_road number offset e lent = rw (filled_refused 452 (read_road study) number offset e) (refl, tt)

  module _ (given : List ℕ) (used : ℕ) (e : ReadRow given used ≡ filled 452 (read_road study)) where
    got : (row : List ℕ) × (read_road study ≡ ReadRow row used) × (given ≡ padded row)
    got = filled_read 452 (read_road study) given used e

    pub on_road : conversion_of way study ≡ behind (take used study) (sheets_from (converted_sheet way given) 96 study used)
    unfolding conversion_of
    on_road = ap (converted_on way study) got.1 ∙ ap (λ (row : List ℕ). behind (take used study) (sheets_from (converted_sheet way row) 96 study used)) (sym got.2)

    pub road_inside : used ≤ length study
    road_inside = rw got.1 at (road_within study)

-- ---- the call, by what the walk told
reply_refused : (x : Conversion) (number offset : ℕ) (target : List ℕ) → RefusedAs number offset ≡ walked_of x
    → record { answer = RefusedAs number offset; target = target } ≡ replied_by x target
reply_refused (Converted bytes) number offset target e = absurd (let z : ◌≡◌ {A = ℕ} 0 1 = cc in omega arith)
reply_refused (Unconverted a b) number offset target e = rw e

reply_short : (x : Conversion) (count : ℕ) (target : List ℕ) → Written count ≡ walked_of x → length target < count
    → record { answer = RefusedAs 7 0; target = target } ≡ replied_by x target
reply_short (Converted bytes) count target e h =
    let c : count ≡ length bytes = cc in
    let r = no_room target 0 bytes (omega arith) in
    rw (r.0, r.1)
reply_short (Unconverted a b) count target e h = absurd (let z : ◌≡◌ {A = ℕ} 0 1 = cc in omega arith)

reply_written : (x : Conversion) (count : ℕ) (again : Told) (target after : List ℕ) → Written count ≡ walked_of x → count ≤ length target
    → again ≡ walked_of x → Filled x target after → record { answer = again; target = after } ≡ replied_by x target
reply_written (Converted bytes) count again target after e h t f =
    let c : count ≡ length bytes = cc in
    let w = written target 0 bytes (omega arith) in
    let l : 0 + length bytes ≡ length bytes = zero-add (length bytes) in
    let a : after ≡ write_into target 0 bytes = f (omega arith) ∙ sym (w.1 ∙ rw l) in
    rw (w.0, t, a)
reply_written (Unconverted a b) count again target after e h t f = absurd (let z : ◌≡◌ {A = ℕ} 0 1 = cc in omega arith)

module _ (way : Way) (study target : List ℕ) where
  pub call_refused : (number offset : ℕ) → RefusedAs number offset ≡ walked_of (conversion_of way study)
      → record { answer = RefusedAs number offset; target = target } ≡ convert_of way study target
  unfolding convert_of
  call_refused number offset e = reply_refused (conversion_of way study) number offset target e

  pub call_short : (count : ℕ) → Written count ≡ walked_of (conversion_of way study) → length target < count
      → record { answer = RefusedAs 7 0; target = target } ≡ convert_of way study target
  unfolding convert_of
  call_short count e h = reply_short (conversion_of way study) count target e h

  pub call_written : (count : ℕ) (again : Told) (after : List ℕ) → Written count ≡ walked_of (conversion_of way study) → count ≤ length target
      → again ≡ walked_of (conversion_of way study) → Filled (conversion_of way study) target after
      → record { answer = again; target = after } ≡ convert_of way study target
  unfolding convert_of
  call_written count again after e h t f = reply_written (conversion_of way study) count again target after e h t f

-- ---- and back: what an answer tells of the conversion
room_by : (bytes target : List ℕ) (t : Bool) → leb (length bytes) (length target) ≡ t → (length bytes ≤ length target) ⊎ (length target < length bytes)
room_by bytes target true t = inl (leb-true _ _ t)
room_by bytes target false t = inr (leb-false _ _ t)

has_room : (bytes target : List ℕ) → (length bytes ≤ length target) ⊎ (length target < length bytes)
has_room bytes target = room_by bytes target (leb (length bytes) (length target)) refl

written_by : (bytes target : List ℕ) (count : ℕ) → (length bytes ≤ length target) ⊎ (length target < length bytes) → told_by (write_answer target 0 bytes) ≡ Written count
    → take count (write_into target 0 bytes) ≡ bytes
written_by bytes target count (inl h) e =
    let w = written target 0 bytes (omega arith) in
    let n : length bytes ≡ count = cc w.0 in
    ap (take count) w.1 ∙ take_at bytes (drop (0 + length bytes) target) count n
written_by bytes target count (inr h) e = absurd (let z : ◌≡◌ {A = ℕ} 0 1 = cc (no_room target 0 bytes (omega arith)).0 in omega arith)

refused_seven : (bytes target : List ℕ) (number offset : ℕ) → (length bytes ≤ length target) ⊎ (length target < length bytes) → told_by (write_answer target 0 bytes) ≡ RefusedAs number offset → number ≡ 7
refused_seven bytes target number offset (inl h) e = absurd (let z : ◌≡◌ {A = ℕ} 0 1 = cc (written target 0 bytes (omega arith)).0 in omega arith)
refused_seven bytes target number offset (inr h) e = cc (no_room target 0 bytes (omega arith)).0

written_reply : (x : Conversion) (target : List ℕ) (count : ℕ) → (replied_by x target).answer ≡ Written count → x ≡ Converted (take count (replied_by x target).target)
written_reply (Converted bytes) target count e = ap Converted (sym (written_by bytes target count (has_room bytes target) e))
written_reply (Unconverted number offset) target count e = absurd (let z : ◌≡◌ {A = ℕ} 0 1 = cc in omega arith)

refused_reply : (x : Conversion) (target : List ℕ) (number offset : ℕ) → (replied_by x target).answer ≡ RefusedAs number offset → (number ≡ 7 → ⊥) → x ≡ Unconverted number offset
refused_reply (Converted bytes) target number offset e n = absurd (n (refused_seven bytes target number offset (has_room bytes target) e))
refused_reply (Unconverted a b) target number offset e n = cc

pub call_converted : (way : Way) (study target : List ℕ) (count : ℕ) → (convert_of way study target).answer ≡ Written count
    → conversion_of way study ≡ Converted (take count (convert_of way study target).target)
unfolding convert_of
call_converted way study target count e = written_reply (conversion_of way study) target count e

pub call_unconverted : (way : Way) (study target : List ℕ) (number offset : ℕ) → (convert_of way study target).answer ≡ RefusedAs number offset → (number ≡ 7 → ⊥)
    → conversion_of way study ≡ Unconverted number offset
unfolding convert_of
call_unconverted way study target number offset e n = refused_reply (conversion_of way study) target number offset e n
