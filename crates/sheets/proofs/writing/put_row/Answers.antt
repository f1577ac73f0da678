-- The writer's loop: the bytes of the first numbers stand at the start of `out`.
use lib.ListN.{length, take, drop, get_or}
use borrow.Rule.Slice.PartMut.{put_mid}
use Rattle.numbers.proofs.Stores.{lent_back}
use mathlib.Core.List.{List, ◌++◌}
use mathlib.Core.Path.{◌≡◌, sym, ◌∙◌, refl}
use Prim.Native.Nat.{ℕ, ◌+◌, ◌-◌, ◌≤◌, ◌<◌}
use native.Mathlib.Omega.{arith}
use Rattle.numbers.specs.Number.{number_bytes}
use Rattle.sheets.specs.Write.{row_bytes}
use Rattle.sheets.proofs.Turns.{length_more, length_part, bytes_more, put_more}
use Rattle.sheets.proofs.writing.put_row.Goals as goal

pub loop-value-init : goal.loop-value-init
unfolding row_bytes
loop-value-init c = (refl, refl)

-- room for the bytes of the next number
room : (row out : List ℕ) (k i : ℕ) → k < length row → i ≡ length (row_bytes (take k row)) → length out ≡ length (row_bytes row)
    → i + length (number_bytes (get_or row k 0)) ≤ length out
room row out k i h e fits = omega (arith, length_more row k h, length_part row (k + 1))

-- the bytes of one number more
more : (row out start new : List ℕ) (k i n : ℕ) → k < length row → out ≡ row_bytes (take k row) ++ drop i start → i ≡ length (row_bytes (take k row))
    → length out ≡ length start → length start ≡ length (row_bytes row) → n ≡ length (number_bytes (get_or row k 0)) → new ≡ number_bytes (get_or row k 0)
    → put_mid i (i + n - i) out new ≡ row_bytes (take (k + 1) row) ++ drop (i + n) start
more row out start new k i n h o e long fits size is =
    let w = number_bytes (get_or row k 0) in
    let r = room row start k i h e fits in
    let m : i + n - i ≡ n = omega arith in
    rw (is, m) (lent_back out w i n size (omega (arith, r, long, size)) ∙ put_more out (row_bytes (take k row)) w start i o (sym e) r ∙ rw (bytes_more row k h, size))

pub overflow_add-i : goal.overflow_add-i
overflow_add-i c =
    let l = c.loop-value in
    omega (arith, room c.args.row.now c.args.out.now l.value-index l.i c.loop-value-test.true l.invariant.1 c.requires, c.length-n.ensures)

pub slice_bounds-put-end : goal.slice_bounds-put-end
slice_bounds-put-end c =
    let l = c.loop-value in
    omega (arith, room c.args.row.now c.args.out.now l.value-index l.i c.loop-value-test.true l.invariant.1 c.requires, c.length-n.ensures, l.auto.out)

pub loop-value-preserved : goal.loop-value-preserved
loop-value-preserved c =
    let l = c.loop-value in
    let a = c.args in
    let h = c.loop-value-test.true in (
      more a.row.now l.out a.out.now _ l.value-index l.i _ h l.invariant.0 l.invariant.1 l.auto.out c.requires c.length-n.ensures c.put.ensures,
      omega (arith, c.length-n.ensures, length_more a.row.now l.value-index h),
    )
