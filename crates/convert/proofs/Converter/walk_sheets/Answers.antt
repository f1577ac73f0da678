-- Sheet by sheet, each read, converted and written where there is room.
use mathlib.Core.Path.{◌≡◌, sym, ap, ◌∙◌}
use Prim.Native.Nat.{ℕ, ◌+◌, ◌-◌}
use native.Mathlib.Omega.{arith}
use lib.ListN.{take}
use Rattle.std.proofs.lemmas.Result.{err_from_is_err_and}
use Rattle.numbers.specs.Writing.{write_into}
use Rattle.sheets.specs.Layout.{count_of}
use Rattle.sheets.specs.Write.{row_bytes}
use Rattle.convert.proofs.Walking.{turn_full, turn_refused, next_within, count_fits, turn_more, turn_last}
use Rattle.convert.proofs.Converter.walk_sheets.Goals as goal

pub returns-then-at-study : goal.returns-then-at-study
returns-then-at-study c =
    turn_last _ _ _ _ _ _ _ _ _ c.loop.invariant c.args.out.now c.requires c.copy_start.ensures c.copy_start.auto.out (omega arith)

pub returns-in_err-sheet : goal.returns-in_err-sheet
returns-in_err-sheet c =
    let t = turn_refused _ _ _ _ _ _ _ _ _ c.loop.invariant c.if-at-study.false (omega arith) _ _ c.in_err-sheet.ensures c.args.out.now in
    let p = err_from_is_err_and c.from_residual.result c.from_residual.ensures.1 in
    rw (p.1, p.2) t

pub overflow_add-count : goal.overflow_add-count
overflow_add-count c =
    omega (arith, count_fits _ _ _ _ _ _ _ _ _ c.loop.invariant c.if-at-study.false (omega arith) _ _ c.in_ok-sheet.ensures _ (c.count.ensures ∙ ap count_of c.layout_to-layout.ensures))

pub overflow_add-at : goal.overflow_add-at
overflow_add-at c = omega (arith, next_within _ _ _ _ _ _ _ _ _ c.loop.invariant c.if-at-study.false (omega arith) _ _ c.in_ok-sheet.ensures)

pub loop-preserved : goal.loop-preserved
loop-preserved c =
    let l : 96 - (c.loop.counter + 1) ≡ 96 - c.loop.counter - 1 = omega arith in
    let n = c.count.ensures ∙ ap count_of c.layout_to-layout.ensures in
    let t = turn_more _ _ _ _ _ _ _ _ _ c.loop.invariant c.if-at-study.false (omega arith) _ _ c.in_ok-sheet.ensures
    _ _ c.write_sheet.new.buffer n c.bytes_of-count.ensures
    (c.write_sheet.ensures.1 ∙ ap (λ (k : ℕ). write_into c.loop.out c.loop.count (row_bytes (take k c.in_ok-sheet.sheet.numbers))) (sym c.count.ensures)) c.write_sheet.auto.buffer in
    rw l t

pub returns-then-at-study-2 : goal.returns-then-at-study-2
returns-then-at-study-2 c = turn_full _ _ _ _ _ _ _ _ _ c.loop.invariant c.args.out.now (omega arith) (omega arith)

pub returns : goal.returns
returns c =
    turn_last _ _ _ _ _ _ _ _ _ c.loop.invariant c.args.out.now c.requires c.copy_start.ensures c.copy_start.auto.out (omega arith)
