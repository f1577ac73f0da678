-- The reader's loop: the groups so far say `value`, the next group weighs `scale`, and what is left to read is the number that starts at i.
use mathlib.Core.Path.{refl, sym, ap, ◌∙◌}
use Prim.Native.Nat.{◌+◌, ◌-◌, ◌*◌, ◌^◌, ◌≤◌, ◌<◌}
use native.Mathlib.Omega.{arith}
use lib.ListN.{length}
use Rattle.std.proofs.Common.{rules}
use Rattle.numbers.specs.Number.{read_number, above}
use Rattle.numbers.proofs.Turns.{top, byte_at, above_start, above_more, read_end, read_wide, read_fifth, read_last, read_more, fifth_fits, scale_fits, group_below, room_more}
use Rattle.numbers.proofs.read.Goals.{In_default}
use Rattle.numbers.proofs.read.Goals as goal

pub loop-byte-init : goal.loop-byte-init
unfolding read_number top
loop-byte-init c = (above_start _ _, omega arith, refl)

-- the value with one group more, a fifth that is below 16 and another that is below 128
pub finished-got-requires : goal.finished-got-requires
finished-got-requires c =
    let l = c.loop-byte in
    let value = fifth_fits _ _ _ l.invariant.1 l.invariant.2 c.from-b.result c.if-left-eq0.true c.if-b-gt15.false in
    (value, omega (arith, (byte_at _ _ _ _ c.in-Some.ensures.lookup.3 c.from-b.ensures).0))

pub finished-got-requires-then-b-lt128 : goal.finished-got-requires-then-b-lt128
finished-got-requires-then-b-lt128 c =
    let l = c.loop-byte in
    let value = group_below _ _ _ l.invariant.1 l.invariant.2 c.from-b.result c.if-b-lt128.true in
    (omega (arith, value, scale_fits _ _ _ l.invariant.1 l.invariant.2 c.if-left-eq0.false), omega (arith, (byte_at _ _ _ _ c.in-Some.ensures.lookup.3 c.from-b.ensures).0))

scale : (c : goal.Else-b-lt128) → c.loop-byte.scale * 128 < 2 ^ 32
scale c = scale_fits _ _ _ c.loop-byte.invariant.1 c.loop-byte.invariant.2 c.if-left-eq0.false

more_below : (c : goal.Else-b-lt128)
    → c.loop-byte.value + c.loop-byte.scale * (c.from-b.result - 128) < c.loop-byte.scale * 128
more_below c =
    group_below _ _ _ c.loop-byte.invariant.1 c.loop-byte.invariant.2 _ (omega (arith, (byte_at _ _ _ _ c.in-Some.ensures.lookup.3 c.from-b.ensures).1, c.type_inv.bytes c.loop-byte.i))

pub overflow_mul-value : goal.overflow_mul-value
overflow_mul-value c = omega (arith, more_below c, scale c)

pub overflow_add-value : goal.overflow_add-value
overflow_add-value c = omega (arith, more_below c, scale c)

pub overflow_mul-scale : goal.overflow_mul-scale
overflow_mul-scale c = omega (arith, scale c)

pub loop-byte-preserved : goal.loop-byte-preserved
loop-byte-preserved c =
    let l = c.loop-byte in
    let more = read_more _ _ _ _ (byte_at _ _ _ _ c.in-Some.ensures.lookup.3 c.from-b.ensures) _ c.if-left-eq0.false c.if-b-lt128.false in (
      l.invariant.0 ∙ ap (above l.value l.scale l.i) more ∙ above_more _ _ _ _ _,
      more_below c,
      room_more _ _ _ l.invariant.1 l.invariant.2 c.if-left-eq0.false,
    )

past : (c : goal.In_default) → length c.args.bytes.now ≤ c.loop-byte.i
past c = search rules

pub returns-in_default : goal.returns-in_default
unfolding above
returns-in_default c = sym (c.loop-byte.invariant.0 ∙ ap (above _ _ _) (read_end _ _ _ _ (past c)))

pub returns-then-b-gt15 : goal.returns-then-b-gt15
unfolding above
returns-then-b-gt15 c =
    let l = c.loop-byte in
    sym (l.invariant.0 ∙ ap (above l.value l.scale l.i) (read_wide _ _ _ _ (byte_at _ _ _ _ c.in-Some.ensures.lookup.3 c.from-b.ensures) _ c.if-left-eq0.true c.if-b-gt15.true))

pub returns-else-b-gt15 : goal.returns-else-b-gt15
returns-else-b-gt15 c =
    let l = c.loop-byte in
    let ended = read_fifth _ _ _ _ (byte_at _ _ _ _ c.in-Some.ensures.lookup.3 c.from-b.ensures) _ c.if-left-eq0.true c.if-b-gt15.false in
    c.finished-got.ensures ∙ sym (l.invariant.0 ∙ ap (above l.value l.scale l.i) ended)

pub returns-then-b-lt128 : goal.returns-then-b-lt128
returns-then-b-lt128 c =
    let l = c.loop-byte in
    let ended = read_last _ _ _ _ (byte_at _ _ _ _ c.in-Some.ensures.lookup.3 c.from-b.ensures) _ c.if-left-eq0.false c.if-b-lt128.true in
    c.finished-got-then-b-lt128.ensures ∙ sym (l.invariant.0 ∙ ap (above l.value l.scale l.i) ended)
