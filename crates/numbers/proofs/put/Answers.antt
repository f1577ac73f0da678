-- The writer's loop: one byte more, by whether groups follow.
use mathlib.Core.Path.{refl}
use Prim.Native.Nat.{◌≤◌, ◌<◌}
use native.Mathlib.Omega.{arith}
use lib.ListN.{length}
use Rattle.numbers.specs.Number.{number_bytes}
use Rattle.numbers.proofs.Turns.{top}
use Rattle.numbers.proofs.Stores.{stored_group, stored_end}
use Rattle.numbers.proofs.put.Goals.{then-rest-ge128, else-rest-ge128}
use Rattle.numbers.proofs.put.Goals as goal

pub loop-byte-init : goal.loop-byte-init
unfolding number_bytes top
loop-byte-init c = (refl, λ h. (refl, omega arith))

pub loop-byte-preserved : goal.loop-byte-preserved
loop-byte-preserved c =
    let a = c.args in
    let l = c.loop-byte in
    let w = number_bytes a.value in
    let inside : l.byte-index < length w = omega (arith, c.loop-byte-test.true, c.requires) in
    let room : length w ≤ length a.out.now = omega (arith, c.requires) in
    elim c.if-rest-ge128.branch [
      | then-rest-ge128 t ↦ rw t.byte-is (stored_group w a.out.now l.out l.byte-index l.rest inside room l.invariant t.if-rest-ge128.true)
      | else-rest-ge128 t ↦ rw t.byte-is (stored_end w a.out.now l.out l.byte-index l.rest inside room l.invariant t.if-rest-ge128.false)
    ]
