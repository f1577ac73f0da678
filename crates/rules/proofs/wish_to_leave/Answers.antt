-- Below full n × reach is below C × L; from full on D is the lesser of n and C.
use Prim.Native.Nat.{◌*◌, ◌<◌}
use native.Mathlib.Omega.{arith}
use native.Mathlib.Nat.{mul-le-mul}
use Rattle.rules.proofs.Closed.{below_full, wish_from_full}
use Rattle.rules.proofs.wish_to_leave.Goals as goal

small : (c : goal.Then-n-full) → c.args.n * c.args.reach < 528000000
small c =
    let p = c.requires in
    omega (arith, (below_full _ _ _ _ p.3 (rw p.4 at c.if-n-full.true)).1, mul-le-mul p.0 p.2)

pub overflow_mul-result : goal.overflow_mul-result
overflow_mul-result c = omega (arith, small c)

pub overflow_add-result : goal.overflow_add-result
overflow_add-result c = omega (arith, small c)

pub returns : goal.returns
returns c = let p = c.requires in λ v e. rw c.min.ensures (wish_from_full _ _ v _ _ e p.1 p.3 (rw p.4 at c.if-n-full.false))
