-- D is at most C.
use native.Mathlib.Omega.{arith}
use Rattle.conditions.specs.Shortcuts.{shortcuts_of}
use Rattle.rules.proofs.Formulas.{wish_most_capacity}
use Rattle.segment.proofs.sent_at.Goals as goal

pub most_leaving-requires : goal.most_leaving-requires
unfolding shortcuts_of
most_leaving-requires c =
    let here = c.args.place.now.here in
    let good = c.args.place.now.good in
    let most = wish_most_capacity c.args.cell.n here.capacity here.speed here.length in
    let wish = c.wish_to_leave-wish.ensures here.speed (rw c.args.place.now.spared) in
    (good.offramp, omega (arith, wish, most, good.capacity))
