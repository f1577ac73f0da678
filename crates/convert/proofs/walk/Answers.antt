-- A road that cannot be read.
use Rattle.std.proofs.lemmas.Result.{err_from_is_err_and}
use Rattle.convert.proofs.Replies.{no_road}
use Rattle.convert.proofs.walk.Goals as goal

pub returns-in_err-road : goal.returns-in_err-road
returns-in_err-road c =
    let p = err_from_is_err_and c.from_residual.result c.from_residual.ensures.1 in
    rw (p.1, p.2) (no_road _ _ _ _ c.in_err-road.ensures c.args.out.now)
