-- The letter that is settled before the walk, and that of the walk.
use Rattle.std.proofs.Common.{◌*◌, ◌≡◌, sym, arith}
use Rattle.levels.specs.Level.{level_of}
use Rattle.levels.proofs.Settled.{settled}
use Rattle.levels.proofs.level_of.Goals as goal

pub returns-then-from-area : goal.returns-then-from-area
unfolding level_of
returns-then-from-area c =
    let length : c.from.result ≡ c.args.length = c.from.ensures in
    let lanes : c.from-2.result ≡ c.args.lanes = c.from-2.ensures in
    let n : c.from-3.result ≡ c.args.n = c.from-3.ensures in
    rw (← length, ← lanes, ← n) (sym (settled c.from-3.result (c.from.result * c.from-2.result) (omega (arith, c.if-from-area.true))))

pub returns : goal.returns
unfolding level_of
returns c =
    let length : c.from.result ≡ c.args.length = c.from.ensures in
    let lanes : c.from-2.result ≡ c.args.lanes = c.from-2.ensures in
    rw (← length, ← lanes) c.level_past_a.ensures
