-- The head, and then line by line.
use Rattle.std.proofs.Common.{◌≡◌, ◌+◌, ◌*◌, ap, ◌∙◌, arith, List, ℕ, replicate}
use Rattle.exports.specs.Rows.{put_row}
use Rattle.study.specs.Export.{room}
use Rattle.study.proofs.Numbers.{put_to, put_head, put_more, put_all}
use Rattle.study.proofs.export.shown_numbers.Goals as goal

pub loop-i-init : goal.loop-i-init
loop-i-init c = c.put_row.ensures ∙ ap (λ (row : List ℕ). put_row row (replicate room 0) 0) c.head_row.ensures ∙ put_head c.args.x.now

pub loop-i-preserved : goal.loop-i-preserved
loop-i-preserved c =
    rw (c.loop-i.invariant, c.line_row.ensures) at c.put_row-in-loop-i.ensures ∙ put_more c.args.x.now c.loop-i.i _ (omega arith)

pub returns : goal.returns
returns c = let end : 9 + 4 * c.loop-i.i ≡ room = omega arith in
    c.loop-i.invariant ∙ ap (put_to c.args.x.now) end ∙ put_all c.args.x.now
