-- The head, and then section by section.
use Rattle.std.proofs.Common.{◌≡◌, ◌+◌, ◌*◌, ap, ◌∙◌, arith, [], List, ℕ, replicate}
use Rattle.exports.specs.Rows.{put_row}
use Rattle.planning.specs.View.{planned}
use Rattle.planning.specs.Export.{room}
use Rattle.planning.proofs.Handed.{put_to, put_head, put_all, many_answers, answer_put}
use Rattle.planning.proofs.export.numbers_of.Goals as goal

pub loop-i-init : goal.loop-i-init
loop-i-init c =
    c.put_row.ensures ∙ ap (λ (row : List ℕ). put_row row (replicate room 0) 0) c.head_row.ensures
    ∙ put_head (planned c.args.plan.now []) (many_answers c.args.plan.now [])

pub loop-i-preserved : goal.loop-i-preserved
loop-i-preserved c =
    rw (c.loop-i.invariant, c.answer_row.ensures) at c.put_row-in-loop-i.ensures
    ∙ answer_put c.args.plan.now c.answers_of.result c.answers_of.ensures c.loop-i.i _ (omega arith)

pub returns : goal.returns
returns c = let end : 5 + 5 * c.loop-i.i ≡ room = omega arith in
    c.loop-i.invariant ∙ ap (put_to (planned c.args.plan.now [])) end ∙ put_all (planned c.args.plan.now []) (many_answers c.args.plan.now [])
