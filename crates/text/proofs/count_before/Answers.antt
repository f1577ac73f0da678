-- Up to the first byte that stops.
use Rattle.std.proofs.Common.{rules, tests}
use Rattle.std.proofs.lemmas.Iterator.{YieldsList-from_slice}
use Rattle.std.proofs.lemmas.Iterator.Search.{position_from_yields_List}
use Rattle.text.proofs.Turns.{first_or_end}
use Rattle.text.proofs.count_before.Goals as goal

pub returns : goal.returns
returns g c tells told =
    let first = position_from_yields_List tells _ _ c.position.result c.position.ensures.ran (YieldsList-from_slice _ c.iter.ensures.rest) (λ x b q k. search (rules, tests, told)) in
    first_or_end tells c.args.line.now c.position.result first c.unwrap_or.result c.unwrap_or.ensures
