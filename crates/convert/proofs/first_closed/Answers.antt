-- Segment by segment, to the first that has a lane closed.
use Rattle.std.proofs.Common.{rules, ◌<◌, ◌≤◌}
use Rattle.std.proofs.lemmas.Iterator.{first_from_Range}
use Rattle.sheets.specs.Layout.{lanes_of, opened_of}
use Rattle.convert.proofs.Closed.{first_is}
use Rattle.convert.proofs.first_closed.Goals as goal

pub returns : goal.returns
returns c =
    let road = c.args.road.now in
    let second = c.args.second.now in
    first_is road second c.args.ns c.find.result
    (first_from_Range _ _ _ _ (λ i. opened_of second i < lanes_of road i) (λ i. lanes_of road i ≤ opened_of second i) c.find.ensures.ran
    (λ x q s. search rules) (λ x q s. (search rules, search rules)))
