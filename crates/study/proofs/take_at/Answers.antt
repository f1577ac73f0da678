-- By what a taking reads.
use Rattle.std.proofs.Common.{arith, ◌∙◌, ap}
use Rattle.facility.specs.Calls.{take_of}
use Rattle.sheets.proofs.Within.{rest_of}
use Rattle.study.proofs.Periods.{taken_end, place_within}
use Rattle.study.proofs.take_at.Goals as goal

pub overflow_add-result : goal.overflow_add-result
overflow_add-result c =
    let bytes = c.args.bytes.now in
    let gave = c.in-Ok.ensures ∙ ap (take_of c.args.f.now) (rest_of bytes c.args.at c.requires) in
    omega (arith, (taken_end c.args.f.now bytes c.args.at c.in-Ok.used _ c.requires gave).1, c.well_formed)

pub moved_by-requires : goal.moved_by-requires
moved_by-requires c =
    let bytes = c.args.bytes.now in
    let gave = c.in-Err.ensures ∙ ap (take_of c.args.f.now) (rest_of bytes c.args.at c.requires) in
    omega (arith, place_within c.args.f.now bytes c.args.at _ c.in-Err.refused.offset _ c.requires gave, c.well_formed)

pub returns-in-Ok : goal.returns-in-Ok
returns-in-Ok c =
    let bytes = c.args.bytes.now in
    let gave = c.in-Ok.ensures ∙ ap (take_of c.args.f.now) (rest_of bytes c.args.at c.requires) in
    taken_end c.args.f.now bytes c.args.at c.in-Ok.used _ c.requires gave
