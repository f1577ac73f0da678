-- The rest of the study is handed on as a part.
use Rattle.std.proofs.Common.{arith}
use lib.ListN.{length-drop}
use Rattle.sheets.proofs.Within.{rest_of}
use Rattle.convert.proofs.Walking.{place_near}
use Rattle.convert.proofs.Converter.sheet_at.Goals as goal

pub map_err-requires : goal.map_err-requires
map_err-requires c = λ e r.
    let p = place_near _ _ _ _ _ (rw (r, rest_of c.args.study.now c.args.at c.requires) at c.sheet.ensures) in
    omega (arith, p, length-drop c.args.at c.args.study.now)
