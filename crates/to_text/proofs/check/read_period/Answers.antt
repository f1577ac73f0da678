-- By what the reading of a sheet says.
use Rattle.std.proofs.Common.{rules}
use Rattle.to_text.proofs.Within.{told_within}
use Rattle.to_text.proofs.check.read_period.Goals as goal

pub returns-in_err-sheet : goal.returns-in_err-sheet
returns-in_err-sheet c = search (rules, told_within _ _ _ c.in_err-sheet.ensures)

pub returns : goal.returns
returns c = told_within _ _ _ c.in_ok-sheet.ensures
