-- A segment report as a line, and no line of a refused one.
use Rattle.std.proofs.Common.{sym}
use Rattle.study.proofs.Lines.{line_is, line_is_none}
use Rattle.study.proofs.line_at.Goals as goal

pub returns-in_err-report : goal.returns-in_err-report
returns-in_err-report c =
    rw c.from_residual.ensures (line_is_none c.args.f.now c.args.i c.report.result c.report.ensures (sym c.in_err-report.ensures.value))

pub returns : goal.returns
returns c = line_is c.args.f.now c.args.i c.report.result c.in_ok-report.report c.report.ensures (sym c.in_ok-report.ensures.value)
