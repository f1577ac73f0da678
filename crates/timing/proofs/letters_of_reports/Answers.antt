-- The letters that the reports tell.
use Rattle.std.proofs.Common.{◌+◌, ◌%◌}
use Rattle.facility.specs.Calls.{report_of}
use Rattle.timing.proofs.letters_of_reports.Goals as goal

pub returns-clause-told : goal.returns-clause-told
returns-clause-told c = c.sum_of_letters.ensures.sum (λ i. (report_of c.args.f.now (i % 64 + 1)).level) (λ i r h p. p)
