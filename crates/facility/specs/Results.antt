-- Manual 6, what the code's results say, as the replies and the verdicts of the definitions: a refusal by its number.
use Rattle.std.specs.Prelude.{ℕ, Result, Ok, Err}
use Rattle.refusals.specs.declared.Refusal.{Refusal}
use Rattle.refusals.specs.declared.Refused.{Refused}
use Rattle.refusals.specs.Numbers.{refusal_number}
use Rattle.door.specs.declared.Facility.{Facility}
use Rattle.facility.specs.declared.SegmentReport.{SegmentReport}
use Rattle.facility.specs.declared.Sums.{Sums}
use Rattle.facility.specs.Calls.{Reply, ReportReply, SumsReply, no_report, no_sums}
use Rattle.facility.specs.Verdicts.{Verdict, GoesOn, RefusedBy}

-- of a laying and of a taking, with the facility after it
abbrev pub replied : Result ℕ Refused → Facility → Reply
replied (Ok used) f = record { refusal = 0; offset = 0; used = used; facility = f }
replied (Err r) f = record { refusal = refusal_number r.refusal; offset = r.offset; used = 0; facility = f }

-- of a run
abbrev pub ran : Result (Unit {0}) Refusal → Facility → Reply
ran (Ok nothing) f = record { refusal = 0; offset = 0; used = 0; facility = f }
ran (Err r) f = record { refusal = refusal_number r; offset = 0; used = 0; facility = f }

-- of a segment report
abbrev pub report_told : Result SegmentReport Refusal → ReportReply
report_told (Ok r) =
    record { refusal = 0; n = r.n; q = r.q; main = r.main; ramp = r.ramp; off = r.off; out = r.out; level = r.level; tally = r.tally; partfeet = r.partfeet }
report_told (Err r) = no_report (refusal_number r)

-- of totals
abbrev pub sums_told : Result Sums Refusal → SumsReply
sums_told (Ok s) =
    record { refusal = 0; arrived = s.arrived; left = s.left; stored = s.stored; partsteps = s.partsteps; partfeet = s.partfeet }
sums_told (Err r) = no_sums (refusal_number r)

-- of the checks of a call
abbrev pub verdict : Result (Unit {0}) Refusal → Verdict
verdict (Ok nothing) = GoesOn
verdict (Err r) = RefusedBy (refusal_number r)
