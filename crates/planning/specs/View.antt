-- Manual 11.5, what the call gives, of what the code returns and leaves in the slice.
use Rattle.std.specs.Prelude.{ℕ, List, map, Result, Ok, Err}
use Rattle.refusals.specs.Numbers.{refusal_number}
use Rattle.refusals.specs.declared.Refused.{Refused}
use Rattle.sections.specs.Section.{outcome}
use Rattle.planning.specs.declared.planned.Planned.{Planned}
use Rattle.planning.specs.Plan.{Plan, refused_plan}

abbrev pub planned : Result Planned Refused → List ℕ → Plan
planned (Ok p) slice =
    record {
      refusal = 0;
      offset = 0;
      used = p.used;
      answers = map outcome p.answers;
      density = p.density;
      letter = p.level;
      carryover = slice;
    }
planned (Err r) slice = refused_plan (refusal_number r.refusal) r.offset slice
