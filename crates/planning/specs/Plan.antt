-- Manual 11.5, the planning call: from a sheet's bytes and the carryover to every number that it gives back, refused or not.
use Rattle.std.specs.Prelude.{ℕ, not, List, eqb, Float, length, replicate, if◌then◌else◌}
use Rattle.levels.specs.declared.Level.{Level}
use Rattle.levels.specs.declared.Level.TheVariants.{A}
use Rattle.sections.specs.Real.{real}
use Rattle.sections.specs.Section.{SectionNumbers, Outcome, no_answer}
use Rattle.planning_sheet.specs.Sheet.{Reads, ReadSections, NoSections, read_sheet}
use Rattle.demands.specs.Demand.{all_within, demands_of}
use Rattle.demands.specs.Carryover.{carryover_of}
use Rattle.solving.specs.Facility.{letter_of, answers_of, totals_of, facility_density}

-- what the call gives: a refusal's number (0 for none) and offset, the bytes used, the section answers, the facility's density and
-- letter, and the carryover slice
pub record Plan : Type 0 where
  pub refusal : ℕ
  pub offset : ℕ
  pub used : ℕ
  pub answers : List Outcome
  pub density : Float
  pub letter : Level
  pub carryover : List ℕ

-- a refusal: every other number 0, the letter A, every answer free with zeros, the slice unaltered
unfoldable pub refused_plan : ℕ → ℕ → List ℕ → Plan
refused_plan e at carryover =
    record {
      refusal = e;
      offset = at;
      used = 0;
      answers = replicate 64 no_answer;
      density = real 0;
      letter = A;
      carryover = carryover;
    }

-- the sections under their demands; every section's new carryover replaces the old
unfoldable pub accepted_plan : List SectionNumbers → ℕ → List ℕ → Plan
accepted_plan sections used demands =
    let t = totals_of sections demands (length sections) in
    record {
      refusal = 0;
      offset = 0;
      used = used;
      answers = answers_of sections demands;
      density = facility_density t;
      letter = letter_of (facility_density t) t.queued;
      carryover = carryover_of sections demands;
    }

-- the order of the checks: 1 to 4 field by field; 8, the slice's length isn't the section count; 15, a demand below 0 or above 1,000,000
unfoldable pub plan_from : Reads → List ℕ → Plan
plan_from (NoSections e at) carryover = refused_plan e at carryover
plan_from (ReadSections sections used) carryover =
    if not (eqb (length carryover) (length sections)) then refused_plan 8 0 carryover
    else if not (all_within sections carryover (length sections)) then refused_plan 15 0 carryover
    else accepted_plan sections used (demands_of sections carryover)

unfoldable pub plan_of : List ℕ → List ℕ → Plan
plan_of bytes carryover = plan_from (read_sheet bytes) carryover
