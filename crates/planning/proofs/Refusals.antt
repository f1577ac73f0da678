-- A refusal's number is never 0: a plan whose refusal is 0 was accepted.
use mathlib.Core.Path.{◌≡◌, refl}
use mathlib.Core.Bool.{Bool, true, false, not}
use Prim.Native.Nat.{ℕ}
use mathlib.Core.List.{List}
use native.Mathlib.Omega.{arith}
use lib.Dec.{eqb}
use lib.ListN.{length}
use borrow.Author.Tests.{eqb-true}
use Rattle.std.specs.Prelude.{if◌then◌else◌}
use Rattle.sections.specs.Section.{SectionNumbers}
use Rattle.planning_sheet.specs.Sheet.{Reads, ReadSections, NoSections, read_sheet}
use Rattle.planning_sheet.proofs.Refusals.{NamedReads, named_sheet}
use Rattle.demands.specs.Demand.{all_within, demands_of}
use Rattle.planning.specs.Plan.{Plan, refused_plan, accepted_plan, plan_from, plan_of}

-- the sheet was read, the slice has its section count, and every demand is one that a section may have
pub record AcceptedSheet (bytes carryover : List ℕ) : Type 0 where
  pub sections : List SectionNumbers
  pub used : ℕ
  pub sheet : read_sheet bytes ≡ ReadSections sections used
  pub slice : length carryover ≡ length sections
  pub demands : all_within sections carryover (length sections) ≡ true

-- the plan of a sheet that was read, by whether the slice's length is the section count and whether every demand is allowed
abbrev tested : List SectionNumbers → ℕ → List ℕ → Bool → Bool → Plan
tested sections used carryover s t =
    if not s then refused_plan 8 0 carryover
    else if not t then refused_plan 15 0 carryover
    else accepted_plan sections used (demands_of sections carryover)

plan_by : (sections : List SectionNumbers) (used : ℕ) (carryover : List ℕ) (s t : Bool) → (tested sections used carryover s t).refusal ≡ 0
    → (s ≡ true) × (t ≡ true)
unfolding refused_plan
plan_by sections used carryover true true e = (refl, refl)
plan_by sections used carryover true false e = absurd (omega arith)
plan_by sections used carryover false t e = absurd (omega arith)

from_taken : (bytes carryover : List ℕ) (x : Reads) → read_sheet bytes ≡ x → NamedReads x → (plan_from x carryover).refusal ≡ 0 → AcceptedSheet bytes carryover
unfolding plan_from refused_plan
from_taken bytes carryover (ReadSections sections used) e h z =
    let b = plan_by sections used carryover (eqb (length carryover) (length sections)) (all_within sections carryover (length sections)) z in
    record { sections = sections; used = used; sheet = e; slice = eqb-true (length carryover) (length sections) b.0; demands = b.1 }
from_taken bytes carryover (NoSections x at) e h z = absurd (omega arith)

pub accepted : (bytes carryover : List ℕ) → (plan_of bytes carryover).refusal ≡ 0 → AcceptedSheet bytes carryover
unfolding plan_of
accepted bytes carryover z = from_taken bytes carryover (read_sheet bytes) refl (named_sheet bytes) z
