-- The claim that nothing is faster than free flow holds of every sheet and carryover.
use mathlib.Core.Path.{◌≡◌, refl, sym, subst, ◌∙◌}
use mathlib.Core.Bool.{true}
use mathlib.Core.List.{List}
use Prim.Native.Nat.{ℕ, ◌≤◌, ◌<◌}
use native.Mathlib.Nat.{le_trans}
use native.Mathlib.Omega.{arith}
use lib.ListN.{length, get_or}
use borrow.Author.Tests.{eq-eqb}
use Rattle.sections.specs.Section.{SectionNumbers, no_answer, answer_of}
use Rattle.sections.specs.Good.{GoodSection}
use Rattle.sections.proofs.FreeFlow.{no_faster}
use Rattle.planning_sheet.specs.Sheet.{ReadSections, read_sheet, section_at}
use Rattle.planning_sheet.proofs.Ranges.{GoodSheet, sheet_good}
use Rattle.planning_sheet.proofs.Listed.{get_or-first_padded}
use Rattle.demands.specs.Demand.{all_within, demand_at, demands_of}
use Rattle.demands.proofs.Sums.{demand_most}
use Rattle.solving.specs.Facility.{answer_at, answers_of}
use Rattle.planning.specs.Plan.{plan_from, plan_of, accepted_plan}
use Rattle.planning.specs.Statement.{NoneFaster}
use Rattle.planning.proofs.Refusals.{accepted}

-- the answers of an accepted plan
answers_are : (bytes carryover : List ℕ) (sections : List SectionNumbers) (used : ℕ) → read_sheet bytes ≡ ReadSections sections used
    → length carryover ≡ length sections → all_within sections carryover (length sections) ≡ true
    → (plan_of bytes carryover).answers ≡ answers_of sections (demands_of sections carryover)
unfolding plan_of plan_from accepted_plan
answers_are bytes carryover sections used e l w = rw (e, eq-eqb (length carryover) (length sections) l, w) refl

-- the answer at a place, and the demand
answer_in : (sections : List SectionNumbers) (demands : List ℕ) (i : ℕ) → i < length sections
    → get_or (answers_of sections demands) i no_answer ≡ answer_of (section_at sections i) (get_or demands i 0)
unfolding answers_of answer_at
answer_in sections demands i h = get_or-first_padded 64 (length sections) (answer_at sections demands) no_answer i no_answer h

demand_in : (sections : List SectionNumbers) (carryover : List ℕ) (i : ℕ) → i < length sections → all_within sections carryover (length sections) ≡ true
    → get_or (demands_of sections carryover) i 0 ≤ 1000000
unfolding demands_of
demand_in sections carryover i h w =
    rw (get_or-first_padded 64 (length sections) (demand_at sections carryover) 0 i 0 h) (demand_most sections carryover i (length sections) h w)

-- a section that was read is good
section_good : (bytes : List ℕ) (sections : List SectionNumbers) (used : ℕ) → read_sheet bytes ≡ ReadSections sections used
    → (i : ℕ) → i < length sections → GoodSection (section_at sections i)
section_good bytes sections used e = let good : GoodSheet (ReadSections sections used) = subst GoodSheet e (sheet_good bytes) in good.1

pub none_faster : (bytes carryover : List ℕ) → NoneFaster bytes carryover
none_faster bytes carryover sections used e z i h =
    let a = accepted bytes carryover z in
    let same : ReadSections a.sections a.used ≡ ReadSections sections used = sym a.sheet ∙ e in
    let here : a.sections ≡ sections = cc in
    let slice : length carryover ≡ length sections = subst (λ (xs : List SectionNumbers). length carryover ≡ length xs) here a.slice in
    let within : all_within sections carryover (length sections) ≡ true = subst (λ (xs : List SectionNumbers). all_within xs carryover (length xs) ≡ true) here a.demands in
    let demands = demands_of sections carryover in
    rw (answers_are bytes carryover sections used e slice within, answer_in sections demands i h)
    (no_faster (section_at sections i) (section_good bytes sections used e i h) (get_or demands i 0) (le_trans (demand_in sections carryover i h within) (omega arith)))
