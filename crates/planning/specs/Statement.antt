-- Manual 11.6, never faster than free flow: the claim on every sheet and carryover.
use Rattle.std.specs.Prelude.{ℕ, ◌≡◌, ◌<◌, List, length, get_or}
use Rattle.sections.specs.Section.{SectionNumbers, no_answer}
use Rattle.sections.specs.Claims.{NoFaster}
use Rattle.planning_sheet.specs.Sheet.{ReadSections, read_sheet, section_at}
use Rattle.planning.specs.Plan.{plan_of}

-- THE CLAIM: where a plan isn't refused, the answer at each section's place has a rate RU of zero or more and, unless it is a queued one, no speed
-- above that section's free-flow speed
abbrev pub NoneFaster : List ℕ → List ℕ → Type 0
NoneFaster bytes carryover =
    (sections : List SectionNumbers) (used : ℕ) → read_sheet bytes ≡ ReadSections sections used → (plan_of bytes carryover).refusal ≡ 0
    → (i : ℕ) → i < length sections → NoFaster (section_at sections i) (get_or (plan_of bytes carryover).answers i no_answer)
