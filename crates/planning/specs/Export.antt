-- Manual 13.3: a plan as 325 numbers, in the order of the header, for programs in C and Rust.
use Rattle.std.specs.Prelude.{ℕ, List, [], ◌∷◌, ◌++◌, length, drop, ltb, if◌then◌else◌, Float, to_bits}
use Rattle.std.specs.Float.{binary64}
use Rattle.levels.specs.Level.{letter_byte}
use Rattle.exports.specs.Rows.{joined}
use Rattle.sections.specs.Section.{Outcome, free, slowed, queued}
use Rattle.planning.specs.Plan.{Plan, plan_of}

-- an f64 by its bits
abbrev pub bits : Float → ℕ
bits x = to_bits binary64 x

-- a section's answer: its case (0 free, 1 slowed, 2 queued), RU, RO, speed and density; 0 for what its case has not
unfoldable pub answer_row : Outcome → List ℕ
answer_row (free v k) = 0 ∷ 0 ∷ 0 ∷ bits v ∷ bits k ∷ []
answer_row (slowed ru v k) = 1 ∷ bits ru ∷ 0 ∷ bits v ∷ bits k ∷ []
answer_row (queued ru ro v k) = 2 ∷ bits ru ∷ bits ro ∷ bits v ∷ bits k ∷ []

-- the refusal's number and offset, the bytes used, the facility's density and letter
abbrev pub head_row : Plan → List ℕ
head_row p = p.refusal ∷ p.offset ∷ p.used ∷ bits p.density ∷ letter_byte p.letter ∷ []

-- these, and the answers of 64 sections behind them
unfoldable pub plan_numbers : Plan → List ℕ
plan_numbers p = head_row p ++ joined answer_row p.answers

-- how many: five, and five for each of 64 sections
abbrev pub room : ℕ
room = 325

-- what the exported call gives: its answer, and the two lent slices after it
pub record Exported : Type 0 where
  pub answer : ℕ
  pub carryover : List ℕ
  pub out : List ℕ

-- a plan handed out: the refusal's number, the slice that it leaves, and its numbers in front of `out`, whose rest is as it was
abbrev pub handed_out : Plan → List ℕ → Exported
handed_out p out = record { answer = p.refusal; carryover = p.carryover; out = plan_numbers p ++ drop room out }

-- as refusal 7, before the sheet is looked at: `out` has fewer than 325 numbers, and both slices are as they were
unfoldable pub export_of : (sheet carryover out : List ℕ) → Exported
export_of sheet carryover out =
    if ltb (length out) room then record { answer = 7; carryover = carryover; out = out } else handed_out (plan_of sheet carryover) out
