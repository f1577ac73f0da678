-- The numbers of a plan: the head, then a row for each of 64 sections; and what is handed out.
use Rattle.std.proofs.Common.{◌≡◌, ℕ, ◌+◌, ◌*◌, ◌≤◌, ◌<◌, refl, sym, ap, ◌∙◌, List, length, get_or, replicate, slice_index_or, arith}
use borrow.Author.Tests.{lt-ltb, le-ltb}
use Rattle.numbers.proofs.Stores.{stored_to}
use Rattle.exports.specs.Rows.{joined, put_row}
use Rattle.exports.proofs.Joined.{row_more, rows_more, in_front, stored_all, joined_length}
use lib.Ieee.{of_int, to_bits}
use Rattle.std.specs.Prelude.{Result, Ok, Err, [], map}
use Rattle.std.proofs.lemmas.List.{length-map, get_or-map}
use Rattle.refusals.specs.declared.Refused.{Refused}
use Rattle.sections.specs.Real.{real}
use Rattle.sections.specs.declared.answer.Answer.{Answer}
use Rattle.planning.specs.declared.planned.Planned.{Planned}
use Rattle.planning.specs.View.{planned}
use Rattle.sections.specs.Section.{Outcome, outcome, free, slowed, queued}
use Rattle.planning.specs.Plan.{Plan, refused_plan, plan_of}
use Rattle.planning.specs.Export.{bits, answer_row, head_row, plan_numbers, room, export_of}

-- what isn't there is a zero
pub zero_bits : bits (real 0) ≡ 0
unfolding to_bits of_int
zero_bits = refl

row_width : (o : Outcome) → length (answer_row o) ≡ 5
unfolding answer_row
row_width (free v k) = refl
row_width (slowed ru v k) = refl
row_width (queued ru ro v k) = refl

-- the first numbers of a plan as they are, and zeros behind them
abbrev pub put_to : Plan → ℕ → List ℕ
put_to p k = stored_to (plan_numbers p) (replicate room 0) k

-- a plan has 64 answers
pub many_answers : (given : Result Planned Refused) (slice : List ℕ) → length (planned given slice).answers ≡ 64
unfolding refused_plan
many_answers (Ok p) slice = length-map p.answers outcome ∙ p.room
many_answers (Err e) slice = refl

module _ (p : Plan) (many : length p.answers ≡ 64) where
  pub all_length : length (plan_numbers p) ≡ room
  unfolding plan_numbers
  all_length = omega (arith, joined_length answer_row 5 row_width p.answers, many)

  pub put_head : put_row (head_row p) (replicate room 0) 0 ≡ put_to p 5
  unfolding plan_numbers
  put_head = row_more (plan_numbers p) (replicate room 0) (head_row p) (joined answer_row p.answers) 0 (omega arith) refl

  pub put_more : (i : ℕ) (d : Outcome) → i < 64 → put_row (answer_row (get_or p.answers i d)) (put_to p (5 + 5 * i)) (5 + 5 * i) ≡ put_to p (5 + 5 * (i + 1))
  unfolding plan_numbers
  put_more i d h =
      let end : 5 + 5 * i + 5 ≡ 5 + 5 * (i + 1) = omega arith in
      rows_more answer_row 5 row_width (head_row p) p.answers (replicate room 0) (5 + 5 * i) i d (omega (arith, many)) refl (omega (arith, all_length))
      ∙ ap (put_to p) end

  pub put_all : put_to p room ≡ plan_numbers p
  put_all = stored_all (plan_numbers p) (replicate room 0) room all_length refl

-- the answers as the code holds them
module _ (given : Result Planned Refused) (answers : List Answer) (is : map outcome answers ≡ (planned given []).answers) where
  pub answer_put : (i : ℕ) (d : Answer) → i < 64
      → let p = planned given [] in
      put_row (answer_row (outcome (get_or answers i d))) (put_to p (5 + 5 * i)) (5 + 5 * i) ≡ put_to p (5 + 5 * (i + 1))
  answer_put i d h =
      let p = planned given [] in
      let many : length answers ≡ 64 = sym (length-map answers outcome) ∙ ap (length {A = Outcome}) is ∙ many_answers given [] in
      let there : get_or p.answers i (outcome d) ≡ outcome (get_or answers i d) = rw (← is) (get_or-map outcome answers i d (outcome d) (omega (arith, many))) in
      rw (← there) (put_more p (many_answers given []) i (outcome d) h)

-- ---- what is handed out
pub too_short : (sheet carryover out : List ℕ) → length out < room → record { answer = 7; carryover = carryover; out = out } ≡ export_of sheet carryover out
unfolding export_of
too_short sheet carryover out h = rw (lt-ltb (length out) room h)

-- the first number is the refusal
first_number : (p : Plan) → slice_index_or (plan_numbers p) 0 0 ≡ p.refusal
unfolding plan_numbers
first_number p = refl

-- the numbers of what the call returned do not depend on what it left in the slice
numbers_same : (given : Result Planned Refused) (slice : List ℕ) → plan_numbers (planned given []) ≡ plan_numbers (planned given slice)
unfolding plan_numbers refused_plan
numbers_same (Ok p) slice = refl
numbers_same (Err e) slice = refl

slice_of : (given : Result Planned Refused) (slice : List ℕ) → (planned given slice).carryover ≡ slice
unfolding refused_plan
slice_of (Ok p) slice = refl
slice_of (Err e) slice = refl

pub counted : (given : Result Planned Refused) (numbers : List ℕ) → numbers ≡ plan_numbers (planned given []) → length numbers ≡ room
counted given numbers is = ap (length {A = ℕ}) is ∙ all_length (planned given []) (many_answers given [])

pub handed_is : (sheet carryover out numbers handed slice : List ℕ) (given : Result Planned Refused) → room ≤ length out
    → planned given slice ≡ plan_of sheet carryover → numbers ≡ plan_numbers (planned given []) → handed ≡ put_row numbers out 0
    → record { answer = slice_index_or numbers 0 0; carryover = slice; out = handed } ≡ export_of sheet carryover out
unfolding export_of
handed_is sheet carryover out numbers handed slice given enough is all put =
    let of_plan : numbers ≡ plan_numbers (plan_of sheet carryover) = all ∙ numbers_same given slice ∙ ap plan_numbers is in
    let front = put ∙ in_front numbers out room (counted given numbers all) in
    let answer : slice_index_or numbers 0 0 ≡ (plan_of sheet carryover).refusal = ap (λ (l : List ℕ). slice_index_or l 0 0) of_plan ∙ first_number (plan_of sheet carryover) in
    let left : slice ≡ (plan_of sheet carryover).carryover = sym (slice_of given slice) ∙ ap (λ (p : Plan). p.carryover) is in
    rw (le-ltb (length out) room enough, answer, left, front, of_plan) refl
