-- Manual 6 and 7, zero bytes as a period sheet among them (6.3): the checks of each call that has any beside 9, 7 and the reading of a road, in
-- their order, from the road, the sheets taken so far, the steps made under the last, and the argument. Each table stands here alone; the calls
-- and the ledger both use it. 9, that the facility is the empty one, is asked before these.
use Rattle.std.specs.Prelude.{ℕ, ◌-◌, Bool, ◌&&◌, ◌||◌, List, length, leb, ltb, eqb, if◌then◌else◌}
use Rattle.numbers.specs.Row.{Rows, ReadRow, RefusedAt}
use Rattle.conditions.specs.Conditions.{segments}

-- the call goes on, or it is refused by a number (its offset is 0)
pub data Verdict : Type 0 where
  GoesOn : Verdict
  RefusedBy : (number : ℕ) → Verdict

-- k is outside low..high
abbrev pub outside : (low high k : ℕ) → Bool
outside low high k = ltb k low || ltb high k

-- 12: the period in force isn't run out
unfoldable pub unfinished : (taken made : ℕ) → Bool
unfinished taken made = ltb 0 taken && ltb made 60

-- what a taking comes to: a new sheet, its row and the bytes used; the same sheet, the one in force, once more; or a refusal with its offset
pub data Taking : Type 0 where
  NewSheet : (row : List ℕ) (used : ℕ) → Taking
  SameSheet : Taking
  NotTaken : (number offset : ℕ) → Taking

-- of a sheet that has bytes: field by field 1, 2, 3 and 4 (14 for NS) with the field's offset, by the reading of a sheet on the road
abbrev pub as_read : Rows → Taking
as_read (ReadRow row used) = NewSheet row used
as_read (RefusedAt number offset) = NotTaken number offset

-- of zero bytes: 10, no period taken yet; else the sheet in force once more, open lanes included
unfoldable pub repeat_verdict : (taken : ℕ) → Taking
repeat_verdict taken = if eqb taken 0 then NotTaken 10 0 else SameSheet

-- Take a period sheet: 12; 13, 96 periods are taken; then zero bytes are the same sheet once more, and only others are read
unfoldable pub take_verdict : (read : List ℕ → Rows) (taken made : ℕ) (bytes : List ℕ) → Taking
take_verdict read taken made bytes =
    if unfinished taken made then NotTaken 12 0
    else if leb 96 taken then NotTaken 13 0
    else if eqb (length bytes) 0 then repeat_verdict taken
    else as_read (read bytes)

-- Run k steps: 5, k is outside 1..60; 10, no period taken yet; 11, fewer than k steps remain in the period
unfoldable pub run_verdict : (taken made k : ℕ) → Verdict
run_verdict taken made k =
    if outside 1 60 k then RefusedBy 5
    else if eqb taken 0 then RefusedBy 10
    else if ltb (60 - made) k then RefusedBy 11
    else GoesOn

-- Segment report: 6, the segment number is outside 1..NS
unfoldable pub report_verdict : (road : List ℕ) (segment : ℕ) → Verdict
report_verdict road i = if outside 1 (segments road) i then RefusedBy 6 else GoesOn

-- Write the period in force: 10, no period taken yet (then 7, as every writing)
unfoldable pub period_verdict : (taken : ℕ) → Verdict
period_verdict taken = if eqb taken 0 then RefusedBy 10 else GoesOn
