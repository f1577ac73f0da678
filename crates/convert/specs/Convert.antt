-- Manual 10.1, the converter: a whole study in the other layout, its refusals with their offsets from the study's start, and the call on a
-- lent target, to which nothing is written unless the whole study converts.
use Rattle.std.specs.Prelude.{ℕ, zero, suc, ◌+◌, List, [], ◌∷◌, ◌++◌, length, take, drop, ltb, if◌then◌else◌, Result, Ok, Err}
use Rattle.refusals.specs.Numbers.{refusal_number}
use Rattle.refusals.specs.declared.Refused.{Refused}
use Rattle.numbers.specs.Row.{Rows, ReadRow, RefusedAt}
use Rattle.numbers.specs.Writing.{Writing, Wrote, Refused as NotWritten, write_answer, write_into}
use Rattle.sheets.specs.Read.{read_road, padded}
use Rattle.sheets.specs.Write.{rows_bytes}
use Rattle.convert.specs.declared.Way.{Way}
use Rattle.convert.specs.Sheet.{converted_sheet}

-- the rows of a study's sheets, in order, or a refusal's number and its offset
pub data Sheets : Type 0 where
  AllSheets : (rows : List (List ℕ)) → Sheets
  RefusedSheet : (number offset : ℕ) → Sheets

-- a row, and then the others
unfoldable pub onto_sheets : (row : List ℕ) → Sheets → Sheets
onto_sheets row (AllSheets rows) = AllSheets (row ∷ rows)
onto_sheets row (RefusedSheet number offset) = RefusedSheet number offset

-- the sheet that starts at a place of the study, and then those behind it
unfoldable pub and_sheets : (at : ℕ) → Rows → (ℕ → Sheets) → Sheets
and_sheets at (ReadRow row used) rest = onto_sheets row (rest (at + used))
and_sheets at (RefusedAt number offset) rest = RefusedSheet number (at + offset)

-- the sheets from a place of the study on to its end, so many at most, each as `read` has it; a 97th sheet is 13, with the offset of its first byte
unfoldable pub sheets_from : (read : List ℕ → Rows) → (left : ℕ) → (bytes : List ℕ) → (at : ℕ) → Sheets
sheets_from read zero bytes at = if ltb at (length bytes) then RefusedSheet 13 at else AllSheets []
sheets_from read (suc left) bytes at =
    if ltb at (length bytes) then and_sheets at (read (drop at bytes)) (sheets_from read left bytes) else AllSheets []

-- a study's bytes in the other layout, or a refusal's number and its offset
pub data Conversion : Type 0 where
  Converted : (bytes : List ℕ) → Conversion
  Unconverted : (number offset : ℕ) → Conversion

-- a part that is copied, and the sheets behind it
unfoldable pub behind : (part : List ℕ) → Sheets → Conversion
behind part (AllSheets rows) = Converted (part ++ rows_bytes rows)
behind part (RefusedSheet number offset) = Unconverted number offset

-- the road part is copied byte for byte; at most 96 sheets
abbrev pub converted_on : Way → (bytes : List ℕ) → Rows → Conversion
converted_on way bytes (ReadRow row used) = behind (take used bytes) (sheets_from (converted_sheet way (padded row)) 96 bytes used)
converted_on way bytes (RefusedAt number offset) = Unconverted number offset

-- the conversion of a study
unfoldable pub conversion_of : Way → (bytes : List ℕ) → Conversion
conversion_of way bytes = converted_on way bytes (read_road bytes)

-- what the call answers: how many bytes were written, or the refusal's number and its offset
pub data Told : Type 0 where
  Written : (count : ℕ) → Told
  RefusedAs : (number offset : ℕ) → Told

-- the same for what `convert` answers
abbrev pub told : Result ℕ Refused → Told
told (Ok n) = Written n
told (Err r) = RefusedAs (refusal_number r.refusal) r.offset

-- of a writing; its refusal, 7, has the offset 0
abbrev pub told_by : Writing → Told
told_by (Wrote n) = Written n
told_by (NotWritten number) = RefusedAs number 0

-- the answer, and the target after it
pub record Reply : Type 0 where
  pub answer : Told
  pub target : List ℕ

-- 7 comes after all sheets are read: the whole study from the target's start on, or the target as it was
abbrev pub replied_by : Conversion → (target : List ℕ) → Reply
replied_by (Converted bytes) target = record { answer = told_by (write_answer target 0 bytes); target = write_into target 0 bytes }
replied_by (Unconverted number offset) target = record { answer = RefusedAs number offset; target = target }

-- the call
unfoldable pub convert_of : Way → (study target : List ℕ) → Reply
convert_of way study target = replied_by (conversion_of way study) target

-- the same for programs in C and Rust: two numbers, and the target after the call
pub record Exported : Type 0 where
  pub refusal : ℕ
  pub count : ℕ
  pub target : List ℕ

-- the refusal's number, 0 for none
abbrev pub refusal_of : Told → ℕ
refusal_of (Written n) = 0
refusal_of (RefusedAs number offset) = number

-- how many bytes were written, or the refusal's offset
abbrev pub count_or_offset : Told → ℕ
count_or_offset (Written n) = n
count_or_offset (RefusedAs number offset) = offset

-- the exported call
unfoldable pub export_of : Way → (study target : List ℕ) → Exported
export_of way study target =
    let reply = convert_of way study target in
    record { refusal = refusal_of reply.answer; count = count_or_offset reply.answer; target = reply.target }
