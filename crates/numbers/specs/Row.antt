-- Manual 3.2: fields one after the other, refused with the offset of the field's first byte. Said once, for every sheet;
-- a sheet says how the field of each place is read.
use Rattle.std.specs.Prelude.{ℕ, zero, suc, ◌+◌, ◌-◌, ◌<◌, List, [], ◌∷◌, ◌++◌, length, get_or, replicate}
use Rattle.numbers.specs.Number.{Reading, Read, Refused}

-- a row of numbers and the place after them, or a refusal's number and its offset
pub data Rows : Type 0 where
  ReadRow : List ℕ → ℕ → Rows
  RefusedAt : ℕ → ℕ → Rows

-- the numbers xs, and then those of a row
unfoldable pub onto : List ℕ → Rows → Rows
onto xs (ReadRow ys next) = ReadRow (xs ++ ys) next
onto xs (RefusedAt e at) = RefusedAt e at

-- the field at an offset, and then the rest of the row
unfoldable pub and_then : ℕ → Reading → (ℕ → Rows) → Rows
and_then at (Read v next) rest = onto (v ∷ []) (rest next)
and_then at (Refused e) rest = RefusedAt e at

-- so many fields, from the place k of a sheet on and from an offset of the bytes on; `field k at` reads the field of the place k there
unfoldable pub fields : ((place at : ℕ) → Reading) → (left place at : ℕ) → Rows
fields field zero k at = ReadRow [] at
fields field (suc left) k at = and_then at (field k at) (fields field left (k + 1))

-- a row with zeros after it, to so many places
abbrev pub padded_to : ℕ → List ℕ → List ℕ
padded_to size row = row ++ replicate (size - length row) 0

-- what holds of each number of a row and its place, counted from the place k on
abbrev pub Each : (ℕ → ℕ → Type 0) → ℕ → List ℕ → Type 0
Each P k row = (j : ℕ) → j < length row → P (k + j) (get_or row j 0)
