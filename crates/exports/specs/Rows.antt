-- Manual 13: answers as rows of numbers for C and Rust, one row behind the other, each number at its place.
use Rattle.std.specs.Prelude.{ℕ, ◌+◌, List, [], ◌∷◌, ◌++◌, length, take, drop}

-- the rows of a list's values, one behind the other
unfoldable pub joined : {A : Type 0} → (row : A → List ℕ) → List A → List ℕ
joined row [] = []
joined row (x ∷ xs) = row x ++ joined row xs

-- the numbers with a row from the place k on; the others as they were
unfoldable pub put_row : (row numbers : List ℕ) (k : ℕ) → List ℕ
put_row row numbers k = take k numbers ++ (row ++ drop (k + length row) numbers)
