-- Lists of a function's values, one after the other, for the planning sheet (manual 11): no rule of its own. Section answers, demands and the
-- new carryover each go by the section's place.
use Rattle.std.specs.Prelude.{ℕ, ◌-◌, List, ◌++◌, map, replicate}
use Rattle.std.specs.List.{range_with_len}

-- g 0 to g (n − 1)
unfoldable pub first : {A : Type 0} → ℕ → (ℕ → A) → List A
first n g = map g (range_with_len 0 n)

-- the same, and z after them, to `size` places
abbrev pub first_padded : {A : Type 0} → ℕ → ℕ → (ℕ → A) → A → List A
first_padded size n g z = first n g ++ replicate (size - n) z
