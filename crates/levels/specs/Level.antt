-- Manual 5, the level letter (urban limits; a vehicle counts as one passenger car).
use Rattle.std.specs.Prelude.{ℕ, ◌*◌, Bool, leb, if◌then◌else◌}
use Rattle.levels.specs.declared.Level.{Level}
use Rattle.levels.specs.declared.Level.TheVariants.{A, B, C, D, E, F}

-- A within 11, then B, C, D, E within 18, 26, 35, 45, else F
unfoldable pub graded : (within : ℕ → Bool) → Level
graded within =
    if within 11 then A
    else if within 18 then B
    else if within 26 then C
    else if within 35 then D
    else if within 45 then E
    else F

-- 22 × n is at most the limit × L × w, of the area L × w; w are the lanes in force (4.1)
unfoldable pub holds_at_most : (limit parts area : ℕ) → Bool
holds_at_most k n area = leb (22 * n) (k * area)

-- the letter of n parts in an area, by the limits that they hold
unfoldable pub level_by : (parts area : ℕ) → Level
level_by n area = graded (λ k. holds_at_most k n area)

-- the letter of a segment that holds n parts, of its length and the lanes in force
unfoldable pub level_of : (parts length lanes : ℕ) → Level
level_of n l w = level_by n (l * w)

-- the letter, as its byte
unfoldable pub letter_byte : Level → ℕ
letter_byte A = 65
letter_byte B = 66
letter_byte C = 67
letter_byte D = 68
letter_byte E = 69
letter_byte F = 70
