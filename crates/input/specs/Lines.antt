-- A line of a file (no rule of the manual).
use Rattle.std.specs.Prelude.{ℕ, length}
use Rattle.input.specs.declared.Line.{Line}
use Rattle.input.specs.declared.Line.TheVariants.{Whole, Long}

-- how many bytes of it were taken
abbrev pub line_length : Line → ℕ
line_length (Whole bytes) = length bytes.now
line_length (Long bytes) = length bytes.now
