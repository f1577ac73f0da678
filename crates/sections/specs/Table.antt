-- Manual 11.3: the table of A, B, C, D and E by free-flow speed (HCM Exhibit 25-16).
use Rattle.std.specs.Prelude.{ℕ, Bool, ◌||◌, eqb, if◌then◌else◌}
use Rattle.std.specs.Float.Ieee.{round}
use Rattle.sections.specs.declared.table.Row.{Row}
use Rattle.sections.specs.Real.{hundredths, minus_hundredths}

unfoldable pub row75 : Row
unfolding hundredths minus_hundredths round
row75 = record { a = hundredths 6899; b = minus_hundredths 7797; c = hundredths 3404; d = minus_hundredths 582; e = hundredths 44 }

unfoldable pub row70 : Row
unfolding hundredths minus_hundredths round
row70 = record { a = hundredths 7124; b = minus_hundredths 8548; c = hundredths 3558; d = minus_hundredths 544; e = hundredths 52 }

unfoldable pub row65 : Row
unfolding hundredths minus_hundredths round
row65 = record { a = hundredths 9245; b = minus_hundredths 12733; c = hundredths 5634; d = minus_hundredths 800; e = hundredths 62 }

unfoldable pub row60 : Row
unfolding hundredths minus_hundredths round
row60 = record { a = hundredths 12135; b = minus_hundredths 18484; c = hundredths 8321; d = minus_hundredths 933; e = hundredths 72 }

unfoldable pub row55 : Row
unfolding hundredths minus_hundredths round
row55 = record { a = hundredths 15643; b = minus_hundredths 24899; c = hundredths 9920; d = minus_hundredths 12; e = hundredths 82 }

-- FFS is one of the five
unfoldable pub tabled : ℕ → Bool
tabled ffs = eqb ffs 75 || eqb ffs 70 || eqb ffs 65 || eqb ffs 60 || eqb ffs 55

-- the row of a tabled FFS
unfoldable pub row_of : ℕ → Row
row_of ffs =
    if eqb ffs 75 then row75 else if eqb ffs 70 then row70 else if eqb ffs 65 then row65 else if eqb ffs 60 then row60 else row55
