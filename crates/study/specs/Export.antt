-- Manual 13.1: a forecast as 265 numbers, in the order of the header, for programs in C and Rust.
use Rattle.std.specs.Prelude.{ℕ, List, [], ◌∷◌, ◌++◌, length, drop, ltb, if◌then◌else◌}
use Rattle.exports.specs.Rows.{joined}
use Rattle.study.specs.Forecast.{Line, Listing, forecast_of}

-- n, q, the letter and the part-feet of a line
unfoldable pub line_row : Line → List ℕ
line_row l = l.n ∷ l.q ∷ l.letter ∷ l.partfeet ∷ []

-- the refusal's number and place, NS, the totals, and o
abbrev pub head_row : Listing → List ℕ
head_row x = x.refusal ∷ x.place ∷ x.segments ∷ x.arrived ∷ x.left ∷ x.stored ∷ x.partsteps ∷ x.partfeet ∷ x.origin ∷ []

-- these, and the 64 lines behind them
unfoldable pub listing_numbers : Listing → List ℕ
listing_numbers x = head_row x ++ joined line_row x.lines

-- how many: nine, and four for each of 64 lines
abbrev pub room : ℕ
room = 265

-- as refusal 7, before the study is looked at: `out` has fewer than 265 numbers; else the refusal of the study, or 0
unfoldable pub export_answer : (study out : List ℕ) → ℕ
export_answer study out = if ltb (length out) room then 7 else (forecast_of study).refusal

-- `out` afterwards: the numbers in front and the rest as it was, or all as it was
unfoldable pub export_into : (study out : List ℕ) → List ℕ
export_into study out = if ltb (length out) room then out else listing_numbers (forecast_of study) ++ drop room out
