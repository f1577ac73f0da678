-- Manual 3.1 and 4.11: the worked examples as rows of one table, each held to the definitions.
use Rattle.std.specs.Prelude.{ℕ, ◌≡◌, List, [], ◌∷◌, drop}
use Rattle.numbers.specs.Number.{Reading, Read, Refused, read_number}
use Rattle.numbers.specs.Row.{Rows, ReadRow, RefusedAt}
use Rattle.sheets.specs.Read.{read_road, padded}
use Rattle.rules.specs.Rules.{Split as SplitBy, off, most_leaving, ramp_flow, main_flow, leaving}
use Rattle.steps.specs.Step.{cell_in}
use Rattle.facility.specs.Ledger.{Take, Run, state_after, left_in, partsteps_in, Book, opened, book_after}

-- what a road of one segment has after so many steps: n, o, left and part-steps
pub record Steps : Type 0 where
  pub n : ℕ
  pub o : ℕ
  pub left : ℕ
  pub partsteps : ℕ

pub data Row : Type 0 where
  -- a number's bytes, and what reading them gives
  Number : (bytes : List ℕ) → Reading → Row
  -- a road's bytes, and the number and offset of their refusal
  Road : (bytes : List ℕ) (number offset : ℕ) → Row
  -- a merge with P, w, M and W gives r and f
  Merge : (P w M W r f : ℕ) → Row
  -- a split with s, F, D and the f ahead gives y and off(y); with s, F and D alone, Y0
  Split : (s F D f y off_y : ℕ) → Row
  Most : (s F D Y0 : ℕ) → Row
  -- a study's bytes after so many steps under its first period
  Study : (bytes : List ℕ) (steps : ℕ) → Steps → Row

abbrev steps_on : Book → Steps
steps_on b = record {
  n = (cell_in (state_after b.trail) 0).n;
  o = (state_after b.trail).origin;
  left = left_in b.trail;
  partsteps = partsteps_in b.trail;
}

-- a study's road laid, its first period taken and k steps made; a road that is refused has none
abbrev steps_after : Rows → List ℕ → ℕ → Steps
steps_after (ReadRow row used) bytes k = steps_on (book_after (opened (padded row)) (Take (drop used bytes) ∷ Run k ∷ []))
steps_after (RefusedAt number offset) bytes k = steps_on (opened [])

-- a split by the share s, with remainder 0
abbrev by : ℕ → SplitBy
by s = record { share = s; remainder = 0 }

-- the row is what the definitions say
abbrev pub Agrees : Row → Type 0
Agrees (Number bytes r) = read_number bytes 0 ≡ r
Agrees (Road bytes number offset) = read_road bytes ≡ RefusedAt number offset
Agrees (Merge p n m w r f) = (ramp_flow p n m w ≡ r) × (main_flow m p (ramp_flow p n m w) ≡ f)
Agrees (Split s f d ahead y off_y) = (leaving (by s) (most_leaving (by s) f d) ahead ≡ y) × (off (by s) (leaving (by s) (most_leaving (by s) f d) ahead) ≡ off_y)
Agrees (Most s f d y0) = most_leaving (by s) f d ≡ y0
Agrees (Study bytes k x) = steps_after (read_road bytes) bytes k ≡ x

-- every row is
abbrev pub AllAgree : List Row → Type 0
AllAgree [] = Unit {0}
AllAgree (r ∷ rs) = Agrees r × AllAgree rs

-- the worked study
abbrev pub worked : List ℕ
worked =
    0x01 ∷ 0xBE ∷ 0x01 ∷ 0x2D ∷ 0x07 ∷ 0xA8 ∷ 0x0A ∷ 0x02 ∷ 0x3C ∷ 0xB0 ∷ 0x22 ∷ 0x00 ∷ 0x00 ∷ 0x00
    ∷ 0x01 ∷ 0xC0 ∷ 0x25 ∷ 0x90 ∷ 0x4E ∷ 0x00 ∷ 0x00 ∷ 0x02 ∷ []

-- the worked examples
abbrev pub table : List Row
table =
    Number [] (Refused 1)
    ∷ Number (0xBE ∷ 0x01 ∷ []) (Read 190 2)
    ∷ Number (0xBE ∷ 0x81 ∷ 0x00 ∷ []) (Refused 3)
    ∷ Number (0xFF ∷ 0xFF ∷ 0xFF ∷ 0xFF ∷ 0x0F ∷ []) (Read 4294967295 5)
    ∷ Number (0xFF ∷ 0xFF ∷ 0xFF ∷ 0xFF ∷ 0x10 ∷ []) (Refused 2)
    ∷ Road [] 1 0
    ∷ Merge 4000 2 3900 500 500 3500
    ∷ Merge 4000 2 3900 1500 1000 3000
    ∷ Merge 4000 2 1000 4000 3000 1000
    ∷ Split 250 1 7 4 5 1
    ∷ Most 250 1 9 7
    ∷ Study worked 3 (record { n = 4092; o = 1816; left = 8492; partsteps = 15908 })
    ∷ []
