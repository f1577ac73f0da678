-- The table of five rows, searched for a free-flow speed.
use mathlib.Core.Path.{◌≡◌, refl, ap, ◌∙◌}
use mathlib.Core.Bool.{Bool, true, false, ◌||◌}
use mathlib.Core.List.{List, [], ◌∷◌}
use Prim.Native.Nat.{ℕ}
use lib.Dec.{eqb}
use Rattle.std.specs.Prelude.{Option, Some, None, unwrap_or, if◌then◌else◌, find}
use Rattle.std.specs.Option.{option_map}
use denote.Ref.{Bor}
use Rattle.std.specs.List.{list_any}
use Rattle.sections.specs.declared.table.Row.{Row}
use Rattle.sections.specs.declared.table.Tabled.{Tabled}
use Rattle.sections.specs.Table.{tabled, row_of, row75, row70, row65, row60, row55}

abbrev at : ℕ → Row → Tabled
at ffs row = record { ffs = ffs; row = row }

abbrev pub table : List Tabled
table = at 75 row75 ∷ at 70 row70 ∷ at 65 row65 ∷ at 60 row60 ∷ at 55 row55 ∷ []

-- the search's test of a row
abbrev pub is_of : ℕ → Tabled → Bool
is_of ffs t = eqb ffs t.ffs

any_by : (p q r s t : Bool) → (p || (q || (r || (s || (t || false))))) ≡ (p || q || r || s || t)
any_by true q r s t = refl
any_by false true r s t = refl
any_by false false true s t = refl
any_by false false false true t = refl
any_by false false false false true = refl
any_by false false false false false = refl

-- the look-up's answer, by the five tests
abbrev picked : Bool → Bool → Bool → Bool → Bool → Option Tabled
picked p q r s t =
    if p then Some (at 75 row75) else if q then Some (at 70 row70) else if r then Some (at 65 row65)
    else if s then Some (at 60 row60) else if t then Some (at 55 row55) else None

abbrev chosen : Bool → Bool → Bool → Bool → Row
chosen p q r s = if p then row75 else if q then row70 else if r then row65 else if s then row60 else row55

some_by : (p q r s t : Bool) (x : Tabled) → Some x ≡ picked p q r s t → x.row ≡ chosen p q r s
some_by true q r s t x e = cc
some_by false true r s t x e = cc
some_by false false true s t x e = cc
some_by false false false true t x e = cc
some_by false false false false true x e = cc
some_by false false false false false x e = cc

none_by : (p q r s t : Bool) → None ≡ picked p q r s t → row55 ≡ chosen p q r s
none_by true q r s t e = cc
none_by false true r s t e = cc
none_by false false true s t e = cc
none_by false false false true t e = cc
none_by false false false false t e = refl

module _ (ffs : ℕ) where
  pub any_tabled : list_any (is_of ffs) table ≡ tabled ffs
  unfolding tabled
  any_tabled = any_by (eqb ffs 75) (eqb ffs 70) (eqb ffs 65) (eqb ffs 60) (eqb ffs 55)

  -- what the search finds, or else the last row
  pub found : (r : Option (Bor Tabled)) (last : Bor Tabled) → last.now ≡ at 55 row55 → option_map (λ x. x.now) r ≡ find (is_of ffs) table
      → (unwrap_or r last).now.row ≡ row_of ffs
  unfolding row_of
  found (Some x) last l e = some_by (eqb ffs 75) (eqb ffs 70) (eqb ffs 65) (eqb ffs 60) (eqb ffs 55) x.now e
  found None last l e = ap (λ (t : Tabled). t.row) l ∙ none_by (eqb ffs 75) (eqb ffs 70) (eqb ffs 65) (eqb ffs 60) (eqb ffs 55) e
