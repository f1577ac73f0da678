-- A refused sheet's number is that of a refusal, and never 0.
use mathlib.Core.Path.{◌≡◌}
use Prim.Native.Nat.{ℕ, ◌≤◌}
use mathlib.Core.List.{List, []}
use lib.ListN.{get_or}
use Rattle.refusals.specs.declared.Refusal.{Refusal}
use Rattle.refusals.specs.Numbers.{refusal_number}
use Rattle.numbers.specs.Number.{Reading, Read, Refused}
use Rattle.numbers.specs.Field.{read_field}
use Rattle.numbers.proofs.Refusals.{Told, told_field, refusal_named}
use Rattle.sheets.specs.declared.Layout.{Layout}
use Rattle.sheets.specs.declared.Layout.TheVariants.{Road, Period}
use Rattle.sheets.specs.Layout.{road_range, range_of, count_of}
use Rattle.numbers.proofs.Rows.{ToldRow, NamedRow, told_fields}
use Rattle.numbers.specs.Row.{RefusedAt}
use Rattle.sheets.specs.Read.{field_of, read_row, road_from, read_road, read_period}

-- what each refusal's number has, that of a refused sheet has
module _ (P : ℕ → Type 0) (each : (e : Refusal) → P (refusal_number e)) where
  pub told_row : (l : Layout) (road s : List ℕ) → ToldRow P (read_row l road s)
  unfolding read_row
  told_row l road s = told_fields P (field_of l road s) (λ k at. told_field P each (range_of l road k) s at) (count_of l) 0 0

  told_from : (s : List ℕ) (x : Reading) → Told P x → ToldRow P (road_from s x)
  unfolding road_from
  told_from s (Read ns n) h = told_row (Road ns) [] s
  told_from s (Refused e) h = h

  pub told_road : (s : List ℕ) → ToldRow P (read_road s)
  unfolding read_road range_of
  told_road s = told_from s (read_field (road_range 0) s 0) (told_field P each (road_range 0) s 0)

  pub told_period : (road s : List ℕ) → ToldRow P (read_period road s)
  unfolding read_period
  told_period road s = told_row (Period (get_or road 0 0)) road s

pub named_row : (l : Layout) (road s : List ℕ) → NamedRow (read_row l road s)
named_row = told_row (λ e. 1 ≤ e) refusal_named

pub road_named : (s : List ℕ) → NamedRow (read_road s)
road_named = told_road (λ e. 1 ≤ e) refusal_named

-- a refusal's number
pub road_refusal : (s : List ℕ) (e at : ℕ) → read_road s ≡ RefusedAt e at → 1 ≤ e
road_refusal s e at r = rw r at (road_named s)

pub period_refusal : (road s : List ℕ) (e at : ℕ) → read_period road s ≡ RefusedAt e at → 1 ≤ e
period_refusal road s e at r = rw r at (told_period (λ e. 1 ≤ e) refusal_named road s)
