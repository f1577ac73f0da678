-- A refusal's number is never 0, of a field and of a whole sheet.
use mathlib.Core.Path.{◌≡◌, refl, subst}
use mathlib.Core.Bool.{Bool, true, false}
use Prim.Native.Nat.{ℕ, ◌*◌, ◌≤◌}
use mathlib.Core.List.{List}
use native.Mathlib.Omega.{arith}
use Rattle.std.specs.Prelude.{if◌then◌else◌}
use Rattle.numbers.specs.Number.{Reading, Read, Refused, read_number}
use Rattle.numbers.specs.Field.{read_field}
use Rattle.numbers.proofs.Fields.{field_refused}
use Rattle.numbers.proofs.Refusals.{Named, named_field}
use Rattle.numbers.specs.Row.{Rows, ReadRow, RefusedAt}
use Rattle.numbers.specs.Filled.{filled}
use Rattle.numbers.proofs.Rows.{NamedRow, named_fields}
use Rattle.planning_sheet.specs.Sheet.{allowed_at, held_to, field_at, Reads, ReadSections, NoSections, sections_of, sections_from, count_range, sheet_from, read_sheet}

-- ---- of a field
named_is : (bytes : List ℕ) (at : ℕ) (x : Reading) → read_number bytes at ≡ x → Named x
named_is bytes at (Read v next) e = omega arith
named_is bytes at (Refused x) e = subst Named (field_refused count_range bytes at x e) (named_field count_range bytes at)

named_by : (v next : ℕ) (t : Bool) → Named (if t then Read v next else Refused 4)
named_by v next true = omega arith
named_by v next false = omega arith

named_held : (n k : ℕ) (x : Reading) → Named x → Named (held_to n k x)
unfolding held_to
named_held n k (Read v next) h = named_by v next (allowed_at n k v)
named_held n k (Refused x) h = h

-- ---- of a sheet
abbrev pub NamedReads : Reads → Type 0
NamedReads (ReadSections sections used) = 0 ≤ used
NamedReads (NoSections e at) = 1 ≤ e

named_sections : (n : ℕ) (r : Rows) → NamedRow r → NamedReads (sections_of n r)
unfolding sections_of
named_sections n (ReadRow row used) h = omega arith
named_sections n (RefusedAt e at) h = h

named_field_at : (n : ℕ) (bytes : List ℕ) (k at : ℕ) → Named (field_at n bytes k at)
unfolding field_at
named_field_at n bytes k at = named_held n k (read_number bytes at) (named_is bytes at (read_number bytes at) refl)

named_filled : (r : Rows) → NamedRow r → NamedRow (filled 384 r)
unfolding filled
named_filled (ReadRow row used) h = h
named_filled (RefusedAt e at) h = h

named_from : (bytes : List ℕ) (x : Reading) → Named x → NamedReads (sheet_from bytes x)
unfolding sheet_from sections_from
named_from bytes (Read n next) h = named_sections n _ (named_filled _ (named_fields (field_at n bytes) (named_field_at n bytes) (6 * n) 0 next))
named_from bytes (Refused x) h = h

pub named_sheet : (bytes : List ℕ) → NamedReads (read_sheet bytes)
unfolding read_sheet
named_sheet bytes = named_from bytes (read_field count_range bytes 0) (named_field count_range bytes 0)
