-- The search over the table is the definition's five tests; the literals are the nearest f64 values of the table's decimals.
use lib.Ieee
use mathlib.Core.Path.{◌∙◌}
use Rattle.std.proofs.Common.{rules}
use Rattle.std.proofs.lemmas.Iterator.{YieldsList-from_slice}
use Rattle.std.proofs.lemmas.Iterator.Search.{any_from_yields_List}
use Rattle.sections.specs.Table.{row75, row70, row65, row60, row55}
use Rattle.sections.proofs.Rows.{table, is_of, any_tabled}
use Rattle.sections.proofs.table.is_tabled.Goals as goal

pub returns : goal.returns
unfolding Ieee.of_bits Ieee.neg row75 row70 row65 row60 row55
returns c =
    any_from_yields_List (is_of c.args.ffs) _ _ _ c.any.ensures.ran (YieldsList-from_slice table c.iter.ensures.rest) (λ x b q k. search rules)
    ∙ any_tabled c.args.ffs
