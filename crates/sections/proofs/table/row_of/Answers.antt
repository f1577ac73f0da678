-- The row that the search finds is the definition's; the literals are the nearest f64 values of the table's decimals.
use lib.Ieee
use mathlib.Core.Path.{refl, ap, ◌∙◌}
use Rattle.std.proofs.Common.{rules}
use Rattle.std.proofs.lemmas.Iterator.{YieldsList-from_slice}
use Rattle.std.proofs.lemmas.Iterator.Search.{find_from_yields_List}
use Rattle.sections.specs.Table.{row75, row70, row65, row60, row55}
use Rattle.sections.proofs.Rows.{table, is_of, found}
use Rattle.sections.proofs.table.row_of.Goals as goal

pub returns : goal.returns
unfolding Ieee.of_bits Ieee.neg row75 row70 row65 row60 row55
returns c =
    let search_is = find_from_yields_List (is_of c.args.ffs) _ _ c.find.result c.find.ensures.ran (YieldsList-from_slice table c.iter.ensures.rest) (λ x b q k. search rules) in
    ap (λ t. t.now.row) c.unwrap_or.ensures ∙ found c.args.ffs c.find.result _ refl search_is
