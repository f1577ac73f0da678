-- Manual 4.10: a segment's totals since its road was laid, and what a step adds to them.
use Rattle.std.specs.Prelude.{◌+◌}
use Rattle.segment.specs.declared.Cell.{Cell}
use Rattle.segment.specs.declared.tally.Tally.{Tally}

-- on a road just laid, and past the last segment, nobody has left
abbrev pub no_tally : Tally
no_tally = record { off = 0; out = 0 }

-- with off(y) and y of the step that led to the cell
unfoldable pub with_step : Tally → Cell → Tally
with_step tally cell = record { off = tally.off + cell.off; out = tally.out + cell.out }
