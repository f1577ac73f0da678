-- What the code hands on of those who leave: no rule of the manual.
use Rattle.std.specs.Prelude.{ℕ}
use Rattle.rules.specs.declared.Outflow.{Outflow}
use Rattle.rules.specs.Rules.{Split, remainder_after, through}

-- what leaves where y do: y, through(y) of them by the mainline, and the remainder after
abbrev pub outflow : Split → (leaving : ℕ) → Outflow
outflow s y = record { out = y; onward = through s y; remainder = remainder_after s y }
