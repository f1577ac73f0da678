-- What the code's split goes by, as that of the rules: no rule of the manual.
use Rattle.rules.specs.declared.split.Split as code
use Rattle.rules.specs.Rules.{Split}

abbrev pub split_in : code.Split → Split
split_in s = record { share = s.share; remainder = s.remainder }
