-- What the code's split goes by is in its range.
use Rattle.rules.specs.declared.split.Split as code
use Rattle.rules.specs.Good.{GoodSplit}
use Rattle.rules.specs.View.{split_in}
use Rattle.rules.proofs.Splits.{off_exact, off_most, off_without_share, most_all, full_off_ramp, leaving_without_share, held_back, through_most}

pub split_good : (s : code.Split) → GoodSplit (split_in s)
split_good s = record { share = s.share_most; remainder = s.remainder_below }

-- what the split's methods go by
pub ruleset split_laws = (split_good, off_exact, off_most, off_without_share, most_all, full_off_ramp, leaving_without_share, held_back, through_most)
