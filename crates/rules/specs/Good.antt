-- What the arithmetic of the split asks of it: no rule of the manual.
use Rattle.std.specs.Prelude.{◌≤◌, ◌<◌}
use Rattle.rules.specs.Rules.{Split}

pub record GoodSplit (s : Split) : Type 0 where
  pub share : s.share ≤ 1000
  pub remainder : s.remainder < 1000
