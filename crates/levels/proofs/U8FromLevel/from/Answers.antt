-- The letters stand in the order of their bytes.
use Rattle.std.proofs.Common.{◌≡◌, ◌+◌, refl}
use Rattle.levels.specs.Level.{letter_byte}
use Rattle.levels.specs.declared.Level.{Level}
use Rattle.levels.specs.declared.Level.TheVariants.{A, B, C, D, E, F}
use Rattle.levels.specs.contracts.Level.{the_type}
use denote.Enum.Declared.{tag_of}
use Rattle.levels.proofs.U8FromLevel.from.Goals as goal

in_order : (level : Level) → 65 + tag_of the_type level ≡ letter_byte level
unfolding letter_byte
in_order A = refl
in_order B = refl
in_order C = refl
in_order D = refl
in_order E = refl
in_order F = refl

pub returns : goal.returns
returns c = in_order c.args.level
