-- A letter is a character of one byte.
use Rattle.std.proofs.Common.{◌≡◌, ◌∷◌, [], refl}
use Rattle.std.specs.Char.{encode_utf8}
use Rattle.levels.specs.Level.{letter_byte}
use Rattle.levels.specs.declared.Level.{Level}
use Rattle.levels.specs.declared.Level.TheVariants.{A, B, C, D, E, F}
use Rattle.levels.proofs.LevelDisplay.fmt.Goals as goal

one_byte : (level : Level) → encode_utf8 (letter_byte level) ≡ letter_byte level ∷ []
unfolding letter_byte encode_utf8
one_byte A = refl
one_byte B = refl
one_byte C = refl
one_byte D = refl
one_byte E = refl
one_byte F = refl

pub returns-clause-writes : goal.returns-clause-writes
returns-clause-writes g c = rw (← one_byte c.args.self.now, ← c.from.ensures) c.write_char.ensures.writes
