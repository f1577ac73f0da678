-- The letters at the limits of a lane of 1320 feet, and one part above each.
use mathlib.Core.Path.{◌≡◌, refl}
use mathlib.Core.List.{[], ◌∷◌, map}
use Rattle.levels.specs.declared.Level.TheVariants.{A, B, C, D, E, F}
use Rattle.levels.specs.Level.{graded, holds_at_most, level_by, level_of}

levels :
    map (λ n. level_of n 1320 1) (660 ∷ 661 ∷ 1080 ∷ 1081 ∷ 1560 ∷ 1561 ∷ 2100 ∷ 2101 ∷ 2700 ∷ 2701 ∷ []) ≡
    A ∷ B ∷ B ∷ C ∷ C ∷ D ∷ D ∷ E ∷ E ∷ F ∷ []
unfolding level_of level_by graded holds_at_most
levels = refl
