-- Words of lines and the numbers that they say, computed.
use mathlib.Core.Path.{◌≡◌, refl}
use mathlib.Core.List.{[], ◌∷◌}
use Rattle.std.specs.Prelude.{Some, None}
use Rattle.text.specs.Text.{is_white, is_digit, stops, first_from, word_starting, word_from, word_at, number_from, number_of}

-- " 190#9": the word ends before the comment
first_word : word_at (32 ∷ 49 ∷ 57 ∷ 48 ∷ 35 ∷ 57 ∷ []) 0 ≡ record { start = 1; end = 4 }
unfolding word_at word_from word_starting first_from stops is_white
first_word = refl

-- and behind it there is none
no_word : word_at (32 ∷ 49 ∷ 57 ∷ 48 ∷ 35 ∷ 57 ∷ []) 4 ≡ record { start = 4; end = 4 }
unfolding word_at word_from word_starting first_from stops is_white
no_word = refl

-- "190", "12x", "4294967296"
number : number_of (49 ∷ 57 ∷ 48 ∷ []) ≡ Some 190
unfolding number_of number_from is_digit
number = refl

no_number : number_of (49 ∷ 50 ∷ 120 ∷ []) ≡ None
unfolding number_of number_from is_digit
no_number = refl

too_large : number_of (52 ∷ 50 ∷ 57 ∷ 52 ∷ 57 ∷ 54 ∷ 55 ∷ 50 ∷ 57 ∷ 54 ∷ []) ≡ None
unfolding number_of number_from is_digit
too_large = refl
