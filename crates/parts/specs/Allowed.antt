-- Manual 3.3 and 3.4: rows whose counted numbers are in the ranges of their places, as those of every reading are;
-- what stands after them is not looked at.
use Rattle.std.specs.Prelude.{ℕ, zero, suc, Bool, true, ◌&&◌, List, [], get_or, leb}
use Rattle.numbers.specs.declared.Range.{Range}
use Rattle.sheets.specs.declared.Layout.{Layout}
use Rattle.sheets.specs.declared.Layout.TheVariants.{Road, Period}
use Rattle.sheets.specs.Layout.{range_of, count_of}

-- the number is in the range
unfoldable pub within : Range → ℕ → Bool
within r v = leb r.low v && leb v r.high

-- the test passes at each index below the number
unfoldable pub all_below : (ℕ → Bool) → ℕ → Bool
all_below p zero = true
all_below p (suc k) = all_below p k && p k

-- each number that the layout counts is in the range of its place
unfoldable pub allowed : Layout → (road row : List ℕ) → Bool
allowed l road row = all_below (λ k. within (range_of l road k) (get_or row k 0)) (count_of l)

-- by the row's own NS; a period by the road's NS and lanes
unfoldable pub road_allowed : List ℕ → Bool
road_allowed row = allowed (Road (get_or row 0 0)) [] row

unfoldable pub period_allowed : (road row : List ℕ) → Bool
period_allowed road row = allowed (Period (get_or road 0 0)) road row
