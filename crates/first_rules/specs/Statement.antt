-- Manual 10.2: a converted study forecasts as it does by the first rules, step by step. The claims on a study and a lent target, by what the
-- call `convert` answers, each way.
use Rattle.std.specs.Prelude.{ℕ, ◌≡◌, List, take}
use Rattle.facility.specs.Ledger.{Book, present}
use Rattle.study.specs.Forecast.{Ended, RefusedStudy, outcome_by, forecast_by, forecast_of}
use Rattle.convert.specs.declared.Way.TheVariants.{ToSecond, ToFirst}
use Rattle.convert.specs.Convert.{Written, RefusedAs, convert_of}
use Rattle.first_rules.specs.First.{first_rules}

-- two forecasts are equal: neither study is refused, and every step of the two ledgers is the same, what was in force in it, the state at its start, the
-- state and the flows at its end; hence the listing is
pub record SameForecast (first second : List ℕ) : Type 0 where
  pub book : Book
  pub by_first : outcome_by first_rules first ≡ Ended book
  pub converted : Book
  pub by_present : outcome_by present second ≡ Ended converted
  pub trail : converted.trail ≡ book.trail
  pub listing : forecast_of second ≡ forecast_by first_rules first

-- THE STATEMENT, of a study of the first layout and a lent target
pub record FirstStatement (study target : List ℕ) : Type 0 where
  -- one that converts: what stands in the target forecasts as the study does by the first rules
  pub converts : (count : ℕ) → (convert_of ToSecond study target).answer ≡ Written count → SameForecast study (take count (convert_of ToSecond study target).target)
  -- one that does not convert for another reason than 7: the first rules refuse it with the same number and place
  pub refuses : (number offset : ℕ) → (convert_of ToSecond study target).answer ≡ RefusedAs number offset → (number ≡ 7 → ⊥)
      → outcome_by first_rules study ≡ RefusedStudy number offset

-- the same going back, of a study of the second layout: what stands in the target forecasts by the first rules as the study does; and but for 7 and
-- for 16, that a lane is closed, the present rules refuse it as the conversion does
pub record BackStatement (study target : List ℕ) : Type 0 where
  pub converts : (count : ℕ) → (convert_of ToFirst study target).answer ≡ Written count → SameForecast (take count (convert_of ToFirst study target).target) study
  pub refuses : (number offset : ℕ) → (convert_of ToFirst study target).answer ≡ RefusedAs number offset → (number ≡ 7 → ⊥) → (number ≡ 16 → ⊥)
      → outcome_by present study ≡ RefusedStudy number offset
