-- A word of `-`, and one of digits.
use Rattle.std.proofs.Common.{ℕ, ◌≡◌, List, Result, Ok, Err, Some, take, inl, inr, refl, sym, subst, ◌∙◌}
use Rattle.std.specs.Result.{result_ok}
use Rattle.text.proofs.Turns.{same_true}
use Rattle.hexadecimal.specs.Spelling.{read_bytes, HasBytes}
use Rattle.hexadecimal.specs.declared.SpellingError.{SpellingError}
use Rattle.hexadecimal.proofs.Spellings.{spelled_is}
use Rattle.records.specs.Rest.{AreBytesOf}
use Rattle.records.proofs.bytes_of.Goals as goal

bytes_are : (room : ℕ) (word out : List ℕ) (r : Result ℕ SpellingError) (n : ℕ) → (r ≡ read_bytes room word) × HasBytes r word out → result_ok r ≡ Some n
    → AreBytesOf word (take n out)
bytes_are room word out (Ok m) n h e =
    let same : m ≡ n = cc in
    subst (λ (k : ℕ). AreBytesOf word (take k out)) same (inr (spelled_is room word out m h.0 h.1))
bytes_are room word out (Err error) n h e = absurd (cc)

pub returns-then-same-clause-are : goal.returns-then-same-clause-are
returns-then-same-clause-are c = inl (same_true _ _ (sym c.same.ensures ∙ c.if-same.true), refl)

pub returns-clause-are : goal.returns-clause-are
returns-clause-are c = bytes_are _ _ _ c.bytes.result _ c.bytes.ensures.spelled (sym c.ok.ensures.value ∙ c.in_ok-count.was)
