-- The numbers of what is left of a record, word by word: those that are read, and the defaults behind them.
use Rattle.std.proofs.Common.{ℕ, ◌+◌, ◌≡◌, ◌≤◌, ◌<◌, List, ◌∷◌, ◌++◌, length, take, drop, Some, refl, ap, ◌∙◌, subst, inl, inr, add-one, arith, drop-cons, append_assoc, drop-drop}
use lib.ListN.{set, drop_of_length-le}
use Rattle.std.proofs.lemmas.List.{take-append-drop, drop-set-lt}
use lib.Seq.{take-suc-set}
use Rattle.text.specs.Text.{word_at, IsWord, IsNoWord, number_of}
use Rattle.records.specs.Rest.{AreNumbersOf}

-- the first i numbers are read, and the others are the defaults as yet
pub record Reads (rest defaults left numbers : List ℕ) (i : ℕ) : Type 0 where
  pub others : drop i numbers ≡ drop i defaults
  pub whole : (ns : List ℕ) → AreNumbersOf left (drop i defaults) ns → AreNumbersOf rest defaults (take i numbers ++ ns)

pub reads_none : (rest defaults : List ℕ) → Reads rest defaults rest defaults 0
reads_none rest defaults = record { others = refl; whole = λ ns h. h }

module _ (rest defaults left numbers : List ℕ) (i : ℕ) (reads : Reads rest defaults left numbers i) where
  with_others : AreNumbersOf left (drop i defaults) (drop i numbers) → AreNumbersOf rest defaults numbers
  with_others h = subst (λ (xs : List ℕ). AreNumbersOf rest defaults xs) (take-append-drop i numbers) (reads.whole (drop i numbers) h)

  pub reads_end : length defaults ≤ i → IsNoWord (word_at left 0) → AreNumbersOf rest defaults numbers
  unfolding AreNumbersOf
  reads_end h none = with_others (rw (reads.others, drop_of_length-le defaults h) none)

  module _ (inside : i < length defaults) where
    pub reads_stop : IsNoWord (word_at left 0) → AreNumbersOf rest defaults numbers
    unfolding AreNumbersOf
    reads_stop none = with_others (rw (reads.others, drop-cons defaults i 0 inside) (inl (none, refl, refl)))

    pub reads_more : i < length numbers → (word behind : List ℕ) → IsWord left (word_at left 0) word behind → (n : ℕ) → number_of word ≡ Some n
        → Reads rest defaults behind (set numbers i n) (i + 1)
    unfolding AreNumbersOf
    reads_more within word behind is n number = record {
      others = drop-set-lt (i + 1) numbers i n (omega arith) ∙ rw (← drop-drop, ← drop-drop) (ap (drop 1) reads.others);
      whole = λ ns h.
          let read = reads.whole (n ∷ ns) (rw (drop-cons defaults i 0 inside) (inr (word, behind, is, number, rw (add-one i) at h))) in
          rw (add-one i, take-suc-set numbers i n within, append_assoc) read;
    }
