-- What a word spells at a place, by the tests that the code makes there, and what the buffer has by then.
use Rattle.std.proofs.Common.{ℕ, suc, ◌+◌, ◌*◌, ◌/◌, ◌%◌, ◌≤◌, ◌<◌, ◌≡◌, refl, ap, ◌∙◌, List, [], ◌∷◌, ◌++◌, append_assoc, append-nil, add-one, arith}
use Rattle.std.proofs.Common.{Option, Some, None, Ok, Err, length, take, drop, get_or, length-drop, drop-cons}
use lib.ListN.{set}
use lib.Seq.{take-suc-set}
use Rattle.std.proofs.lemmas.List.{length-take-le}
use borrow.Author.Tests.{lt-ltb, le-ltb}
use Rattle.std.proofs.Common.{Bool, true, false, cond}
use Rattle.std.proofs.Common.{Result, sym}
use Rattle.hexadecimal.specs.declared.SpellingError.{SpellingError}
use Rattle.hexadecimal.specs.declared.SpellingError.TheVariants.{TooLong, NotHexadecimal}
use Rattle.hexadecimal.specs.Spelling.{hex_value, byte_of, Spelling, Bytes, NotHex, with_byte, spelled, counted, read_bytes, HasBytes}

module _ (word : List ℕ) (n : ℕ) (h : n < length word / 2) where
  pair_at : drop (2 * n) word ≡ get_or word (2 * n) 0 ∷ get_or word (2 * n + 1) 0 ∷ drop (2 * (n + 1)) word
  pair_at =
      let next : suc (2 * n + 1) ≡ 2 * (n + 1) = omega arith in
      let second = drop-cons word (2 * n + 1) 0 (omega arith) in
      drop-cons word (2 * n) 0 (omega arith) ∙ ap (λ (xs : List ℕ). get_or word (2 * n) 0 ∷ xs) (rw (← add-one, second, next))

  pair_is : (byte : Option ℕ) → byte ≡ byte_of (hex_value (get_or word (2 * n) 0)) (hex_value (get_or word (2 * n + 1) 0))
      → spelled (drop (2 * n) word) ≡ with_byte byte (spelled (drop (2 * (n + 1)) word))
  unfolding spelled
  pair_is byte e = rw (pair_at, ← e) refl

no_pair : (word : List ℕ) → length word ≡ 0 → spelled word ≡ Bytes []
unfolding spelled
no_pair [] h = refl
no_pair (b ∷ bs) h = absurd (omega arith)

half_pair : (word : List ℕ) → length word ≡ 1 → spelled word ≡ NotHex
unfolding spelled
half_pair [] h = absurd (omega arith)
half_pair (h ∷ []) e = refl
half_pair (h ∷ l ∷ rest) e = absurd (omega arith)

-- ---- the bytes of the buffer, and what the rest of the word spells
abbrev with_bytes : List ℕ → Spelling → Spelling
with_bytes front (Bytes bs) = Bytes (front ++ bs)
with_bytes front NotHex = NotHex

no_more : (x : Spelling) → x ≡ with_bytes [] x
no_more (Bytes bs) = refl
no_more NotHex = refl

one_more : (out : List ℕ) (n b : ℕ) → n < length out → (x : Spelling) → with_bytes (take n out) (with_byte (Some b) x) ≡ with_bytes (take (n + 1) (set out n b)) x
one_more out n b h (Bytes bs) = rw (add-one n, take-suc-set out n b h, append_assoc)
one_more out n b h NotHex = refl

-- the buffer starts with the bytes of the first n pairs
abbrev pub Stored : List ℕ → ℕ → List ℕ → Type 0
Stored word n out = spelled word ≡ with_bytes (take n out) (spelled (drop (2 * n) word))

pub stored_none : (word out : List ℕ) → Stored word 0 out
stored_none word out = no_more (spelled word)

module _ (word out : List ℕ) (n : ℕ) (stored : Stored word n out) where
  stored_then : (x : Spelling) → spelled (drop (2 * n) word) ≡ x → spelled word ≡ with_bytes (take n out) x
  stored_then x e = stored ∙ ap (with_bytes (take n out)) e

  module _ (h : n < length word / 2) (byte : Option ℕ) (spells : byte ≡ byte_of (hex_value (get_or word (2 * n) 0)) (hex_value (get_or word (2 * n + 1) 0))) where
    pub stored_bad : byte ≡ None → spelled word ≡ NotHex
    stored_bad e = stored_then NotHex (rw (pair_is word n h byte spells, e) refl)

    pub stored_more : (b : ℕ) → byte ≡ Some b → n < length out → Stored word (n + 1) (set out n b)
    stored_more b e inside =
        let rest = spelled (drop (2 * (n + 1)) word) in
        stored_then (with_byte (Some b) rest) (rw (pair_is word n h byte spells, e) refl) ∙ one_more out n b inside rest

  module _ (pairs : n ≡ length word / 2) where
    pub stored_odd : length word % 2 ≡ 1 → spelled word ≡ NotHex
    stored_odd odd = stored_then NotHex (half_pair (drop (2 * n) word) (rw length-drop (omega arith)))

    pub stored_all : (length word % 2 ≡ 1 → ⊥) → spelled word ≡ Bytes (take n out)
    stored_all even =
        let none = no_pair (drop (2 * n) word) (rw length-drop (omega arith)) in
        stored_then (Bytes []) none ∙ ap Bytes (append-nil (take n out))

-- ---- what the function answers
module _ (word out : List ℕ) (room : ℕ) where
  abbrev Answer : Result ℕ SpellingError → Type 0
  Answer r = (r ≡ read_bytes room word) × HasBytes r word out

  pub too_long : room < length word / 2 → Answer (Err TooLong)
  unfolding read_bytes
  too_long h = (rw (lt-ltb room (length word / 2) h) refl, λ bs s r. absurd (cc))

  module _ (fits : length word / 2 ≤ room) where
    pub no_bytes : spelled word ≡ NotHex → Answer (Err NotHexadecimal)
    unfolding read_bytes
    no_bytes e = (rw (le-ltb room (length word / 2) fits, e) refl, λ bs s r. absurd (cc))

    pub some_bytes : (n : ℕ) → n ≤ length out → spelled word ≡ Bytes (take n out) → Answer (Ok n)
    unfolding read_bytes
    some_bytes n h e = (
      rw (le-ltb room (length word / 2) fits, e, length-take-le n out h) refl,
      λ bs s r. let same : take n out ≡ bs = cc in rw (← same, length-take-le n out h) refl,
    )

-- ---- what an answer says
counted_is : (x : Spelling) (n : ℕ) → Ok n ≡ counted x → (bs : List ℕ) × (x ≡ Bytes bs) × (n ≡ length bs)
counted_is (Bytes bs) n e = (bs, refl, cc)
counted_is NotHex n e = absurd (cc)

with_room : (t : Bool) (x : Spelling) (n : ℕ) → Ok n ≡ cond t (Err TooLong) (counted x) → Ok n ≡ counted x
with_room true x n e = absurd (cc)
with_room false x n e = e

pub spelled_is : (room : ℕ) (word out : List ℕ) (n : ℕ) → Ok n ≡ read_bytes room word → HasBytes (Ok n) word out → spelled word ≡ Bytes (take n out)
unfolding read_bytes
spelled_is room word out n e has =
    let is = counted_is (spelled word) n (with_room _ (spelled word) n e) in
    let starts : take (length is.0) out ≡ is.0 = has is.0 is.1 (ap Ok is.2) in
    is.1 ∙ ap Bytes (sym (ap (λ (k : ℕ). take k out) is.2 ∙ starts))
