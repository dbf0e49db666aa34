-- Laws of the words of a line: its first word and those behind it are all its words, so the calls of `next` give them all. Assumes nothing.
use Prim.Native.Nat.{ℕ, ◌+◌, ◌≤◌}
use native.Mathlib.Omega.{arith}
use mathlib.Core.Path.{◌≡◌, refl, sym, ap, ◌∙◌}
use mathlib.Core.Bool.{Bool, true, false, not, cond}
use mathlib.Core.List.{List, [], ◌∷◌}
use borrow.Author.Tests.{ltb-true, ltb-false}
use lib.Dec.{eqb, ltb}
use lib.ListN.{length, drop}
use Rattle.std.specs.Prelude.{Option, Some, None}
use Rattle.std.specs.Borrow.{Bor}
use Rattle.std.specs.List.{slice_split, position_or_len, onto_first}
use Rattle.std.specs.Iterator.{Yields, Drains}
use Rattle.std.specs.Option.{option_map}
use Rattle.std.proofs.lemmas.List.Splits.{slice_split_first}
use Rattle.command_words.specs.declared.Words.{Words}
use Rattle.command_words.specs.Words.{left, first_word, after_word, words_in}

-- a line with no blank is one word
module _ (p : ℕ → Bool) where
  one_from : (b : ℕ) (l : List ℕ) (t : Bool) → p b ≡ t → length (b ∷ l) ≤ cond (not t) (1 + position_or_len p l) 0 → (length l ≤ position_or_len p l → slice_split p l ≡ l ∷ [])
      → cond t ([] ∷ slice_split p l) (onto_first b (slice_split p l)) ≡ (b ∷ l) ∷ []
  one_from b l true e h f = absurd (omega arith)
  one_from b l false e h f = ap (onto_first b) (f (omega arith))

  one : (l : List ℕ) → length l ≤ position_or_len p l → slice_split p l ≡ l ∷ []
  one [] h = refl
  one (b ∷ l) h = one_from b l (p b) refl h (one l)

-- the first word, and those behind it
by_blank : (l : List ℕ) (t : Bool) → ltb (position_or_len (λ b. eqb b 32) l) (length l) ≡ t
    → length (words_in (Some l)) ≡ length (words_in (option_map (λ n. drop (n + 1) l) (cond t (Some (position_or_len (λ b. eqb b 32) l)) None))) + 1
by_blank l true e = ap length (slice_split_first (λ b. eqb b 32) l 0 (ltb-true _ _ e)) ∙ omega arith
by_blank l false e = ap length (one (λ b. eqb b 32) l (ltb-false _ _ e))

next_word : (r : Option (List ℕ)) (w : List ℕ) → Some w ≡ first_word r → length (words_in r) ≡ length (words_in (after_word r)) + 1
next_word None w e = absurd (cc)
next_word (Some l) w e = by_blank l (ltb (position_or_len (λ b. eqb b 32) l) (length l)) refl

over : (r : Option (List ℕ)) → None ≡ first_word r → words_in r ≡ []
over None e = refl
over (Some l) e = absurd (cc)

-- what a call of `next` gives
abbrev steps : Words → Option (Bor (List ℕ)) → Words → Type 0
steps w r v = (left r ≡ first_word (left w.rest)) × (left v.rest ≡ after_word (left w.rest))

all_from : (xs : List (Bor (List ℕ))) (s t u : Words) → Yields steps s xs t → steps t None u → length xs ≡ length (words_in (left s.rest))
all_from [] s t u e h = sym (ap length (over _ (h.0 ∙ ap (λ (w : Words). first_word (left w.rest)) (sym e))))
all_from (x ∷ xs) s t u y h =
    let more = all_from xs y.0 t u y.2 h in
    let here = next_word (left s.rest) x.now y.1.0 in
    let same = ap (λ r. length (words_in r)) y.1.1 in
    omega (arith, more, here, same)

pub all_words : (xs : List (Bor (List ℕ))) (s : Words) → Drains steps s xs → length xs ≡ length (words_in (left s.rest))
all_words xs s d = all_from xs s d.1.0 d.0 d.1.1 d.1.2
