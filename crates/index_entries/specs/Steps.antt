-- The steps of the code on the entries of a list, for the rules of index/specs. Document 02, F-10.
--   leading f xs    how many elements at the front of xs pass the test f
--   staying f xs    how many elements stand before those at the end of xs that pass the test f
--   raised at l k   the list l, where k elements, from number `at` on, have moved up by the width of an entry
--   Found n k es r  the search of the n entries es for the key k gave r: the place of the first that has it, or how many are the owner's, where none has it
use Rattle.std.specs.Prelude.{◌≡◌, ◌<◌, ℕ, suc, ◌+◌, Bool, cond, not, List, [], ◌∷◌, drop, ℤ, Result, Ok, Err}
use Rattle.std.proofs.Math.Seq.{paste}
use Rattle.algebra.specs.Lists.{every, tally}
use Rattle.index.specs.declared.Entry.{Entry}
use Rattle.index.specs.declared.Key.{Key}
use Rattle.index.specs.Entries.{Width, is_owned, is_keyed}

module _ {A : Type 0} where
  unfoldable pub leading : (A → Bool) → List A → ℕ
  leading f [] = 0
  leading f (x ∷ xs) = cond (f x) (suc (leading f xs)) 0

  unfoldable pub staying : (A → Bool) → List A → ℕ
  staying f [] = 0
  staying f (x ∷ xs) = cond (every f (x ∷ xs)) 0 (suc (staying f xs))

unfoldable pub raised : ℕ → List ℤ → ℕ → List ℤ
raised at l k = paste l (at + Width) (drop at l) k

abbrev pub Found : ℕ → Key → List Entry → Result ℕ ℕ → Type 0
Found n k es (Ok place) = (place ≡ leading (λ e. not (is_keyed k e)) es) × (place < n)
Found n k es (Err owned) = (n ≡ leading (λ e. not (is_keyed k e)) es) × (owned ≡ tally (is_owned k.owner) es)
