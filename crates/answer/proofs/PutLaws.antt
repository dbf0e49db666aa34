-- Lists that are put into a lent list one after the other stand there as one list, since what follows them is still as it was. Assumes nothing.
use Prim.Native.Nat.{ℕ, suc, ◌+◌, ◌≤◌, ◌<◌}
use native.Mathlib.Omega.{arith}
use mathlib.Core.Path.{◌≡◌, refl, sym, ap, ap₂, ◌∙◌}
use mathlib.Core.List.{List, [], ◌∷◌, ◌++◌, append_assoc, append-nil}
use lib.ListN.{length, take, drop, set, length-append, length-drop, take-append-drop}
use lib.Seq.{length-take-le, take_at, drop_at, drop-drop, sets-eq}
use Rattle.answer.specs.Lent.{put}

module _ {X : Type 0} where
  pub put_length : (k : ℕ) (xs before : List X) → k + length xs ≤ length before → length (put k xs before) ≡ length before
  put_length k xs before h =
      omega (
        arith,
        length-append (take k before) (xs ++ drop (k + length xs) before),
        length-append xs (drop (k + length xs) before),
        length-take-le k before (omega arith),
        length-drop (k + length xs) before,
      )

  pub put_none : (k : ℕ) (before : List X) → put k [] before ≡ before
  put_none k before = let e : k + 0 ≡ k = omega arith in ap (λ m. take k before ++ drop m before) e ∙ take-append-drop k before

  -- ys right after xs, at position m
  pub put_put : (k m : ℕ) (xs ys before : List X) → m ≡ k + length xs → k ≤ length before → put m ys (put k xs before) ≡ put k (xs ++ ys) before
  put_put k m xs ys before e h =
      let a = take k before in
      let rest = drop (k + length xs) before in
      let front : List X = a ++ xs in
      let l : length front ≡ m = omega (arith, length-append a xs, length-take-le k before h) in
      let whole : put k xs before ≡ front ++ rest = sym (append_assoc a xs rest) in
      let n : k + length xs + length ys ≡ k + length (xs ++ ys) = omega (arith, length-append xs ys) in
      let after : drop (m + length ys) (front ++ rest) ≡ drop (k + length (xs ++ ys)) before =
      sym (drop-drop (length ys) m (front ++ rest)) ∙ ap (drop (length ys)) (drop_at front rest m l)
      ∙ drop-drop (length ys) (k + length xs) before ∙ ap (λ j. drop j before) n in
      ap (put m ys) whole
      ∙ ap₂ (λ s t. s ++ (ys ++ t)) (take_at front rest m l) after
      ∙ append_assoc a xs (ys ++ drop (k + length (xs ++ ys)) before)
      ∙ ap (λ t. a ++ t) (sym (append_assoc xs ys (drop (k + length (xs ++ ys)) before)))

  over : (m : ℕ) (x y b before : List X) → length x ≡ length y → m ≤ length before → put m y (put m (x ++ b) before) ≡ put m (y ++ b) before
  over m x y b before e h =
      let t = take m before in
      let rest = drop (m + length (x ++ b)) before in
      let l : length t ≡ m = length-take-le m before h in
      let n : length (t ++ x) ≡ m + length y = omega (arith, length-append t x) in
      let whole : put m (x ++ b) before ≡ (t ++ x) ++ (b ++ rest) =
      ap (λ r. t ++ r) (append_assoc x b rest) ∙ sym (append_assoc t x (b ++ rest)) in
      let same : m + length (x ++ b) ≡ m + length (y ++ b) = omega (arith, length-append x b, length-append y b) in
      ap₂ (λ s r. s ++ (y ++ r)) (take_at t ((x ++ b) ++ rest) m l) (ap (drop (m + length y)) whole ∙ drop_at (t ++ x) (b ++ rest) (m + length y) n)
      ∙ ap (λ r. t ++ r) (sym (append_assoc y b rest) ∙ ap (λ j. (y ++ b) ++ drop j before) same)

  -- y instead of x, which is as long
  pub put_over : (k m : ℕ) (a x y b before : List X) → m ≡ k + length a → length x ≡ length y → k + length a ≤ length before
      → put m y (put k (a ++ (x ++ b)) before) ≡ put k (a ++ (y ++ b)) before
  put_over k m a x y b before e l h =
      let low : k ≤ length before = omega arith in
      ap (put m y) (sym (put_put k m a (x ++ b) before e low))
      ∙ over m x y b (put k a before) l (omega (arith, put_length k a before h))
      ∙ put_put k m a (y ++ b) before e low

  -- one list put after another: xs, then ys
  pub put_next : (k : ℕ) (a b before : List X) {xs ys : List X} {m : ℕ} → xs ≡ put k a before → ys ≡ put m b xs → m ≡ k + length a → k ≤ length before → ys ≡ put k (a ++ b) before
  put_next k a b before {m = m} e f p h = f ∙ ap (put m b) e ∙ put_put k m a b before p h

  -- an element that is stored
  pub set_put : (k : ℕ) (a : X) (before : List X) → k < length before → set before k a ≡ put k (a ∷ []) before
  set_put k a before h = sets-eq (a ∷ []) before k (omega arith) ∙ append_assoc (take k before) (a ∷ []) (drop (k + 1) before)

  -- elements that are stored one after the other: the first at position k, the next at k + 1, k + 2 and so on
  abbrev stored_from : ℕ → ℕ → List X → List X → List X
  stored_from k j [] l = l
  stored_from k j (x ∷ xs) l = stored_from k (suc j) xs (set l (k + j) x)

  abbrev pub stored_at : ℕ → List X → List X → List X
  stored_at k [] l = l
  stored_at k (x ∷ xs) l = stored_from k 1 xs (set l k x)

  stored_from_law : (k : ℕ) (xs a before l : List X) → l ≡ put k a before → k + (length a + length xs) ≤ length before → stored_from k (length a) xs l ≡ put k (a ++ xs) before
  stored_from_law k [] a before l e h = e ∙ ap (λ b. put k b before) (sym (append-nil a))
  stored_from_law k (x ∷ xs) a before l e h =
      let m = put_length k a before (omega arith) in
      let n : length (a ++ (x ∷ [])) ≡ suc (length a) = omega (arith, length-append a (x ∷ [])) in
      let g : set l (k + length a) x ≡ put k (a ++ (x ∷ [])) before =
      ap (λ b. set b (k + length a) x) e ∙ set_put (k + length a) x (put k a before) (omega (arith, m)) ∙ put_put k (k + length a) a (x ∷ []) before refl (omega arith) in
      ap (λ j. stored_from k j xs (set l (k + length a) x)) (sym n)
      ∙ stored_from_law k xs (a ++ (x ∷ [])) before (set l (k + length a) x) g (omega (arith, n))
      ∙ ap (λ b. put k b before) (append_assoc a (x ∷ []) xs)

  pub stored_put : (k : ℕ) (xs before : List X) → k + length xs ≤ length before → stored_at k xs before ≡ put k xs before
  stored_put k [] before h = sym (put_none k before)
  stored_put k (x ∷ xs) before h = stored_from_law k xs (x ∷ []) before (set before k x) (set_put k x before (omega arith)) (omega arith)
