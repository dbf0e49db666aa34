-- The loop `while_more`, for any step that takes one range away: where it stands still, where it goes on, and what a new range at the end changes.
-- Assumes nothing.
use Prim.Native.Nat.{ℕ, zero, suc, ◌≤◌, ◌<◌, min}
use mathlib.Core.Path.{◌≡◌, refl, sym, ap, ◌∙◌, subst}
use mathlib.Core.Bool.{cond}
use mathlib.Core.List.{List, [], ◌∷◌, ◌++◌}
use native.Mathlib.Omega.{arith}
use native.Mathlib.Numerals.{add-one}
use lib.Dec.{ltb}
use lib.ListN.{length, length-append}
use borrow.Author.Tests.{ltb-true, ltb-false, lt-ltb, le-ltb}
use Rattle.algebra.proofs.Tests.{split}
use Rattle.ranges.specs.declared.Range.{Range}
use Rattle.ranges.specs.Lists.{while_more}

pub length_snoc {ℓ} : {A : Type ℓ} (xs : List A) (r : A) → length (xs ++ r ∷ []) ≡ suc (length xs)
length_snoc xs r = length-append xs (r ∷ []) ∙ add-one (length xs)

abbrev pub Reduced : (List Range → List Range) → ℕ → List Range → List Range
Reduced step B xs = while_more step B (length xs) xs

-- at least two become one fewer
abbrev pub Shrinks : (List Range → List Range) → Type 0
Shrinks step = (xs : List Range) → 1 < length xs → suc (length (step xs)) ≡ length xs

module _ (step : List Range → List Range) (B : ℕ) where
  stays : (fuel : ℕ) (xs : List Range) → length xs ≤ B → while_more step B fuel xs ≡ xs
  unfolding while_more
  stays zero xs h = refl
  stays (suc fuel) xs h = rw (le-ltb B (length xs) h)

  pub reduced_few : (xs : List Range) → length xs ≤ B → Reduced step B xs ≡ xs
  reduced_few xs h = stays (length xs) xs h

  module _ (shrinks : Shrinks step) (one : 1 ≤ B) where
    pub reduced_more : (xs : List Range) → B < length xs → Reduced step B xs ≡ Reduced step B (step xs)
    unfolding while_more
    reduced_more xs h = ap (λ n. while_more step B n xs) (sym (shrinks xs (omega arith))) ∙ rw (lt-ltb B (length xs) h)

    -- few ranges stay, and more are as after a step
    pub reduced_ind : (P : List Range → List Range → Type 0)
        → ((xs : List Range) → length xs ≤ B → P xs xs)
        → ((xs ys : List Range) → B < length xs → P (step xs) ys → P xs ys)
        → (xs : List Range) → P xs (Reduced step B xs)
    reduced_ind P few more xs = go (length xs) xs (omega arith)
      where
        still : (xs : List Range) → length xs ≤ B → P xs (Reduced step B xs)
        still xs h = subst (P xs) (sym (reduced_few xs h)) (few xs h)

        go : (n : ℕ) (xs : List Range) → length xs ≤ n → P xs (Reduced step B xs)
        go zero xs h = still xs (omega arith)
        go (suc n) xs h =
            split (ltb B (length xs))
            (λ e.
            let l : B < length xs = ltb-true B (length xs) e in
            subst (P xs) (sym (reduced_more xs l)) (more xs _ l (go n (step xs) (omega (arith, shrinks xs (omega arith))))))
            (λ e. still xs (ltb-false B (length xs) e))

    pub length_reduced : (xs : List Range) → length (Reduced step B xs) ≡ min B (length xs)
    length_reduced =
        reduced_ind (λ xs ys. length ys ≡ min B (length xs))
        (λ xs h. omega arith)
        (λ xs ys h ih. omega (arith, shrinks xs (omega arith)))

    -- what a step keeps, the loop keeps
    pub reduced_keeps : (P : List Range → Type 0) → ((xs : List Range) → 1 < length xs → P xs → P (step xs)) → (xs : List Range) → P xs → P (Reduced step B xs)
    reduced_keeps P keep = reduced_ind (λ xs ys. P xs → P ys) (λ xs h p. p) (λ xs ys h ih p. ih (keep xs (omega arith) p))

    -- what a step commutes with, the loop commutes with
    pub reduced_along : (f : List Range → List Range)
        → ((xs : List Range) → length (f xs) ≡ length xs)
        → ((xs : List Range) → 1 < length xs → step (f xs) ≡ f (step xs))
        → (xs : List Range) → Reduced step B (f xs) ≡ f (Reduced step B xs)
    reduced_along f same along =
        reduced_ind (λ xs ys. Reduced step B (f xs) ≡ f ys)
        (λ xs h. reduced_few (f xs) (omega (arith, same xs)))
        (λ xs ys h ih. reduced_more (f xs) (omega (arith, same xs)) ∙ ap (Reduced step B) (along xs (omega arith)) ∙ ih)

    -- A new range at the end of a full list: another step. It is enough that two steps may leave the new range out of the first
    pub reduced_snoc : ((xs : List Range) (r : Range) → 1 < length xs → step (step (xs ++ r ∷ [])) ≡ step (step xs ++ r ∷ []))
        → (xs : List Range) (r : Range) → B ≤ length xs → Reduced step B (xs ++ r ∷ []) ≡ step (Reduced step B xs ++ r ∷ [])
    reduced_snoc commutes xs r = reduced_ind P few more xs
      where
        P : List Range → List Range → Type 0
        P xs ys = B ≤ length xs → Reduced step B (xs ++ r ∷ []) ≡ step (ys ++ r ∷ [])

        few : (xs : List Range) → length xs ≤ B → P xs xs
        few xs h g =
            let l = length_snoc xs r in
            reduced_more (xs ++ r ∷ []) (omega arith) ∙ reduced_few (step (xs ++ r ∷ [])) (omega (arith, shrinks (xs ++ r ∷ []) (omega arith)))

        more : (xs ys : List Range) → B < length xs → P (step xs) ys → P xs ys
        more xs ys h ih g =
            let l = length_snoc xs r in
            let k = length_snoc (step xs) r in
            let s = shrinks xs (omega arith) in
            let t = shrinks (xs ++ r ∷ []) (omega arith) in
            reduced_more (xs ++ r ∷ []) (omega arith)
            ∙ reduced_more (step (xs ++ r ∷ [])) (omega arith)
            ∙ ap (Reduced step B) (commutes xs r (omega arith))
            ∙ sym (reduced_more (step xs ++ r ∷ []) (omega arith))
            ∙ ih (omega arith)

    -- A range is put at the end of the reduced list, or, where that is full, a step follows, here called `full`
    pub reduced_new : (full : List Range → Range → List Range)
        → ((xs : List Range) (r : Range) → 0 < length xs → step (xs ++ r ∷ []) ≡ full xs r)
        → ((xs : List Range) (r : Range) → 1 < length xs → step (step (xs ++ r ∷ [])) ≡ step (step xs ++ r ∷ []))
        → (xs : List Range) (r : Range)
        → cond (ltb (length (Reduced step B xs)) B) (Reduced step B xs ++ r ∷ []) (full (Reduced step B xs) r) ≡ Reduced step B (xs ++ r ∷ [])
    reduced_new full is commutes xs r =
        let l = length_reduced xs in
        split (ltb (length xs) B)
        (λ t.
        let k : length xs < B = ltb-true (length xs) B t in
        rw (lt-ltb (length (Reduced step B xs)) B (omega arith))
        (ap (λ ys. ys ++ r ∷ []) (reduced_few xs (omega arith)) ∙ sym (reduced_few (xs ++ r ∷ []) (omega (arith, length_snoc xs r)))))
        (λ t.
        let k : B ≤ length xs = ltb-false (length xs) B t in
        rw (le-ltb (length (Reduced step B xs)) B (omega arith))
        (sym (reduced_snoc commutes xs r k ∙ is (Reduced step B xs) r (omega arith))))
