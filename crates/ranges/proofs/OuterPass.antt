-- One pass gives the outer list. A range that touches the last one extends it and changes no gap before it; and of two joins that follow a new
-- range, the first may be made before it comes. Assumes nothing.
use Prim.Native.Nat.{ℕ, zero, suc, ◌+◌, ◌≤◌, ◌<◌}
use mathlib.Core.Path.{◌≡◌, refl, sym, ap, ◌∙◌}
use mathlib.Core.Bool.{Bool, true, false, cond, true≢false}
use mathlib.Core.List.{List, [], ◌∷◌, ◌++◌, foldl, append_assoc, append-nil}
use native.Mathlib.Omega.{arith}
use lib.Dec.{eqb}
use lib.ListN.{length}
use Rattle.algebra.proofs.Tests.{split}
use Rattle.ranges.specs.declared.Range.{Range}
use Rattle.ranges.specs.Lists.{over, touch, joined, joined_from, earliest, gaps, gap, join_at, join_smallest, outer_of, without, while_more}
use Rattle.ranges.proofs.Loop.{length_snoc, Reduced, Shrinks, reduced_few, reduced_keeps, reduced_along, reduced_new, length_reduced}
use Rattle.ranges.proofs.Pushing.{below, last_high, extend, new_gap, outer_full, outer_new, outer_push, outer_pass}
use Rattle.ranges.proofs.Earliest.{below_without, earliest_inside, earliest_snoc}

-- ---- gaps

pub length_gaps : (a : Range) (xs : List Range) → length (gaps (a ∷ xs)) ≡ length xs
unfolding gaps
length_gaps a [] = refl
length_gaps a (b ∷ xs) = ap suc (length_gaps b xs)

pub gaps_snoc : (a : Range) (xs : List Range) (r : Range) → gaps (a ∷ xs ++ r ∷ []) ≡ gaps (a ∷ xs) ++ new_gap (a ∷ xs) r ∷ []
unfolding gaps last_high
gaps_snoc a [] r = refl
gaps_snoc a (b ∷ xs) r = ap (λ l. gap a b ∷ l) (gaps_snoc b xs r)

pub last_high_snoc : (xs : List Range) (p : Range) → last_high (xs ++ p ∷ []) ≡ p.high
unfolding last_high
last_high_snoc [] p = refl
last_high_snoc (a ∷ []) p = refl
last_high_snoc (a ∷ b ∷ xs) p = last_high_snoc (b ∷ xs) p

-- ---- the last range goes on

pub length_extend : (xs : List Range) (r : Range) → length (extend xs r) ≡ length xs
unfolding extend
length_extend [] r = refl
length_extend (a ∷ []) r = refl
length_extend (a ∷ b ∷ xs) r = ap suc (length_extend (b ∷ xs) r)

pub gaps_extend : (xs : List Range) (r : Range) → gaps (extend xs r) ≡ gaps xs
unfolding gaps extend
gaps_extend [] r = refl
gaps_extend (a ∷ []) r = refl
gaps_extend (a ∷ b ∷ []) r = refl
gaps_extend (a ∷ b ∷ c ∷ xs) r = ap (λ l. gap a b ∷ l) (gaps_extend (b ∷ c ∷ xs) r)

-- ---- two ranges join

pub length_join_at : (i : ℕ) (a : Range) (xs : List Range) → i < length xs → suc (length (join_at i (a ∷ xs))) ≡ length (a ∷ xs)
unfolding join_at
length_join_at i a [] h = absurd (omega arith)
length_join_at zero a (b ∷ xs) h = refl
length_join_at (suc i) a (b ∷ xs) h = ap suc (length_join_at i b xs (omega arith))

join_at_snoc : (i : ℕ) (a : Range) (xs : List Range) (r : Range) → i < length xs → join_at i (a ∷ xs ++ r ∷ []) ≡ join_at i (a ∷ xs) ++ r ∷ []
unfolding join_at
join_at_snoc i a [] r h = absurd (omega arith)
join_at_snoc zero a (b ∷ xs) r h = refl
join_at_snoc (suc i) a (b ∷ xs) r h = ap (λ l. a ∷ l) (join_at_snoc i b xs r (omega arith))

join_at_last : (a : Range) (xs : List Range) (r : Range) → join_at (length xs) (a ∷ xs ++ r ∷ []) ≡ extend (a ∷ xs) r
unfolding join_at extend
join_at_last a [] r = refl
join_at_last a (b ∷ xs) r = ap (λ l. a ∷ l) (join_at_last b xs r)

join_at_extend : (i : ℕ) (a : Range) (xs : List Range) (r : Range) → i < length xs → join_at i (extend (a ∷ xs) r) ≡ extend (join_at i (a ∷ xs)) r
unfolding join_at extend
join_at_extend i a [] r h = absurd (omega arith)
join_at_extend zero a (b ∷ []) r h = refl
join_at_extend zero a (b ∷ c ∷ xs) r h = refl
join_at_extend (suc i) a (b ∷ []) r h = absurd (omega arith)
join_at_extend (suc zero) a (b ∷ c ∷ xs) r h = ap (λ l. a ∷ l) (join_at_extend zero b (c ∷ xs) r (omega arith))
join_at_extend (suc (suc i)) a (b ∷ c ∷ xs) r h = ap (λ l. a ∷ l) (join_at_extend (suc i) b (c ∷ xs) r (omega arith))

pub gaps_join_at : (i : ℕ) (a : Range) (xs : List Range) → i < length xs → gaps (join_at i (a ∷ xs)) ≡ without i (gaps (a ∷ xs))
unfolding join_at gaps without
gaps_join_at i a [] h = absurd (omega arith)
gaps_join_at zero a (b ∷ []) h = refl
gaps_join_at zero a (b ∷ c ∷ xs) h = refl
gaps_join_at (suc i) a (b ∷ []) h = absurd (omega arith)
gaps_join_at (suc zero) a (b ∷ c ∷ xs) h = ap (λ l. gap a b ∷ l) (gaps_join_at zero b (c ∷ xs) (omega arith))
gaps_join_at (suc (suc i)) a (b ∷ c ∷ xs) h = ap (λ l. gap a b ∷ l) (gaps_join_at (suc i) b (c ∷ xs) (omega arith))

pub last_high_join_at : (i : ℕ) (xs : List Range) → last_high (join_at i xs) ≡ last_high xs
unfolding join_at last_high
last_high_join_at i [] = refl
last_high_join_at i (a ∷ []) = refl
last_high_join_at zero (a ∷ b ∷ []) = refl
last_high_join_at zero (a ∷ b ∷ c ∷ xs) = refl
last_high_join_at (suc i) (a ∷ b ∷ []) = refl
last_high_join_at (suc zero) (a ∷ b ∷ c ∷ xs) = last_high_join_at zero (b ∷ c ∷ xs)
last_high_join_at (suc (suc i)) (a ∷ b ∷ c ∷ xs) = last_high_join_at (suc i) (b ∷ c ∷ xs)

-- ---- join over the smallest gap

inside : (a : Range) (xs : List Range) → 0 < length xs → earliest (gaps (a ∷ xs)) < length xs
inside a xs h = let l = length_gaps a xs in omega (arith, earliest_inside (gaps (a ∷ xs)) (omega arith))

pub join_smallest_shrinks : Shrinks join_smallest
unfolding join_smallest
join_smallest_shrinks [] h = absurd (omega arith)
join_smallest_shrinks (a ∷ xs) h = length_join_at (earliest (gaps (a ∷ xs))) a xs (inside a xs (omega arith))

-- one of the smallest gaps goes, and the others stay
pub gaps_join_smallest : (xs : List Range) → 1 < length xs → gaps (join_smallest xs) ≡ without (earliest (gaps xs)) (gaps xs)
unfolding join_smallest
gaps_join_smallest [] h = absurd (omega arith)
gaps_join_smallest (a ∷ xs) h = gaps_join_at (earliest (gaps (a ∷ xs))) a xs (inside a xs (omega arith))

join_smallest_extend : (xs : List Range) (r : Range) → 1 < length xs → join_smallest (extend xs r) ≡ extend (join_smallest xs) r
unfolding join_smallest
join_smallest_extend [] r h = absurd (omega arith)
join_smallest_extend (a ∷ xs) r h =
    ap (λ l. join_at (earliest l) (extend (a ∷ xs) r)) (gaps_extend (a ∷ xs) r)
    ∙ join_at_extend (earliest (gaps (a ∷ xs))) a xs r (inside a xs (omega arith))

pub last_high_join_smallest : (xs : List Range) → last_high (join_smallest xs) ≡ last_high xs
unfolding join_smallest
last_high_join_smallest xs = last_high_join_at (earliest (gaps xs)) xs

-- the new gap is below the others
Nearest : List Range → Range → Bool
Nearest xs r = below (new_gap xs r) (gaps xs)

full_on : (xs : List Range) (r : Range) → Nearest xs r ≡ true → outer_full xs r ≡ extend xs r
unfolding outer_full Nearest
full_on xs r t = rw t

full_off : (xs : List Range) (r : Range) → Nearest xs r ≡ false → outer_full xs r ≡ join_smallest xs ++ r ∷ []
unfolding outer_full Nearest
full_off xs r t = rw t

nearest_alone : (a : Range) (xs : List Range) (r : Range) → Nearest (a ∷ xs) r ≡ false → 0 < length xs
unfolding Nearest below gaps
nearest_alone a [] r t = absurd (true≢false t)
nearest_alone a (b ∷ xs) r t = omega arith

join_smallest_snoc : (xs : List Range) (r : Range) → 0 < length xs → join_smallest (xs ++ r ∷ []) ≡ outer_full xs r
join_smallest_snoc [] r h = absurd (omega arith)
join_smallest_snoc (a ∷ xs) r h =
    split (Nearest (a ∷ xs) r)
    (λ t. at (here t) ∙ join_at_last a xs r ∙ sym (full_on (a ∷ xs) r t))
    (λ t. at (there t) ∙ off t ∙ sym (full_off (a ∷ xs) r t))
  where
    g : ℕ
    g = new_gap (a ∷ xs) r

    found : earliest (gaps (a ∷ xs ++ r ∷ [])) ≡ cond (below g (gaps (a ∷ xs))) (length (gaps (a ∷ xs))) (earliest (gaps (a ∷ xs)))
    found = ap earliest (gaps_snoc a xs r) ∙ earliest_snoc (gaps (a ∷ xs)) g

    at : {i : ℕ} → earliest (gaps (a ∷ xs ++ r ∷ [])) ≡ i → join_smallest (a ∷ xs ++ r ∷ []) ≡ join_at i (a ∷ xs ++ r ∷ [])
    at e = unfold join_smallest in ap (λ i. join_at i (a ∷ xs ++ r ∷ [])) e

    here : Nearest (a ∷ xs) r ≡ true → earliest (gaps (a ∷ xs ++ r ∷ [])) ≡ length xs
    here t = unfold Nearest in found ∙ rw t (length_gaps a xs)

    there : Nearest (a ∷ xs) r ≡ false → earliest (gaps (a ∷ xs ++ r ∷ [])) ≡ earliest (gaps (a ∷ xs))
    there t = unfold Nearest in found ∙ rw t

    off : Nearest (a ∷ xs) r ≡ false → join_at (earliest (gaps (a ∷ xs))) (a ∷ xs ++ r ∷ []) ≡ join_smallest (a ∷ xs) ++ r ∷ []
    off t = unfold join_smallest in join_at_snoc (earliest (gaps (a ∷ xs))) a xs r (inside a xs (nearest_alone a xs r t))

-- as above, by the place of the smallest gap, where it is not the new one
pub full_join : (xs : List Range) (r : Range) (i : ℕ) → i ≡ earliest (gaps xs ++ new_gap xs r ∷ []) → i + 1 < length xs → outer_full xs r ≡ join_at i xs ++ r ∷ []
full_join [] r i e h = absurd (omega arith)
full_join (a ∷ xs) r i e h =
    sym (join_smallest_snoc (a ∷ xs) r (omega arith))
    ∙ unfold join_smallest in ap (λ l. join_at (earliest l) (a ∷ xs ++ r ∷ [])) (gaps_snoc a xs r)
    ∙ ap (λ k. join_at k (a ∷ xs ++ r ∷ [])) (sym e)
    ∙ join_at_snoc i a xs r (omega arith)

pub length_full : (xs : List Range) (r : Range) → 0 < length xs → length (outer_full xs r) ≡ length xs
length_full xs r h =
    let k = length_snoc xs r in
    ap length (sym (join_smallest_snoc xs r h)) ∙ pred_eq (join_smallest_shrinks (xs ++ r ∷ []) (omega arith) ∙ k)
  where
    pred_eq : {a b : ℕ} → suc a ≡ suc b → a ≡ b
    pred_eq e = omega arith

-- the new gap stays below the others when two of them join
nearest_stays : (xs : List Range) (r : Range) → 1 < length xs → Nearest xs r ≡ true → Nearest (join_smallest xs) r ≡ true
unfolding Nearest
nearest_stays xs r h t =
    rw (last_high_join_smallest xs, gaps_join_smallest xs h) (below_without (new_gap xs r) (earliest (gaps xs)) (gaps xs) t)

commutes : (xs : List Range) (r : Range) → 1 < length xs → join_smallest (join_smallest (xs ++ r ∷ [])) ≡ join_smallest (join_smallest xs ++ r ∷ [])
commutes xs r h =
    split (Nearest xs r)
    (λ t.
    ap join_smallest (join_smallest_snoc xs r (omega arith) ∙ full_on xs r t)
    ∙ join_smallest_extend xs r h
    ∙ sym (join_smallest_snoc (join_smallest xs) r (omega (arith, join_smallest_shrinks xs h)) ∙ full_on (join_smallest xs) r (nearest_stays xs r h t)))
    (λ t. ap join_smallest (join_smallest_snoc xs r (omega arith) ∙ full_off xs r t))

-- ---- touching ranges, and a new one

unfoldable pub join_on : List Range → Range → List Range
join_on xs r = cond (eqb (last_high xs + 1) r.low) (extend xs r) (xs ++ r ∷ [])

join_on_cons : (a : Range) (ys : List Range) (r : Range) → 0 < length ys → join_on (a ∷ ys) r ≡ a ∷ join_on ys r
unfolding join_on last_high extend
join_on_cons a [] r h = absurd (omega arith)
join_on_cons a (b ∷ ys) r h = split (eqb (last_high (b ∷ ys) + 1) r.low) (λ t. rw t) (λ t. rw t)

pub length_joined_from : (a : Range) (xs : List Range) → 0 < length (joined_from a xs)
unfolding joined_from
length_joined_from a [] = omega arith
length_joined_from a (b ∷ xs) = split (touch a b) (λ t. rw t (length_joined_from (over a b) xs)) (λ t. rw t (omega arith))

pub joined_from_snoc : (a : Range) (xs : List Range) (r : Range) → joined_from a (xs ++ r ∷ []) ≡ join_on (joined_from a xs) r
unfolding joined_from
joined_from_snoc a [] r = unfold join_on last_high extend in refl
joined_from_snoc a (b ∷ xs) r =
    split (touch a b)
    (λ t. rw t (joined_from_snoc (over a b) xs r))
    (λ t. rw t (ap (λ l. a ∷ l) (joined_from_snoc b xs r) ∙ sym (join_on_cons a (joined_from b xs) r (length_joined_from b xs))))

-- ---- a range is pushed

pub push_some : (B : ℕ) (xs : List Range) (r : Range) → 0 < length xs → outer_push B xs r ≡ cond (eqb (last_high xs + 1) r.low) (extend xs r) (outer_new B xs r)
unfolding outer_push
push_some B [] r h = absurd (omega arith)
push_some B (a ∷ xs) r h = refl

module _ (B : ℕ) (one : 1 ≤ B) where
  reduce : List Range → List Range
  reduce = Reduced join_smallest B

  new_is : (xs : List Range) (r : Range) → outer_new B (reduce xs) r ≡ reduce (xs ++ r ∷ [])
  unfolding outer_new reduce
  new_is = reduced_new join_smallest B join_smallest_shrinks one outer_full join_smallest_snoc commutes

  extend_reduce : (xs : List Range) (r : Range) → extend (reduce xs) r ≡ reduce (extend xs r)
  unfolding reduce
  extend_reduce xs r =
      sym (reduced_along join_smallest B join_smallest_shrinks one (λ ys. extend ys r) (λ ys. length_extend ys r) (λ ys h. join_smallest_extend ys r h) xs)

  last_high_reduce : (xs : List Range) → last_high (reduce xs) ≡ last_high xs
  unfolding reduce
  last_high_reduce xs =
      reduced_keeps join_smallest B join_smallest_shrinks one (λ ys. last_high ys ≡ last_high xs) (λ ys h e. last_high_join_smallest ys ∙ e) xs refl

  some_reduce : (xs : List Range) → 0 < length xs → 0 < length (reduce xs)
  unfolding reduce
  some_reduce xs h = omega (arith, length_reduced join_smallest B join_smallest_shrinks one xs)

  push_is : (xs : List Range) (r : Range) → 0 < length xs → outer_push B (reduce xs) r ≡ reduce (join_on xs r)
  unfolding join_on
  push_is xs r h =
      push_some B (reduce xs) r (some_reduce xs h)
      ∙ rw (last_high_reduce xs)
      (split (eqb (last_high xs + 1) r.low)
      (λ t. rw t (extend_reduce xs r))
      (λ t. rw t (new_is xs r)))

  pub push_outer : (xs : List Range) (r : Range) → outer_push B (outer_of B xs) r ≡ outer_of B (xs ++ r ∷ [])
  unfolding outer_of joined
  push_outer [] r = unfold while_more outer_push joined_from in sym (reduced_few join_smallest B (r ∷ []) (omega arith))
  push_outer (a ∷ xs) r = unfold reduce in push_is (joined_from a xs) r (length_joined_from a xs) ∙ ap (Reduced join_smallest B) (sym (joined_from_snoc a xs r))

  fold_outer : (done rest : List Range) → foldl (outer_push B) (outer_of B done) rest ≡ outer_of B (done ++ rest)
  fold_outer done [] = ap (outer_of B) (sym (append-nil done))
  fold_outer done (r ∷ rest) =
      ap (λ xs. foldl (outer_push B) xs rest) (push_outer done r)
      ∙ fold_outer (done ++ r ∷ []) rest
      ∙ ap (outer_of B) (append_assoc done (r ∷ []) rest)

  -- one pass gives the outer list
  pub outer_pass_law : (accepted : List Range) → outer_pass B accepted ≡ outer_of B accepted
  unfolding outer_pass
  outer_pass_law accepted = unfold outer_of joined while_more in fold_outer [] accepted
