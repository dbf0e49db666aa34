-- One pass gives the inner list. Its last range may still grow, so it stands beside the list until the next one does not touch it; and of two
-- ranges that are dropped after a new one, the first may be dropped before it comes. Assumes nothing.
use Prim.Native.Nat.{ℕ, zero, suc, ◌≤◌, ◌<◌}
use mathlib.Core.Path.{◌≡◌, refl, sym, ap, ◌∙◌}
use mathlib.Core.Bool.{Bool, true, false, cond}
use mathlib.Core.List.{List, [], ◌∷◌, ◌++◌, map, map-append, foldl, append_assoc, append-nil}
use native.Mathlib.Omega.{arith}
use lib.ListN.{length, length-map}
use Rattle.algebra.proofs.Tests.{split}
use Rattle.ranges.specs.declared.Range.{Range}
use Rattle.ranges.specs.Lists.{over, touch, joined, joined_from, earliest, size, without, drop_shortest, inner_of, while_more}
use Rattle.ranges.proofs.Loop.{length_snoc, Reduced, Shrinks, reduced_new}
use Rattle.ranges.proofs.Pushing.{below, extend, inner_full, inner_close, Inner, empty, growing, inner_push, inner_end, inner_pass}
use Rattle.ranges.proofs.Earliest.{below_without, earliest_inside, earliest_snoc}
use Rattle.ranges.proofs.OuterPass.{last_high_snoc, join_on, joined_from_snoc}

-- ---- a range is left out

pub length_without : (i : ℕ) (xs : List Range) → i < length xs → suc (length (without i xs)) ≡ length xs
unfolding without
length_without i [] h = absurd (omega arith)
length_without zero (a ∷ xs) h = refl
length_without (suc i) (a ∷ xs) h = ap suc (length_without i xs (omega arith))

without_snoc : (i : ℕ) (xs : List Range) (r : Range) → i < length xs → without i (xs ++ r ∷ []) ≡ without i xs ++ r ∷ []
unfolding without
without_snoc i [] r h = absurd (omega arith)
without_snoc zero (a ∷ xs) r h = refl
without_snoc (suc i) (a ∷ xs) r h = ap (λ l. a ∷ l) (without_snoc i xs r (omega arith))

without_last : (xs : List Range) (r : Range) → without (length xs) (xs ++ r ∷ []) ≡ xs
unfolding without
without_last [] r = refl
without_last (a ∷ xs) r = ap (λ l. a ∷ l) (without_last xs r)

pub map_without : (f : Range → ℕ) (i : ℕ) (xs : List Range) → map f (without i xs) ≡ without i (map f xs)
unfolding without
map_without f i [] = refl
map_without f zero (a ∷ xs) = refl
map_without f (suc i) (a ∷ xs) = ap (λ l. f a ∷ l) (map_without f i xs)

-- ---- drop the shortest

inside : (xs : List Range) → 0 < length xs → earliest (map size xs) < length xs
inside xs h = let l = length-map xs size in omega (arith, earliest_inside (map size xs) (omega arith))

pub drop_shortest_shrinks : Shrinks drop_shortest
unfolding drop_shortest
drop_shortest_shrinks xs h = length_without (earliest (map size xs)) xs (inside xs (omega arith))

Shortest : List Range → Range → Bool
Shortest xs r = below (size r) (map size xs)

full_on : (xs : List Range) (r : Range) → Shortest xs r ≡ true → inner_full xs r ≡ xs
unfolding inner_full Shortest
full_on xs r t = rw t

-- as above, without the name `Shortest`
pub full_stays : (xs : List Range) (r : Range) → below (size r) (map size xs) ≡ true → inner_full xs r ≡ xs
unfolding Shortest
full_stays = full_on

full_off : (xs : List Range) (r : Range) → Shortest xs r ≡ false → inner_full xs r ≡ drop_shortest xs ++ r ∷ []
unfolding inner_full Shortest
full_off xs r t = rw t

drop_shortest_snoc : (xs : List Range) (r : Range) → 0 < length xs → drop_shortest (xs ++ r ∷ []) ≡ inner_full xs r
unfolding drop_shortest Shortest
drop_shortest_snoc xs r h =
    split (Shortest xs r)
    (λ t. at (found ∙ rw t (length-map xs size)) ∙ without_last xs r ∙ sym (full_on xs r t))
    (λ t. at (found ∙ rw t) ∙ without_snoc (earliest (map size xs)) xs r (inside xs h) ∙ sym (full_off xs r t))
  where
    found : earliest (map size (xs ++ r ∷ [])) ≡ cond (below (size r) (map size xs)) (length (map size xs)) (earliest (map size xs))
    found = ap earliest (map-append size xs (r ∷ [])) ∙ earliest_snoc (map size xs) (size r)

    at : {i : ℕ} → earliest (map size (xs ++ r ∷ [])) ≡ i → without (earliest (map size (xs ++ r ∷ []))) (xs ++ r ∷ []) ≡ without i (xs ++ r ∷ [])
    at e = ap (λ i. without i (xs ++ r ∷ [])) e

-- as above, by the place of the shortest, where it is not the new one
pub full_drops : (xs : List Range) (r : Range) (i : ℕ) → i ≡ earliest (map size (xs ++ r ∷ [])) → i < length xs → inner_full xs r ≡ without i xs ++ r ∷ []
full_drops xs r i e k =
    sym (drop_shortest_snoc xs r (omega arith))
    ∙ unfold drop_shortest in ap (λ j. without j (xs ++ r ∷ [])) (sym e)
    ∙ without_snoc i xs r k

pub length_inner_full : (xs : List Range) (r : Range) → 0 < length xs → length (inner_full xs r) ≡ length xs
length_inner_full xs r h =
    let k = length_snoc xs r in
    ap length (sym (drop_shortest_snoc xs r h)) ∙ pred_eq (drop_shortest_shrinks (xs ++ r ∷ []) (omega arith) ∙ k)
  where
    pred_eq : {a b : ℕ} → suc a ≡ suc b → a ≡ b
    pred_eq e = omega arith

shortest_stays : (xs : List Range) (r : Range) → Shortest xs r ≡ true → Shortest (drop_shortest xs) r ≡ true
unfolding Shortest drop_shortest
shortest_stays xs r t = let i : ℕ = earliest (map size xs) in rw (map_without size i xs) (below_without (size r) i (map size xs) t)

commutes : (xs : List Range) (r : Range) → 1 < length xs → drop_shortest (drop_shortest (xs ++ r ∷ [])) ≡ drop_shortest (drop_shortest xs ++ r ∷ [])
commutes xs r h =
    split (Shortest xs r)
    (λ t.
    ap drop_shortest (drop_shortest_snoc xs r (omega arith) ∙ full_on xs r t)
    ∙ sym (drop_shortest_snoc (drop_shortest xs) r (omega (arith, drop_shortest_shrinks xs h)) ∙ full_on (drop_shortest xs) r (shortest_stays xs r t)))
    (λ t. ap drop_shortest (drop_shortest_snoc xs r (omega arith) ∙ full_off xs r t))

-- ---- the last range

extend_snoc : (xs : List Range) (p r : Range) → extend (xs ++ p ∷ []) r ≡ xs ++ over p r ∷ []
unfolding extend
extend_snoc [] p r = refl
extend_snoc (a ∷ []) p r = refl
extend_snoc (a ∷ b ∷ xs) p r = ap (λ l. a ∷ l) (extend_snoc (b ∷ xs) p r)

join_on_snoc : (xs : List Range) (p r : Range) → join_on (xs ++ p ∷ []) r ≡ cond (touch p r) (xs ++ over p r ∷ []) (xs ++ p ∷ [] ++ r ∷ [])
unfolding join_on
join_on_snoc xs p r = rw (last_high_snoc xs p, extend_snoc xs p r)

joined_snoc : (done : List Range) (r : Range) → 0 < length done → joined (done ++ r ∷ []) ≡ join_on (joined done) r
unfolding joined
joined_snoc [] r h = absurd (omega arith)
joined_snoc (a ∷ done) r h = joined_from_snoc a done r

module _ (B : ℕ) (one : 1 ≤ B) where
  reduce : List Range → List Range
  reduce = Reduced drop_shortest B

  close_is : (xs : List Range) (r : Range) → inner_close B (reduce xs) r ≡ reduce (xs ++ r ∷ [])
  unfolding inner_close reduce
  close_is = reduced_new drop_shortest B drop_shortest_shrinks one inner_full drop_shortest_snoc commutes

  -- the state after some ranges
  data After : List Range → Inner → Type 0 where
    none : After [] empty
    some : {done : List Range} (xs : List Range) (p : Range) → 0 < length done → joined done ≡ xs ++ p ∷ [] → After done (growing (reduce xs) p)

  push_inner : {done : List Range} {s : Inner} (r : Range) → After done s → After (done ++ r ∷ []) (inner_push B s r)
  unfolding inner_push
  push_inner r none = unfold reduce while_more in some {done = r ∷ []} [] r (omega arith) (unfold joined joined_from in refl)
  push_inner r (some {done} xs p h e) =
      split (touch p r)
      (λ t. rw t (some {done = done ++ r ∷ []} xs (over p r) (omega (arith, length_snoc done r)) (next ∙ rw t)))
      (λ t. rw (t, close_is xs p) (some {done = done ++ r ∷ []} (xs ++ p ∷ []) r (omega (arith, length_snoc done r)) (next ∙ rw t)))
    where
      next : joined (done ++ r ∷ []) ≡ cond (touch p r) (xs ++ over p r ∷ []) (xs ++ p ∷ [] ++ r ∷ [])
      next = joined_snoc done r h ∙ ap (λ l. join_on l r) e ∙ join_on_snoc xs p r

  fold_inner : {done : List Range} {s : Inner} (rest : List Range) → After done s → After (done ++ rest) (foldl (inner_push B) s rest)
  fold_inner {done} [] a = rw (append-nil done) a
  fold_inner {done} {s} (r ∷ rest) a = rw append_assoc at (fold_inner {done = done ++ r ∷ []} {s = inner_push B s r} rest (push_inner r a))

  end_inner : {done : List Range} {s : Inner} → After done s → inner_end B s ≡ inner_of B done
  unfolding inner_end inner_of
  end_inner none = unfold joined while_more in refl
  end_inner (some {done} xs p h e) = close_is xs p ∙ unfold reduce in ap (Reduced drop_shortest B) (sym e)

  -- one pass gives the inner list
  pub inner_pass_law : (accepted : List Range) → inner_pass B accepted ≡ inner_of B accepted
  unfolding inner_pass
  inner_pass_law accepted = end_inner (fold_inner accepted none)
