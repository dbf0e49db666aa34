-- The outer list is the tightest for its budget: no list of at most as many ranges that contains the accepted ones contains fewer identifiers. It swallows
-- one gap for each range beyond the budget, a smallest one each time, and a join leaves the other gaps as they were, so no other gaps, as many, have less
-- (Cheapest of algebra); and any other list contains at least as many gaps whole (OtherLists). Which of two equal gaps is joined over changes the list, not
-- its size: of the gap only that none is smaller is used. Assumes nothing.
use Prim.Native.Nat.{ℕ, suc, ◌+◌, ◌-◌, ◌≤◌, ◌<◌}
use mathlib.Core.Path.{◌≡◌, refl, sym, ap, subst, ◌∙◌}
use mathlib.Core.Bool.{true, false, true≢false}
use mathlib.Core.List.{List, [], ◌∷◌, ◌++◌}
use native.Mathlib.Omega.{arith}
use lib.Dec.{leb}
use lib.ListN.{length}
use borrow.Author.Tests.{leb-true, leb-false}
use Rattle.algebra.specs.Lists.{some, numbers_from}
use Rattle.algebra.proofs.Tests.{split, or_left}
use Rattle.algebra.proofs.Cheapest.{none_below_less, cheapest_first}
use Rattle.algebra.proofs.Costs.{Costs, NoneBelow}
use Rattle.ranges.specs.declared.Range.{Range}
use Rattle.ranges.specs.Ranges.{in_some}
use Rattle.ranges.specs.Lists.{joined, smallest, earliest, without, gaps, join_smallest, while_more, outer_of}
use Rattle.ranges.specs.Contents.{different, Feasible, swallowed_from, swallowed_of}
use Rattle.ranges.proofs.Loop.{reduced_ind}
use Rattle.ranges.proofs.Earliest.{smallest_one, smallest_cons, earliest_one, earliest_here, earliest_later}
use Rattle.ranges.proofs.OuterPass.{gaps_join_smallest, join_smallest_shrinks}
use Rattle.ranges.proofs.Sound.{joined_only, outer_few, outer_all}
use Rattle.ranges.proofs.ListLaws.{is_in_law, some_has, has_some, Between, between_spaced}
use Rattle.ranges.proofs.ContentsLaws.{between_joined, identifiers_joined, some_gap, none_swallowed, more_swallowed, between_outer, identifiers_outer}
use Rattle.ranges.proofs.ContentsLaws.{different_all}
use Rattle.ranges.proofs.OtherLists.{contained_least}

-- ---- the smallest of some gaps is there, and none is smaller

-- what stands before it and behind it
record SplitAtSmallest (gs : List ℕ) : Type 0 where
  front : List ℕ
  back : List ℕ
  whole : gs ≡ front ++ smallest gs ∷ back
  others : without (earliest gs) gs ≡ front ++ back

split_at_smallest : (gs : List ℕ) → 0 < length gs → SplitAtSmallest gs
unfolding without
split_at_smallest [] h = absurd (omega arith)
split_at_smallest (g ∷ []) h = record { front = []; back = []; whole = rw (smallest_one g) refl; others = rw (earliest_one g) refl }
split_at_smallest (g ∷ k ∷ gs) h =
    let m = smallest (k ∷ gs) in
    split (leb g m)
    (λ e.
    let le = leb-true g m e in
    let s : smallest (g ∷ k ∷ gs) ≡ g = omega (arith, smallest_cons g k gs) in
    record { front = []; back = k ∷ gs; whole = rw s refl; others = rw (earliest_here g k gs le) refl })
    (λ e.
    let lt = leb-false g m e in
    let s : smallest (g ∷ k ∷ gs) ≡ m = omega (arith, smallest_cons g k gs) in
    let p = split_at_smallest (k ∷ gs) (omega arith) in
    record {
      front = g ∷ p.front;
      back = p.back;
      whole = rw s (ap (λ l. g ∷ l) p.whole);
      others = rw (earliest_later g k gs lt) (ap (λ l. g ∷ l) p.others);
    })

none_smaller : (gs : List ℕ) → NoneBelow (smallest gs) gs
none_smaller [] = tt
none_smaller (g ∷ []) = (omega (arith, smallest_one g), tt)
none_smaller (g ∷ k ∷ gs) =
    let s = smallest_cons g k gs in
    (omega arith, none_below_less (smallest (g ∷ k ∷ gs)) (smallest (k ∷ gs)) (k ∷ gs) (omega arith) (none_smaller (k ∷ gs)))

-- any n + 1 of the gaps have at least what the smallest has and what any n of the others have
with_smallest : (gs : List ℕ) (v n : ℕ) → 0 < length gs → Costs v n (without (earliest gs) gs) → Costs (smallest gs + v) (suc n) gs
with_smallest gs v n h s =
    let p = split_at_smallest gs h in
    subst (Costs (smallest gs + v) (suc n)) (sym p.whole)
    (cheapest_first (smallest gs) p.front p.back v n
    (subst (NoneBelow (smallest gs)) p.whole (none_smaller gs)) (subst (Costs v n) p.others s))

module _ (B : ℕ) (one : 1 ≤ B) where
  -- ---- any gaps, as many as there are ranges beyond the budget, have at least what the loop swallows

  abbrev Cheap : List Range → Type 0
  Cheap xs = Costs (swallowed_from B (length xs) xs) (length xs - B) (gaps xs)

  cheap_few : (xs : List Range) → length xs ≤ B → Cheap xs
  cheap_few xs h =
      let n : length xs - B ≡ 0 = omega arith in
      rw n (omega (arith, none_swallowed B one (length xs) xs h))

  cheap_more : (xs : List Range) → B < length xs → Cheap (join_smallest xs) → Cheap xs
  cheap_more xs h c =
      let ys = join_smallest xs in
      let n : length xs - B ≡ suc (length ys - B) = omega (arith, join_smallest_shrinks xs (omega arith)) in
      let rest = subst (Costs (swallowed_from B (length ys) ys) (length ys - B)) (gaps_join_smallest xs (omega arith)) c in
      rw (more_swallowed B one xs h, n) (with_smallest (gaps xs) (swallowed_from B (length ys) ys) (length ys - B) (some_gap xs (omega arith)) rest)

  cheap : (xs : List Range) → Cheap xs
  cheap = reduced_ind join_smallest B join_smallest_shrinks one (λ xs ys. Cheap xs) cheap_few (λ xs ys h c. cheap_more xs h c)

  -- ---- the outer list of ranges in a stretch of n numbers from a on

  module _ (a n : ℕ) (rs : List Range) (p : Between a (a + n) rs) where
    pub outer_feasible : Feasible B rs (outer_of B rs)
    outer_feasible = record {
      few = omega (arith, outer_few B one rs);
      all = λ i e. let h = some_has i rs e in has_some i (outer_of B rs) (outer_all B one rs (between_spaced a (a + n) rs p) h.0 i h.1);
    }

    -- every other list that will do contains at least as many different numbers of the stretch
    pub outer_tightest : (other : List Range) → Feasible B rs other → different (numbers_from a n) (outer_of B rs) ≤ different (numbers_from a n) other
    unfolding swallowed_of
    outer_tightest other f =
        let xs = joined rs in
        let all : (i : ℕ) → in_some i xs ≡ true → in_some i other ≡ true =
        λ i e. let h = some_has i xs e in f.all i (has_some i rs (joined_only rs h.0 i h.1)) in
        let q = between_joined a (a + n) rs p in
        let least = contained_least other a (a + n) (swallowed_from B (length xs) xs) (length xs - B) xs q all (omega (arith, f.few)) (cheap xs) in
        let e : a + n - a ≡ n = omega arith in
        let ours = different_all a n (outer_of B rs) (between_outer B one a (a + n) rs p) in
        omega (arith, identifiers_outer B one a (a + n) rs p, identifiers_joined a (a + n) rs p, rw e at least)

pub outer_empty : (B a b : ℕ) (rs : List Range) → Between a b rs → ((i : ℕ) → in_some i rs ≡ false) → outer_of B rs ≡ []
unfolding outer_of joined while_more some
outer_empty B a b [] p none = refl
outer_empty B a b (r ∷ rs) p none = absurd (true≢false (sym (or_left (in_some r.low rs) (is_in_law r.low r (omega arith) p.1)) ∙ none r.low))
