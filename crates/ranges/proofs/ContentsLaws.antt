-- What the outer list contains: the identifiers of the ranges that went in, and those in the gaps that were joined over. Joining two touching ranges
-- changes no count, and joining over a gap adds the gap; and in a list that ascends no identifier is counted twice. Assumes nothing.
use Prim.Native.Nat.{ℕ, zero, suc, ◌+◌, ◌-◌, ◌*◌, ◌≤◌, ◌<◌}
use mathlib.Core.Path.{◌≡◌, refl, sym, ap, ◌∙◌}
use mathlib.Core.Bool.{Bool, false}
use mathlib.Core.List.{List, [], ◌∷◌, ◌++◌}
use native.Mathlib.Omega.{arith}
use lib.Dec.{eqb}
use lib.ListN.{length, get_or, drop}
use lib.Seq.{get_or-drop}
use borrow.Author.Tests.{lt-ltb, le-ltb, eqb-true, eqb-false}
use Rattle.algebra.specs.Lists.{some, numbers_from}
use Rattle.algebra.proofs.Tests.{split, or_left}
use Rattle.algebra.proofs.Counting.{count, count_parts, count_all, count_none, count_same}
use Rattle.ranges.specs.declared.Range.{Range}
use Rattle.ranges.specs.Ranges.{in_some, ranges_in}
use Rattle.ranges.specs.Lists.{over, touch, joined, joined_from, smallest, place, earliest, gap, gaps, join_at, join_smallest, outer_of}
use Rattle.ranges.specs.Contents.{identifiers, different, Contains, swallowed_from, swallowed_of}
use Rattle.ranges.proofs.Earliest.{place_here, place_later, earliest_inside}
use Rattle.ranges.proofs.Loop.{reduced_ind, reduced_keeps}
use Rattle.ranges.proofs.OuterPass.{length_gaps, join_smallest_shrinks}
use Rattle.ranges.proofs.ListLaws.{is_in_law, not_below, not_above, Between, between_le}

-- ---- lists in a row, and in a stretch

pub identifiers_append : (xs ys : List Range) → identifiers (xs ++ ys) ≡ identifiers xs + identifiers ys
unfolding identifiers
identifiers_append [] ys = omega arith
identifiers_append (r ∷ xs) ys = omega (arith, identifiers_append xs ys)

-- ranges in a stretch contain no more identifiers than it has
pub identifiers_few : (a b : ℕ) (rs : List Range) → Between a b rs → a + identifiers rs ≤ b
unfolding identifiers
identifiers_few a b [] p = omega arith
identifiers_few a b (r ∷ rs) p = omega (arith, identifiers_few (r.high + 1) b rs p.2)

-- ---- touching ranges join

joined_between : (a b : ℕ) (r : Range) (rs : List Range) → Between a b (r ∷ rs) → Between a b (joined_from r rs)
unfolding joined_from
joined_between a b r [] p = p
joined_between a b r (s ∷ rs) p =
    split (touch r s)
    (λ t. rw t (joined_between a b (over r s) rs (p.0, omega arith, p.2.2)))
    (λ t. rw t (p.0, p.1, joined_between (r.high + 1) b s rs p.2))

joined_same : (a b : ℕ) (r : Range) (rs : List Range) → Between a b (r ∷ rs) → identifiers (joined_from r rs) ≡ identifiers (r ∷ rs)
unfolding joined_from identifiers
joined_same a b r [] p = refl
joined_same a b r (s ∷ rs) p =
    split (touch r s)
    (λ t. rw t (omega (arith, eqb-true (r.high + 1) s.low t, joined_same a b (over r s) rs (p.0, omega arith, p.2.2))))
    (λ t. rw t (omega (arith, joined_same (r.high + 1) b s rs p.2)))

module _ (a b : ℕ) where
  pub between_joined : (rs : List Range) → Between a b rs → Between a b (joined rs)
  unfolding joined
  between_joined [] p = p
  between_joined (r ∷ rs) p = joined_between a b r rs p

  pub identifiers_joined : (rs : List Range) → Between a b rs → identifiers (joined rs) ≡ identifiers rs
  unfolding joined
  identifiers_joined [] p = refl
  identifiers_joined (r ∷ rs) p = joined_same a b r rs p

-- ---- join over a gap

join_at_between : (i a b : ℕ) (rs : List Range) → Between a b rs → Between a b (join_at i rs)
unfolding join_at
join_at_between i a b [] p = p
join_at_between i a b (r ∷ []) p = p
join_at_between zero a b (r ∷ s ∷ rs) p = (p.0, omega arith, p.2.2)
join_at_between (suc i) a b (r ∷ s ∷ rs) p = (p.0, p.1, join_at_between i (r.high + 1) b (s ∷ rs) p.2)

-- the place of the gap g, if it is one of them
over_gap : (g a b : ℕ) (rs : List Range) → Between a b rs → place g (gaps rs) < length (gaps rs)
    → identifiers (join_at (place g (gaps rs)) rs) ≡ identifiers rs + g
unfolding gaps
over_gap g a b [] p h = absurd (omega arith)
over_gap g a b (r ∷ []) p h = absurd (omega arith)
over_gap g a b (r ∷ s ∷ rs) p h =
    split (eqb g (gap r s))
    (λ t.
    let e = eqb-true g (gap r s) t in
    rw (place_here g (gap r s) (gaps (s ∷ rs)) e) (first e))
    (λ t.
    let e = place_later g (gap r s) (gaps (s ∷ rs)) (eqb-false g (gap r s) t) in
    rw e (next (place g (gaps (s ∷ rs))) (over_gap g (r.high + 1) b (s ∷ rs) p.2 (omega arith))))
  where
    first : g ≡ gap r s → identifiers (join_at 0 (r ∷ s ∷ rs)) ≡ identifiers (r ∷ s ∷ rs) + g
    first e = unfold join_at identifiers in omega arith

    next : (i : ℕ) → identifiers (join_at i (s ∷ rs)) ≡ identifiers (s ∷ rs) + g
        → identifiers (join_at (suc i) (r ∷ s ∷ rs)) ≡ identifiers (r ∷ s ∷ rs) + g
    next i e = unfold join_at identifiers in omega arith

pub some_gap : (rs : List Range) → 1 < length rs → 0 < length (gaps rs)
some_gap [] h = absurd (omega arith)
some_gap (r ∷ rs) h = omega (arith, length_gaps r rs)

module _ (a b : ℕ) where
  pub identifiers_join_smallest : (rs : List Range) → 1 < length rs → Between a b rs
      → identifiers (join_smallest rs) ≡ identifiers rs + smallest (gaps rs)
  unfolding join_smallest earliest
  identifiers_join_smallest rs h p = over_gap (smallest (gaps rs)) a b rs p (earliest_inside (gaps rs) (some_gap rs h))

  pub between_join_smallest : (rs : List Range) → Between a b rs → Between a b (join_smallest rs)
  unfolding join_smallest
  between_join_smallest rs p = join_at_between (earliest (gaps rs)) a b rs p

-- ---- the outer list

module _ (B : ℕ) (one : 1 ≤ B) where
  pub none_swallowed : (fuel : ℕ) (xs : List Range) → length xs ≤ B → swallowed_from B fuel xs ≡ 0
  unfolding swallowed_from
  none_swallowed zero xs h = refl
  none_swallowed (suc fuel) xs h = rw (le-ltb B (length xs) h)

  pub more_swallowed : (xs : List Range) → B < length xs
      → swallowed_from B (length xs) xs ≡ smallest (gaps xs) + swallowed_from B (length (join_smallest xs)) (join_smallest xs)
  unfolding swallowed_from
  more_swallowed xs h =
      ap (λ n. swallowed_from B n xs) (sym (join_smallest_shrinks xs (omega arith))) ∙ rw (lt-ltb B (length xs) h)

  module _ (a b : ℕ) (rs : List Range) (p : Between a b rs) where
    pub between_outer : Between a b (outer_of B rs)
    unfolding outer_of
    between_outer =
        reduced_keeps join_smallest B join_smallest_shrinks one (Between a b) (λ xs h. between_join_smallest a b xs) (joined rs) (between_joined a b rs p)

    pub identifiers_outer : identifiers (outer_of B rs) ≡ identifiers rs + swallowed_of B rs
    unfolding outer_of swallowed_of
    identifiers_outer =
        reduced_ind join_smallest B join_smallest_shrinks one
        (λ xs ys. Between a b xs → identifiers ys ≡ identifiers xs + swallowed_from B (length xs) xs)
        (λ xs h q. omega (arith, none_swallowed (length xs) xs h))
        (λ xs ys h ih q.
        let s = more_swallowed xs h in
        let j = identifiers_join_smallest a b xs (omega arith) q in
        omega (arith, ih (between_join_smallest a b xs q)))
        (joined rs) (between_joined a b rs p)
        ∙ ap (λ n. n + swallowed_from B (length (joined rs)) (joined rs)) (identifiers_joined a b rs p)

-- ---- in a list that ascends each identifier is counted once

-- below a stretch there is none
none_below : (a b n : ℕ) (rs : List Range) → Between a b rs → n < a → in_some n rs ≡ false
unfolding some
none_below a b n [] p h = refl
none_below a b n (r ∷ rs) p h = rw (not_above n r (omega arith)) (none_below (r.high + 1) b n rs p.2 (omega arith))

-- range by range: none before it, all in it, and behind it those of the others
counted_once : (a b : ℕ) (rs : List Range) → Between a b rs → count (λ i. in_some i rs) a b ≡ identifiers rs
unfolding identifiers some
counted_once a b [] p = count_none (λ i. in_some i []) a b (λ i l h. refl)
counted_once a b (r ∷ rs) p =
    let f : ℕ → Bool = λ i. in_some i (r ∷ rs) in
    let end = between_le (r.high + 1) b rs p.2 in
    let before = count_none f a r.low (λ i l h. none_below r.low b i (r ∷ rs) (omega arith, p.1, p.2) h) in
    let inside = count_all f r.low (r.high + 1) (λ i l h. or_left (in_some i rs) (is_in_law i r l (omega arith))) in
    let behind = count_same f (λ i. in_some i rs) (r.high + 1) b (λ i l. rw (not_below i r (omega arith))) in
    let parts = count_parts f a r.low b p.0 (omega arith) in
    let rest = count_parts f r.low (r.high + 1) b (omega arith) end in
    omega (arith, counted_once (r.high + 1) b rs p.2)

pub different_all : (a n : ℕ) (rs : List Range) → Between a (a + n) rs → different (numbers_from a n) rs ≡ identifiers rs
different_all a n rs p = let e : n ≡ a + n - a = omega arith in ap (λ k. different (numbers_from a k) rs) e ∙ counted_once a (a + n) rs p

-- so of every list in a stretch
pub between_contains : (a n : ℕ) (rs : List Range) → Between a (a + n) rs → Contains (numbers_from a n) rs (identifiers rs)
between_contains a n rs p = record { counted = refl; once = different_all a n rs p }

-- ---- pairs in a list, range by range

pub identifiers_next : (n : ℕ) (l : List ℕ)
    → identifiers (ranges_in (suc n) l) ≡ identifiers (ranges_in n l) + (get_or l (2 * n + 1) 0 - get_or l (2 * n) 0 + 1)
unfolding ranges_in identifiers
identifiers_next zero l = omega arith
identifiers_next (suc n) l =
    let low : get_or (drop 2 l) (2 * n) 0 ≡ get_or l (2 * suc n) 0 = get_or-drop 2 l (2 * n) 0 ∙ ap (λ k. get_or l k 0) (omega arith) in
    let high : get_or (drop 2 l) (2 * n + 1) 0 ≡ get_or l (2 * suc n + 1) 0 = get_or-drop 2 l (2 * n + 1) 0 ∙ ap (λ k. get_or l k 0) (omega arith) in
    let ih = identifiers_next n (drop 2 l) in
    omega arith

-- the first k of n ranges have no more
pub identifiers_first : (k n : ℕ) (l : List ℕ) → k ≤ n → identifiers (ranges_in k l) ≤ identifiers (ranges_in n l)
unfolding ranges_in identifiers
identifiers_first zero n l h = omega arith
identifiers_first (suc k) zero l h = absurd (omega arith)
identifiers_first (suc k) (suc n) l h = omega (arith, identifiers_first k n (drop 2 l) (omega arith))
