-- What the two lists are good for. Of accepted ranges that ascend: both lists ascend with a number between neighbours, and have
-- at most as many ranges as the budget says; the outer list holds every number of an accepted range, and the inner list holds only such
-- numbers. Assumes nothing.
use Prim.Native.Nat.{ℕ, zero, suc, ◌+◌, ◌≤◌, ◌<◌}
use mathlib.Core.Path.{◌≡◌}
use mathlib.Core.List.{List, [], ◌∷◌, map}
use native.Mathlib.Omega.{arith}
use lib.Dec.{leb}
use lib.ListN.{length}
use borrow.Author.Tests.{leb-true, leb-false, eqb-true, eqb-false}
use Rattle.algebra.proofs.Tests.{split}
use Rattle.ranges.specs.declared.Range.{Range}
use Rattle.ranges.specs.Lists.{over, touch, joined, joined_from, earliest, gaps, join_at, join_smallest, outer_of, size, without, drop_shortest, inner_of}
use Rattle.ranges.proofs.Loop.{reduced_keeps, length_reduced}
use Rattle.ranges.proofs.OuterPass.{join_smallest_shrinks}
use Rattle.ranges.proofs.InnerPass.{drop_shortest_shrinks}

-- low is at most high in every range, and high + k is below the next low
unfoldable pub SpacedBy : ℕ → List Range → Type 0
SpacedBy k [] = Unit {0}
SpacedBy k (a ∷ []) = a.low ≤ a.high
SpacedBy k (a ∷ b ∷ rest) = (a.low ≤ a.high) × (a.high + k < b.low) × SpacedBy k (b ∷ rest)

-- ascending and disjoint; with at least one number between neighbours
abbrev pub Ascends : List Range → Type 0
Ascends = SpacedBy 0

abbrev pub Separate : List Range → Type 0
Separate = SpacedBy 1

-- n lies in range number i
unfoldable pub In : List Range → ℕ → ℕ → Type 0
In [] i n = ⊥
In (a ∷ rest) zero n = (a.low ≤ n) × (n ≤ a.high)
In (a ∷ rest) (suc i) n = In rest i n

-- n lies in a range
abbrev pub Has : List Range → ℕ → Type 0
Has xs n = (i : ℕ) × In xs i n

-- ---- as `SpacedBy`, with the number from which each range may begin

From : ℕ → ℕ → List Range → Type 0
From k f [] = Unit {0}
From k f (a ∷ rest) = (f ≤ a.low) × (a.low ≤ a.high) × From k (a.high + k + 1) rest

module _ (k : ℕ) where
  from : (f : ℕ) (a : Range) (xs : List Range) → f ≤ a.low → SpacedBy k (a ∷ xs) → From k f (a ∷ xs)
  unfolding SpacedBy From
  from f a [] h p = (h, p, tt)
  from f a (b ∷ xs) h p = (h, p.0, from (a.high + k + 1) b xs (omega arith) p.2)

  apart : (f : ℕ) (xs : List Range) → From k f xs → SpacedBy k xs
  unfolding SpacedBy From
  apart f [] p = tt
  apart f (a ∷ []) p = p.1
  apart f (a ∷ b ∷ xs) p = (p.1, omega arith, apart (a.high + k + 1) (b ∷ xs) p.2)

  from_start : (xs : List Range) → SpacedBy k xs → From k 0 xs
  from_start [] p = unfold From in tt
  from_start (a ∷ xs) p = from 0 a xs (omega arith) p

  lower : (f g : ℕ) (xs : List Range) → g ≤ f → From k f xs → From k g xs
  unfolding From
  lower f g [] h p = tt
  lower f g (a ∷ xs) h p = (omega arith, p.1, p.2)

-- ---- each rule keeps the ranges apart

joined_from_law : (f : ℕ) (a : Range) (xs : List Range) → From 0 f (a ∷ xs) → From 1 f (joined_from a xs)
unfolding From joined_from
joined_from_law f a [] p = (p.0, p.1, tt)
joined_from_law f a (b ∷ xs) p =
    split (touch a b)
    (λ t. rw t (joined_from_law f (over a b) xs (p.0, omega arith, p.2.2)))
    (λ t. rw t (p.0, p.1, joined_from_law (a.high + 1 + 1) b xs (omega (arith, eqb-false (a.high + 1) b.low t), p.2.1, p.2.2)))

join_at_from : (i f : ℕ) (xs : List Range) → From 1 f xs → From 1 f (join_at i xs)
unfolding From join_at
join_at_from i f [] p = p
join_at_from i f (a ∷ []) p = p
join_at_from zero f (a ∷ b ∷ xs) p = (p.0, omega arith, p.2.2)
join_at_from (suc i) f (a ∷ b ∷ xs) p = (p.0, p.1, join_at_from i (a.high + 1 + 1) (b ∷ xs) p.2)

without_from : (i f : ℕ) (xs : List Range) → From 1 f xs → From 1 f (without i xs)
unfolding From without
without_from i f [] p = p
without_from zero f (a ∷ xs) p = lower 1 (a.high + 1 + 1) f xs (omega arith) p.2
without_from (suc i) f (a ∷ xs) p = (p.0, p.1, without_from i (a.high + 1 + 1) xs p.2)

joined_start : (xs : List Range) → Ascends xs → From 1 0 (joined xs)
unfolding joined
joined_start [] p = unfold From in tt
joined_start (a ∷ xs) p = joined_from_law 0 a xs (from_start 0 (a ∷ xs) p)

-- ---- the outer rules lose no number

pub later : (a : Range) (xs : List Range) (n : ℕ) → Has xs n → Has (a ∷ xs) n
unfolding In
later a xs n h = (suc h.0, h.1)

-- a and b in one
over_has : (a b : Range) (xs : List Range) (i n : ℕ) → a.low ≤ b.low → a.high ≤ b.high → In (a ∷ b ∷ xs) i n → Has (over a b ∷ xs) n
unfolding In
over_has a b xs zero n l u h = (0, (h.0, omega arith))
over_has a b xs (suc zero) n l u h = (0, (omega arith, h.1))
over_has a b xs (suc (suc i)) n l u h = (suc i, h)

first_or_later : (a : Range) (xs ys : List Range) (i n : ℕ) → In (a ∷ xs) i n → ((j : ℕ) → In xs j n → Has ys n) → Has (a ∷ ys) n
unfolding In
first_or_later a xs ys zero n h f = (0, h)
first_or_later a xs ys (suc i) n h f = later a ys n (f i h)

joined_has : (f : ℕ) (a : Range) (xs : List Range) (i n : ℕ) → From 0 f (a ∷ xs) → In (a ∷ xs) i n → Has (joined_from a xs) n
unfolding From joined_from
joined_has f a [] i n p h = (i, h)
joined_has f a (b ∷ xs) i n p h =
    split (touch a b)
    (λ t.
    let g = over_has a b xs i n (omega arith) (omega arith) h in
    rw t (joined_has f (over a b) xs g.0 n (p.0, omega arith, p.2.2) g.1))
    (λ t. rw t (first_or_later a (b ∷ xs) (joined_from b xs) i n h (λ j k. joined_has (a.high + 0 + 1) b xs j n p.2 k)))

join_at_has : (i f : ℕ) (xs : List Range) (j n : ℕ) → From 1 f xs → In xs j n → Has (join_at i xs) n
unfolding From join_at
join_at_has i f [] j n p h = (j, h)
join_at_has i f (a ∷ []) j n p h = (j, h)
join_at_has zero f (a ∷ b ∷ xs) j n p h = over_has a b xs j n (omega arith) (omega arith) h
join_at_has (suc i) f (a ∷ b ∷ xs) j n p h = first_or_later a (b ∷ xs) (join_at i (b ∷ xs)) j n h (λ j k. join_at_has i (a.high + 1 + 1) (b ∷ xs) j n p.2 k)

joined_all : (xs : List Range) (i n : ℕ) → Ascends xs → In xs i n → Has (joined xs) n
unfolding joined
joined_all [] i n p h = (i, h)
joined_all (a ∷ xs) i n p h = joined_has 0 a xs i n (from_start 0 (a ∷ xs) p) h

-- ---- the inner rules add no number

without_has : (i : ℕ) (xs : List Range) (j n : ℕ) → In (without i xs) j n → Has xs n
unfolding without
without_has i [] j n h = (j, h)
without_has zero (a ∷ xs) j n h = later a xs n (j, h)
without_has (suc i) (a ∷ xs) j n h = first_or_later a (without i xs) xs j n h (λ j k. without_has i xs j n k)

-- a and b touch
split_has : (a b : Range) (xs : List Range) (i n : ℕ) → a.high + 1 ≡ b.low → In (over a b ∷ xs) i n → Has (a ∷ b ∷ xs) n
unfolding In
split_has a b xs zero n e h =
    split (leb n a.high)
    (λ t. (0, (h.0, leb-true n a.high t)))
    (λ t. (1, (omega (arith, leb-false n a.high t), h.1)))
split_has a b xs (suc i) n e h = (suc (suc i), h)

joined_only_from : (a : Range) (xs : List Range) (i n : ℕ) → In (joined_from a xs) i n → Has (a ∷ xs) n
unfolding joined_from
joined_only_from a [] i n h = (i, h)
joined_only_from a (b ∷ xs) i n h =
    split (touch a b)
    (λ t. let g = joined_only_from (over a b) xs i n (rw t at h) in split_has a b xs g.0 n (eqb-true (a.high + 1) b.low t) g.1)
    (λ t. first_or_later a (joined_from b xs) (b ∷ xs) i n (rw t at h) (λ j k. joined_only_from b xs j n k))

pub joined_only : (xs : List Range) (i n : ℕ) → In (joined xs) i n → Has xs n
unfolding joined
joined_only [] i n h = (i, h)
joined_only (a ∷ xs) i n h = joined_only_from a xs i n h

-- ---- the two lists

module _ (B : ℕ) (one : 1 ≤ B) (xs : List Range) where
  pub outer_few : length (outer_of B xs) ≤ B
  unfolding outer_of
  outer_few = omega (arith, length_reduced join_smallest B join_smallest_shrinks one (joined xs))

  pub inner_few : length (inner_of B xs) ≤ B
  unfolding inner_of
  inner_few = omega (arith, length_reduced drop_shortest B drop_shortest_shrinks one (joined xs))

  pub inner_only : (j n : ℕ) → In (inner_of B xs) j n → Has xs n
  unfolding inner_of drop_shortest
  inner_only j n h =
      let g = reduced_keeps drop_shortest B drop_shortest_shrinks one (λ ys. (j n : ℕ) → In ys j n → Has (joined xs) n)
      (λ ys l k j n h. let w = without_has (earliest (map size ys)) ys j n h in k w.0 n w.1) (joined xs) (λ j n h. (j, h)) j n h in
      joined_only xs g.0 n g.1

  module _ (ascends : Ascends xs) where
    outer_from : From 1 0 (outer_of B xs)
    unfolding outer_of join_smallest
    outer_from = reduced_keeps join_smallest B join_smallest_shrinks one (From 1 0) (λ ys l p. join_at_from (earliest (gaps ys)) 0 ys p) (joined xs) (joined_start xs ascends)

    pub outer_separate : Separate (outer_of B xs)
    outer_separate = apart 1 0 (outer_of B xs) outer_from

    pub inner_separate : Separate (inner_of B xs)
    unfolding inner_of drop_shortest
    inner_separate =
        apart 1 0 (inner_of B xs)
        (reduced_keeps drop_shortest B drop_shortest_shrinks one (From 1 0) (λ ys l p. without_from (earliest (map size ys)) 0 ys p) (joined xs) (joined_start xs ascends))

    pub outer_all : (i n : ℕ) → In xs i n → Has (outer_of B xs) n
    unfolding outer_of join_smallest
    outer_all i n h =
        (reduced_keeps join_smallest B join_smallest_shrinks one (λ ys. From 1 0 ys × Has ys n)
        (λ ys l p. (join_at_from (earliest (gaps ys)) 0 ys p.0, join_at_has (earliest (gaps ys)) 0 ys p.1.0 n p.0 p.1.1))
        (joined xs) (joined_start xs ascends, joined_all xs i n ascends h)).1
