-- Worked examples of the two lists, by computing: document 01's 'with budget 4 the first two outer ranges become S00 S10', the last range stays,
-- the shortest dropped, and the earliest among equals; what gaps and ranges have; and what ranges contain and the outer list swallows. Assumes
-- nothing.
use Prim.Native.Nat.{ℕ}
use mathlib.Core.Path.{◌≡◌, refl}
use mathlib.Core.List.{List, [], ◌∷◌}
use Rattle.algebra.specs.Lists.{some, tally, numbers_from}
use Rattle.ranges.specs.declared.Range.{Range}
use Rattle.ranges.specs.Lists.{joined, joined_from, smallest, place, earliest, while_more, gap, gaps, join_at, join_smallest, outer_of, size, without, drop_shortest, inner_of}
use Rattle.ranges.specs.Contents.{identifiers, different, swallowed_from, swallowed_of}

abbrev r : ℕ → ℕ → Range
r low high = record { low = low; high = high }

-- the accepted trixels of document 01's example at depth 2, S00 to N33, some of them joined
abbrev accepted : List Range
accepted = r 32 32 ∷ r 34 35 ∷ r 36 36 ∷ r 38 40 ∷ r 42 44 ∷ r 46 47 ∷ r 48 63 ∷ []

pub outer_examples : (outer_of 5 accepted ≡ r 32 32 ∷ r 34 36 ∷ r 38 40 ∷ r 42 44 ∷ r 46 63 ∷ [])
    × (outer_of 4 accepted ≡ r 32 36 ∷ r 38 40 ∷ r 42 44 ∷ r 46 63 ∷ [])
    × (outer_of 2 (r 1 1 ∷ r 5 5 ∷ r 7 7 ∷ []) ≡ r 1 1 ∷ r 5 7 ∷ [])
unfolding joined joined_from smallest place earliest while_more gaps join_at join_smallest outer_of
outer_examples = (refl, refl, refl)

pub inner_examples : (inner_of 2 (r 1 2 ∷ r 4 5 ∷ r 7 9 ∷ r 11 12 ∷ []) ≡ r 7 9 ∷ r 11 12 ∷ [])
    × (inner_of 1 (r 1 4 ∷ r 5 6 ∷ r 8 9 ∷ []) ≡ r 1 6 ∷ [])
unfolding joined joined_from smallest place earliest while_more without drop_shortest inner_of
inner_examples = (refl, refl)

-- 5 and 6 lie between 4 and 7; between ranges that touch lies nothing; ranges include both ends
pub gap_size_examples : (gap (r 1 4) (r 7 9) ≡ 2) × (gap (r 1 4) (r 5 6) ≡ 0) × (size (r 7 9) ≡ 3) × (size (r 4 4) ≡ 1)
gap_size_examples = (refl, refl, refl, refl)

-- the gaps 33, 37, 41 and 45 have one identifier each; with budget 1 all are swallowed, and of 32 to 63 nothing else
pub swallowed_examples : (swallowed_of 5 accepted ≡ 0) × (swallowed_of 4 accepted ≡ 1) × (swallowed_of 1 accepted ≡ 4)
    × (swallowed_of 1 (r 1 1 ∷ r 5 5 ∷ r 7 7 ∷ r 100 100 ∷ []) ≡ 96) × (swallowed_of 2 (r 1 1 ∷ r 5 5 ∷ r 7 7 ∷ r 100 100 ∷ []) ≡ 4)
    × (swallowed_of 1 (r 1 4 ∷ r 5 6 ∷ r 7 7 ∷ []) ≡ 0) × (swallowed_of 1 [] ≡ 0)
unfolding joined joined_from smallest place earliest gaps join_at join_smallest swallowed_from swallowed_of
swallowed_examples = (refl, refl, refl, refl, refl, refl, refl)

-- what overlaps counts once, in any order, and a reversed range contains nothing
pub contents_examples : (identifiers accepted ≡ 28) × (different (numbers_from 0 64) accepted ≡ 28) × (identifiers (outer_of 4 accepted) ≡ 29)
    × (identifiers [] ≡ 0) × (different (numbers_from 0 9) [] ≡ 0) × (different (numbers_from 0 9) (r 4 6 ∷ r 2 5 ∷ r 8 7 ∷ []) ≡ 5)
    × (different (numbers_from 32 32) (outer_of 4 accepted) ≡ 29)
unfolding joined joined_from smallest place earliest while_more gaps join_at join_smallest outer_of identifiers tally numbers_from some
contents_examples = (refl, refl, refl, refl, refl, refl, refl)
