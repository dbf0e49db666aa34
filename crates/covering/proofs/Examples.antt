-- The two lists of what was found, and their places in a lent list, on a small case: the outer list of what was accepted, the inner list of what is full,
-- from element 2 × budget on; and what they contain, in the order of the counts. The facts hold by computing. Assumes nothing.
use mathlib.Core.Path.{◌≡◌, refl}
use mathlib.Core.List.{[], ◌∷◌}
use Rattle.ranges.specs.Ranges.{range, pairs}
use Rattle.ranges.specs.Lists.{joined, joined_from, smallest, place, earliest, while_more, gaps, join_at, join_smallest, outer_of, without, drop_shortest, inner_of}
use Rattle.ranges.specs.Contents.{identifiers, swallowed_from, swallowed_of}
use Rattle.covering.specs.Cover.{Found, Cover, listed, counts_of, counts_list, both_listed}

abbrev found : Found
found = record { accepted = range 32 34 ∷ range 39 43 ∷ range 49 49 ∷ []; full = range 39 43 ∷ range 49 49 ∷ []; seen = 9; partial = 3 }

abbrev lists : Cover
lists = record {
  outer = range 32 43 ∷ range 49 49 ∷ [];
  inner = range 39 43 ∷ range 49 49 ∷ [];
  seen = 9;
  full = 6;
  partial = 3;
  swallowed = 4;
}

pub listed_example : listed 2 found ≡ lists
unfolding joined joined_from smallest place earliest while_more gaps join_at join_smallest outer_of without drop_shortest inner_of identifiers swallowed_from swallowed_of
listed_example = refl

pub counts_example : counts_list (counts_of lists) ≡ 2 ∷ 2 ∷ 9 ∷ 6 ∷ 3 ∷ 4 ∷ []
counts_example = refl

pub places_example : both_listed 2 lists (1 ∷ 2 ∷ 3 ∷ 4 ∷ 5 ∷ 6 ∷ 7 ∷ 8 ∷ 9 ∷ []) ≡ 32 ∷ 43 ∷ 49 ∷ 49 ∷ 39 ∷ 43 ∷ 49 ∷ 49 ∷ 9 ∷ []
unfolding pairs
places_example = refl
