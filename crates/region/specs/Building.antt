-- A region as it is read from a file or taken from rows: it grows at its end. Document 01, 'Regions', the stated limits, and 'What is sent back', 7 to 9.
--   most_convexes, most_in_convex, most_in_all   the limits: convexes, halfspaces in a convex, halfspaces in all
--   last_convex g, total g     the convex that halfspaces go to, and how many halfspaces there are in all
--   with_convex g              g with a new convex at its end, which has no halfspace yet
--   with_halfspace g h         g with the halfspace h at the end of its last convex
--   begun g, last_filled g     a convex has begun; the last convex has a halfspace
--   few_convexes g             at most 64 convexes
--   below_limits g             fewer than 100 halfspaces in the last convex and fewer than 512 in all, so a halfspace may be added
--   add g h                   with_halfspace g h, or the first refusal: 7, 8, 9
use Rattle.std.specs.Prelude.{ℕ, ◌+◌, Bool, ◌&&◌, [], ◌∷◌, ◌++◌, leb, ltb, length, ℤ, neg_ℤ}
use Rattle.answer.specs.Answer.{Answer, gives, check, Crowd, Vector, Offset}
use Rattle.vector.specs.Numbers.{K, between}
use Rattle.vector.specs.Vectors.{is_vector}
use Rattle.region.specs.declared.Halfspace.{Halfspace}
use Rattle.region.specs.Regions.{Convex, Region}

abbrev pub most_convexes : ℕ
most_convexes = 64

abbrev pub most_in_convex : ℕ
most_in_convex = 100

abbrev pub most_in_all : ℕ
most_in_all = 512

unfoldable pub last_convex : Region → Convex
last_convex [] = []
last_convex (c ∷ []) = c
last_convex (c ∷ d ∷ cs) = last_convex (d ∷ cs)

unfoldable pub total : Region → ℕ
total [] = 0
total (c ∷ cs) = length c + total cs

abbrev pub with_convex : Region → Region
with_convex g = g ++ [] ∷ []

unfoldable pub with_halfspace : Region → Halfspace → Region
with_halfspace [] h = []
with_halfspace (c ∷ []) h = (c ++ h ∷ []) ∷ []
with_halfspace (c ∷ d ∷ cs) h = c ∷ with_halfspace (d ∷ cs) h

abbrev pub begun : Region → Bool
begun g = ltb 0 (length g)

abbrev pub last_filled : Region → Bool
last_filled g = ltb 0 (length (last_convex g))

abbrev pub few_convexes : Region → Bool
few_convexes g = leb (length g) most_convexes

abbrev pub below_limits : Region → Bool
below_limits g = ltb (length (last_convex g)) most_in_convex && ltb (total g) most_in_all

abbrev pub is_offset : ℤ → Bool
is_offset d = between (neg_ℤ K) K d

unfoldable pub add : Region → Halfspace → Answer Region
add g h = check Crowd (below_limits g) (check Vector (is_vector h.n) (check Offset (is_offset h.d) (gives (with_halfspace g h))))
