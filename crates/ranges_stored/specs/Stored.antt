-- The two lists as one pass stores them, in lent memory. Document 01, 'The two lists': pairs low, high, one range after the other.
--   difference less r   high − low − less, and 0 where that is below 0
--   differences less rs   those of some ranges. Where less is 0 they are the sizes less one, of which the smallest stands at the same place
--   differences_in start less n l   those of n pairs low, high, from element `start` of the list l on. From element 1 on a pair is a high and the
--                    next low, and where less is 1 they are the gaps
--   written xs l     the list l with the ranges xs at its front, as pairs; the other elements stay
--   Writes ..        `after` is `before` with the ranges xs, n of them, at its front
-- Where the smallest gap of the outer list is, or the shortest range of the inner list, as far as it is known: a `MinHint`.
--   hint_of           a hint, by its two numbers; no_hint is true of every list
--   Hinted h gs      of the differences gs, every one is at least the floor of h, and those before number `from` are above it
--   PointsAt h gs    the one of number `from` is the floor, and so the smallest, the earliest among equals
--   FirstAt ..       a search for the floor found the first that is the floor, or none, where all are above it
-- The inner list's last range may still grow, so it stands beside the lent list, with the count of those in it and what is known of their sizes
-- less one: a `Pending`.
-- How many ranges a list has beside it, and what is known of them: a `StoredRanges`.
--   none_stored       where there is no range yet; nothing_yet: of the inner list
--   closed s         the closed ranges of the inner list s: all but the last, which may still grow
--   state_of p l      the inner list that p and the lent list l stand for
--   Stores ..        p and `after` stand for s, and `after` is `before` with the closed ranges of s, as many as p counts, at its front
use Rattle.std.specs.Prelude.{ℕ, ◌-◌, ◌≤◌, ◌<◌, ◌≡◌, Option, Some, None, MatchOption, List, [], map, length, get_or, drop}
use Rattle.ranges_stored.specs.declared.MinHint.{MinHint}
use Rattle.ranges_stored.specs.declared.StoredRanges.{StoredRanges}
use Rattle.ranges_stored.specs.declared.Pending.{Pending}
use Rattle.answer.specs.Lent.{put}
use Rattle.ranges.specs.declared.Range.{Range}
use Rattle.ranges.specs.Ranges.{pairs, ranges_in}
use Rattle.ranges.proofs.Pushing.{Inner, empty, growing}

abbrev pub difference : ℕ → Range → ℕ
difference less r = r.high - r.low - less

abbrev pub differences : ℕ → List Range → List ℕ
differences less rs = map (difference less) rs

abbrev pub differences_in : ℕ → ℕ → ℕ → List ℕ → List ℕ
differences_in start less n l = differences less (ranges_in n (drop start l))

abbrev pub written : List Range → List ℕ → List ℕ
written xs l = put 0 (pairs xs) l

pub record Writes (xs : List Range) (before after : List ℕ) (n : ℕ) : Type 0 where
  pub count : n ≡ length xs
  pub list : after ≡ written xs before

abbrev pub hint_of : ℕ → ℕ → MinHint
hint_of from floor = record { from = from; floor = floor }

abbrev pub no_hint : MinHint
no_hint = hint_of 0 0

pub record Hinted (h : MinHint) (gs : List ℕ) : Type 0 where
  pub at_least : (i : ℕ) → i < length gs → h.floor ≤ get_or gs i 0
  pub before : (i : ℕ) → i < h.from → i < length gs → h.floor < get_or gs i 0

pub record PointsAt (h : MinHint) (gs : List ℕ) : Type 0 where
  pub hinted : Hinted h gs
  pub inside : h.from < length gs
  pub is : get_or gs h.from 0 ≡ h.floor

abbrev pub FirstAt : ℕ → Option ℕ → List ℕ → Type 0
FirstAt floor found gs = MatchOption found (Hinted (hint_of (length gs) floor) gs) (λ i. PointsAt (hint_of i floor) gs)

abbrev pub none_stored : StoredRanges
none_stored = record { n = 0; hint = no_hint }

abbrev pub nothing_yet : Pending
nothing_yet = record { stored = none_stored; last = None }

abbrev pub closed : Inner → List Range
closed empty = []
closed (growing xs r) = xs

unfoldable pub state_of : Pending → List ℕ → Inner
state_of p l = elim p.last [ Some r ↦ growing (ranges_in p.stored.n l) r | None ↦ empty ]

pub record Stores (s : Inner) (before after : List ℕ) (p : Pending) : Type 0 where
  pub state : state_of p after ≡ s
  pub stored : Writes (closed s) before after p.stored.n
