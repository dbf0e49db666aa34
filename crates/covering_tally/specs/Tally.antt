-- What a cutting has found so far, with its two lists in one pass in the lent list. Document 01, 'The two lists'.
-- A `Tally` is what was found so far; its counts are those of document 02, F-4.
--   no_tally            the tally before the first trixel; with_outer, with_inner, one_more, one_full, one_partial: after a change of one part
--   counts_in s n m     the counts, where the inner list has n ranges and the outer list contains m identifiers
--   nothing            before the first trixel
--   TallyHolds ..      where a was found so far, s and the list `out` have it: the outer list at the front of what `start` had in its first 2 × b
--                      elements, the inner list at the front of the rest
--   Adds found ..      whatever was found before, `found` is noted after it
--   TrixelAccepted ..  a trixel that was accepted: what a call that takes it gives
--   OuterPushed ..     the range r was pushed onto the outer list
--   Countable s        another trixel can be counted
--   SmallRange r       its identifiers are some of a depth, which are below 2^26
--   CountsContained .. the stored outer ranges contain what was counted
--   InnerNeeds ..      what is needed to push a range onto the inner list; InnerPushed: what holds then; InnerAdded: the tally has it too
--   InnerStored ..     the inner list's writer was lent the list from element 2 × b on: the elements before it stay; InnerEnded: the same at the end
--   TallyInvariant ..  the counts are at most the budget, the list has room for both lists, and what s knows of the gaps of the outer list and of the
--                      sizes, less one, of the inner list's stored ranges is so; and the counts of identifiers are no more than the trixels seen can have
use Rattle.std.specs.Prelude.{ℕ, ◌+◌, ◌-◌, ◌*◌, ◌^◌, ◌≤◌, ◌<◌, ◌≡◌, length, take, drop}
use mathlib.Core.List.{List, [], ◌++◌, foldl}
use Rattle.ranges_stored.specs.declared.StoredRanges.{StoredRanges}
use Rattle.ranges_stored.specs.declared.Pending.{Pending}
use Rattle.ranges.specs.declared.Range.{Range}
use Rattle.ranges.specs.Ranges.{ranges_in}
use Rattle.ranges.specs.Lists.{gaps}
use Rattle.ranges.specs.Contents.{identifiers}
use Rattle.ranges.proofs.Pushing.{outer_push, outer_pass, Inner, empty, inner_push}
use Rattle.ranges_stored.specs.Stored.{differences_in, Writes, Hinted, none_stored, nothing_yet, state_of, Stores}
use Rattle.covering.specs.declared.Counts.{Counts}
use Rattle.covering_tally.specs.declared.Tally.{Tally}
use Rattle.covering.specs.Cover.{Found, both}

abbrev pub no_tally : ℕ → Tally
no_tally b = record { outer = none_stored; inner = nothing_yet; seen = 0; budget = b; full = 0; partial = 0 }

abbrev pub with_outer : StoredRanges → Tally → Tally
with_outer m s = record { outer = m; inner = s.inner; seen = s.seen; budget = s.budget; full = s.full; partial = s.partial }

abbrev pub with_inner : Pending → Tally → Tally
with_inner p s = record { outer = s.outer; inner = p; seen = s.seen; budget = s.budget; full = s.full; partial = s.partial }

-- a trixel is classified
abbrev pub one_more : Tally → Tally
one_more s = record { outer = s.outer; inner = s.inner; seen = s.seen + 1; budget = s.budget; full = s.full; partial = s.partial }

-- a full one, with n identifiers at the depth; a partial one
abbrev pub one_full : ℕ → Tally → Tally
one_full n s = record { outer = s.outer; inner = s.inner; seen = s.seen + 1; budget = s.budget; full = s.full + n; partial = s.partial }

abbrev pub one_partial : Tally → Tally
one_partial s = record { outer = s.outer; inner = s.inner; seen = s.seen + 1; budget = s.budget; full = s.full; partial = s.partial + 1 }

-- the counts, where the inner list has n ranges and the outer list contains m identifiers
abbrev pub counts_in : Tally → ℕ → ℕ → Counts
counts_in s n m = record { outer = s.outer.n; inner = n; seen = s.seen; full = s.full; partial = s.partial; swallowed = m - s.full - s.partial }

abbrev pub nothing : Found
nothing = record { accepted = []; full = []; seen = 0; partial = 0 }

abbrev pub inner_state : ℕ → List Range → Inner
inner_state b rs = foldl (inner_push b) empty rs

pub record TallyHolds (b : ℕ) (start : List ℕ) (a : Found) (s : Tally) (out : List ℕ) : Type 0 where
  pub front : List ℕ
  pub back : List ℕ
  pub list : out ≡ front ++ back
  pub width : length front ≡ 2 * b
  pub outer : Writes (outer_pass b a.accepted) (take (2 * b) start) front s.outer.n
  pub inner : Stores (inner_state b a.full) (drop (2 * b) start) back s.inner
  pub seen : s.seen ≡ a.seen
  pub full : s.full ≡ identifiers a.full
  pub partial : s.partial ≡ a.partial

-- what `found` is, is found after whatever was found before
abbrev pub Adds : Found → Tally → List ℕ → Tally → List ℕ → Type 0
Adds found s out s' out' = (start : List ℕ) (a : Found) → TallyHolds s.budget start a s out → TallyHolds s'.budget start (both a found) s' out'

pub record OuterPushed (r : Range) (s : Tally) (out : List ℕ) (s' : Tally) (out' : List ℕ) : Type 0 where
  pub writes : Writes (outer_push s.budget (ranges_in s.outer.n out) r) out out' s'.outer.n
  pub few : s'.outer.n ≤ s.budget
  pub hinted : Hinted s'.outer.hint (gaps (ranges_in s'.outer.n out'))
  pub inner : s'.inner ≡ s.inner
  pub seen : s'.seen ≡ s.seen
  pub budget : s'.budget ≡ s.budget
  pub full : s'.full ≡ s.full
  pub partial : s'.partial ≡ s.partial

pub record InnerStored (b : ℕ) (before after : List ℕ) (state : Inner) (p : Pending) : Type 0 where
  pub rest : List ℕ
  pub list : after ≡ take (2 * b) before ++ rest
  pub stores : Stores state (drop (2 * b) before) rest p

pub record InnerEnded (b : ℕ) (before after : List ℕ) (rs : List Range) (n : ℕ) : Type 0 where
  pub rest : List ℕ
  pub list : after ≡ take (2 * b) before ++ rest
  pub writes : Writes rs (drop (2 * b) before) rest n

pub record TallyInvariant (s : Tally) (out : List ℕ) : Type 0 where
  pub budget : 1 ≤ s.budget
  pub outer : s.outer.n ≤ s.budget
  pub inner : s.inner.stored.n ≤ s.budget
  pub list : 4 * s.budget ≤ length out
  pub hinted : Hinted s.outer.hint (gaps (ranges_in s.outer.n out))
  pub inner_hinted : Hinted s.inner.stored.hint (differences_in (2 * s.budget) 0 s.inner.stored.n out)
  pub full : s.full ≤ 2 ^ 26 * s.seen
  pub partial : s.partial ≤ s.seen

-- another trixel can be counted
pub record Countable (s : Tally) : Type 0 where
  pub few : s.seen < 2 ^ 32
  pub full : s.full ≤ 2 ^ 26 * s.seen
  pub partial : s.partial ≤ s.seen

-- identifiers of a depth are below 2^26
pub record SmallRange (r : Range) : Type 0 where
  pub order : r.low ≤ r.high
  pub small : r.high < 2 ^ 26

-- the stored outer ranges contain what was counted, and no more than a depth has
pub record CountsContained (s : Tally) (out : List ℕ) : Type 0 where
  pub few : identifiers (ranges_in s.outer.n out) ≤ 2 ^ 25
  pub counted : s.full + s.partial ≤ identifiers (ranges_in s.outer.n out)

-- what the inner list's writer needs, and what it gives after the range r: p stands beside the list, then q
pub record InnerNeeds (b : ℕ) (p : Pending) (out : List ℕ) : Type 0 where
  pub budget : 1 ≤ b
  pub few : p.stored.n ≤ b
  pub list : 4 * b ≤ length out
  pub hinted : Hinted p.stored.hint (differences_in (2 * b) 0 p.stored.n out)

pub record InnerPushed (b : ℕ) (r : Range) (p : Pending) (out : List ℕ) (q : Pending) (out' : List ℕ) : Type 0 where
  pub behind : InnerStored b out out' (inner_push b (state_of p (drop (2 * b) out)) r) q
  pub few : q.stored.n ≤ b
  pub hinted : Hinted q.stored.hint (differences_in (2 * b) 0 q.stored.n out')

pub record InnerAdded (r : Range) (s : Tally) (out : List ℕ) (s' : Tally) (out' : List ℕ) : Type 0 where
  pub beside : Pending
  pub pushed : InnerPushed s.budget r s.inner out beside out'
  pub noted : s' ≡ with_inner beside s

pub record TrixelAccepted (found : Found) (s : Tally) (out : List ℕ) (s' : Tally) (out' : List ℕ) : Type 0 where
  pub adds : Adds found s out s' out'
  pub invariant : TallyInvariant s' out'
  pub seen : s'.seen ≡ s.seen + 1
  pub budget : s'.budget ≡ s.budget
