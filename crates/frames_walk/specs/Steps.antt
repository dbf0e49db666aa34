-- How far a walk is, and what a step of it does. Document 02, F-12; the rule is `walk` of frames/specs/Walk.
--   disposition_counts  the counts of these numbers
--   with_disposition t f   the counts t after an entry with the disposition f; counts_by ms: the counts of the steps ms
--   outer_in l          the outer list of the two lists l; inner_in l: the inner list
--   held g              the point test by the rows of the region g
--   Fits a              the state a is one of a walk over no more entries than an owner's capacity
--   left o m es        of the entries es those that a walk still visits: the owner's, up to an owner's capacity, after m of them
--   Walking ..         a walk of the steps `all` has made some of them, `es` are left, and `after` is the list `before` with the numbers delivered so far
--   Walks ..           the whole walk
--   VisitsEntry ..     whatever was visited before: a walk that had the entry e before it has it behind it; VisitsIfOwned ..: as above, for any owner's entry
use Rattle.std.specs.Prelude.{ℕ, ◌+◌, ◌-◌, ◌^◌, ◌≤◌, ◌≡◌, Bool, List, ◌∷◌, ◌++◌, length, take}
use Rattle.algebra.specs.Lists.{tally}
use Rattle.answer.specs.Lent.{put}
use Rattle.vector.specs.declared.Vec3.{Vec3}
use Rattle.ranges.specs.declared.Range.{Range}
use Rattle.index.specs.declared.Entry.{Entry}
use Rattle.index.specs.Exposures.{OwnerCapacity, only}
use Rattle.index.specs.Entries.{is_owned}
use Rattle.region_points.specs.Points.{rows_hold}
use Rattle.frames.specs.declared.Disposition.{Disposition}
use Rattle.frames.specs.declared.Disposition.TheVariants.{Skipped, Unchecked, Held, Discarded}
use Rattle.frames.specs.Walk.{entries_of, WalkStep, walk, is_unchecked, is_held, is_discarded, delivered_by}
use Rattle.frames_walk.specs.declared.lists.Lists.{Lists}
use Rattle.frames_walk.specs.declared.lists.OwnedEntries.{OwnedEntries}
use Rattle.frames_walk.specs.declared.lists.RegionRows.{RegionRows}
use Rattle.frames_walk.specs.declared.DispositionCounts.{DispositionCounts}
use Rattle.frames_walk.specs.declared.WalkState.{WalkState}
use Rattle.frames_walk.specs.Lent.{ranges_of}

-- ---- the counts

abbrev pub disposition_counts : ℕ → ℕ → ℕ → DispositionCounts
disposition_counts unchecked held discarded = record { unchecked = unchecked; held = held; discarded = discarded }

abbrev pub with_disposition : DispositionCounts → Disposition → DispositionCounts
with_disposition t Skipped = t
with_disposition t Unchecked = disposition_counts (t.unchecked + 1) t.held t.discarded
with_disposition t Held = disposition_counts t.unchecked (t.held + 1) t.discarded
with_disposition t Discarded = disposition_counts t.unchecked t.held (t.discarded + 1)

abbrev pub counts_by : List WalkStep → DispositionCounts
counts_by ms = disposition_counts (tally (λ m. is_unchecked m.disposition) ms) (tally (λ m. is_held m.disposition) ms) (tally (λ m. is_discarded m.disposition) ms)

-- ---- the lists, and the region

abbrev pub outer_in : Lists → List Range
outer_in l = ranges_of l.outer.now

abbrev pub inner_in : Lists → List Range
inner_in l = ranges_of l.inner.now

abbrev pub held : RegionRows → Vec3 → Bool
held g p = rows_hold p g.count g.rows.now

pub record Fits (a : WalkState) : Type 0 where
  pub dispositions : a.dispositions.unchecked + a.dispositions.held + a.dispositions.discarded ≤ a.visited
  pub visited : a.visited ≤ OwnerCapacity

-- ---- the steps

abbrev pub left : ℕ → ℕ → List Entry → List Entry
left o m es = take (OwnerCapacity - m) (only (is_owned o) es)

-- at a depth d, with the point test of the region g
module _ (g : RegionRows) (d : ℕ) where
  pub record Walking (all : List WalkStep) (es : List Entry) (before : List ℕ) (a : WalkState) (after : List ℕ) : Type 0 where
    pub span : a.lists.span ≡ 4 ^ (12 - d)
    pub behind : List WalkStep
    pub parts : behind ++ walk d (held g) (outer_in a.lists) (inner_in a.lists) es ≡ all
    pub visited : a.visited ≡ length behind
    pub dispositions : a.dispositions ≡ counts_by behind
    pub numbers : after ≡ put 0 (delivered_by behind) before

abbrev pub VisitsEntry : RegionRows → Entry → WalkState → List ℕ → WalkState → List ℕ → Type 0
VisitsEntry g e a now b then =
    (d : ℕ) (all : List WalkStep) (es : List Entry) (before : List ℕ) → Walking g d all (e ∷ es) before a now → Walking g d all es before b then

abbrev pub VisitsIfOwned : ℕ → RegionRows → Entry → WalkState → List ℕ → WalkState → List ℕ → Type 0
VisitsIfOwned o g e a now b then =
    (d : ℕ) (all : List WalkStep) (es : List Entry) (before : List ℕ)
    → Walking g d all (left o a.visited (e ∷ es)) before a now → Walking g d all (left o b.visited es) before b then

-- the whole walk over the entries x of an owner
pub record WalkResult (x : OwnedEntries) (l : Lists) (g : RegionRows) (d : ℕ) (before : List ℕ) (t : DispositionCounts) (after : List ℕ) : Type 0 where
  pub dispositions : t ≡ counts_by (walk d (held g) (outer_in l) (inner_in l) (entries_of x.owner x.index.now))
  pub numbers : after ≡ put 0 (delivered_by (walk d (held g) (outer_in l) (inner_in l) (entries_of x.owner x.index.now))) before

abbrev pub Walks : OwnedEntries → Lists → RegionRows → List ℕ → DispositionCounts → List ℕ → Type 0
Walks x l g before t after = (d : ℕ) → l.span ≡ 4 ^ (12 - d) → WalkResult x l g d before t after
