-- The cutting of a trixel, of its children and of the roots, as it goes on in the lent list. Document 01, 'The two lists'. `Adds` stands in
-- covering_tally/specs/Tally.
--   found_in l t        what is found in the trixel t of the level l; found_below l t: in its four children; first_found k l t: in the first k of them
--   Gives ..           what the cutting of k trixels gives, each `left` levels above the depth: after whatever was found before there is `found`, for
--                      every region that was prepared to p
--   Needs, CutNeeds    what the cutting of a trixel needs, and that of the children of a trixel which is seen already
--   AcceptedOrCut ..   a trixel as it was classified: if b it is left out or accepted, else it is partial, and seen, and is to be cut
--   Dividing ..        the first k children are cut
--   RootNeeds ..       the same of the eight roots, and RootsGive what they give; Finishes: of the end of the inner list
--   LevelFits ..       how large identifiers and counts get: `span` is 4 to the power `left`
--   ChildrenFit ..     the same for the four children of i: the LevelFits of the last, where the three before it have seen as many as they can
--   RowsOf g n rs      rs begins with the n rows of g, which is as the region of an accepted file is; SomeRows: of some region; CoversRows: their cover
use Rattle.std.specs.Prelude.{ℕ, zero, suc, ◌+◌, ◌-◌, ◌*◌, ◌/◌, ◌^◌, ◌≤◌, ◌<◌, ◌≡◌, Bool, true, false, List, ◌++◌, length, drop, ℤ}
use Rattle.vector.specs.declared.Vec3.{Vec3}
use Rattle.mesh.specs.declared.Trixel.{Trixel}
use Rattle.mesh.specs.declared.Cut.{Cut}
use Rattle.mesh.specs.Trixels.{child}
use Rattle.region.specs.Regions.{Region}
use Rattle.region.specs.Building.{total}
use Rattle.region.proofs.GoodRegions.{good}
use Rattle.region.proofs.FilledLaws.{Filled}
use Rattle.region.specs.Rows.{rows}
use Rattle.classify.specs.declared.Class.{Class}
use Rattle.classify.specs.declared.Class.TheVariants.{Partial}
use Rattle.classify.specs.Classes.{region_class}
use Rattle.classify_prepared.specs.declared.prepared_region.HalfspaceLists.{HalfspaceLists}
use Rattle.classify_prepared.specs.PreparedLists.{Prepared}
use Rattle.classify_prepared.specs.PreparedRegions.{halfspaces_in, ends_in, ReadyRegion}
use Rattle.classify_active.specs.declared.ActiveHalfspaces.{ActiveHalfspaces}
use Rattle.classify_active.specs.Active.{ActiveListsIn}
use Rattle.ranges.proofs.Pushing.{inner_end}
use Rattle.ranges_stored.specs.Stored.{state_of}
use Rattle.ranges.specs.Ranges.{ranges_in}
use Rattle.ranges.specs.Contents.{identifiers}
use Rattle.covering.specs.declared.Counts.{Counts}
use Rattle.covering.specs.Cover.{Found, both, parted, visit, cutting, listed, counts_of, both_listed}
use Rattle.covering_tally.specs.declared.Tally.{Tally}
use Rattle.covering_tally.specs.Tally.{counts_in, nothing, no_tally, one_more, TallyHolds, Adds, InnerEnded, TallyInvariant, TrixelAccepted}
use Rattle.covering_walk.specs.declared.Level.{Level}
use Rattle.covering_walk.specs.declared.ClassifiedTrixel.{ClassifiedTrixel}
use Rattle.covering_walk.specs.Children.{OtherRays, CutParts}

-- ---- what is found

abbrev pub found_in : Level → Trixel → Region → Found
found_in l t g = visit l.left g t l.id

abbrev pub found_below : Level → Trixel → Region → Found
found_below l t g = parted (visit (l.left - 1) g) t l.id

abbrev pub child_level : Level → ℕ → Level
child_level l k = record { id = 4 * l.id + k; left = l.left - 1; span = l.span / 4 }

unfoldable pub first_found : ℕ → Level → Trixel → Region → Found
first_found zero l t g = nothing
first_found (suc k) l t g = both (first_found k l t g) (found_in (child_level l k) (child k t) g)

-- ---- how large identifiers and counts get

pub record LevelFits (i left span seen : ℕ) : Type 0 where
  pub power : span ≡ 4 ^ left
  pub small : (i + 1) * span ≤ 2 ^ 26
  pub few : 3 * seen + 4 ^ suc left ≤ 2 ^ 28

pub record ChildrenFit (i left span seen : ℕ) : Type 0 where
  pub last : LevelFits (4 * i + 3) left span (seen + (4 ^ suc left - 1))

-- there is a level below, and identifiers for four children
pub record Divisible (l : Level) : Type 0 where
  pub above : 1 ≤ l.left
  pub ids : 4 * l.id + 3 < 2 ^ 26

-- ---- what a cutting needs, and what it gives

pub record Needs (l : Level) (p : HalfspaceLists 512 65) (s : Tally) (out : List ℕ) : Type 0 where
  pub ready : ReadyRegion p
  pub invariant : TallyInvariant s out
  pub level : LevelFits l.id l.left l.span s.seen

pub record CutNeeds (t : Trixel) (classified : ClassifiedTrixel) (l : Level) (p : HalfspaceLists 512 65) (s : Tally) (out : List ℕ) : Type 0 where
  pub rays : OtherRays t classified
  pub ready : ReadyRegion p
  pub invariant : TallyInvariant s out
  pub divisible : Divisible l
  pub level : ChildrenFit l.id (l.left - 1) (l.span / 4) s.seen

pub record Gives (p : HalfspaceLists 512 65) (k left : ℕ) (found : Region → Found)
    (s : Tally) (out : List ℕ) (s' : Tally) (out' : List ℕ) : Type 0 where
  pub adds : (g : Region) → Prepared g (halfspaces_in p) (ends_in p) → Adds (found g) s out s' out'
  pub invariant : TallyInvariant s' out'
  pub budget : s'.budget ≡ s.budget
  pub seen : 3 * s'.seen + k ≤ 3 * s.seen + k * 4 ^ suc left

-- a trixel of class c is left out or accepted
abbrev pub Done : Class → Level → Tally → List ℕ → Tally → List ℕ → Type 0
Done c l s out s' out' = (g : Region) (t : Trixel) → region_class g t ≡ c → TrixelAccepted (found_in l t g) s out s' out'

-- a partial trixel is seen, and is to be cut
pub record ToCut (c : Class) (l : Level) (s : Tally) (out : List ℕ) (s' : Tally) (out' : List ℕ) : Type 0 where
  pub partial : c ≡ Partial
  pub above : 1 ≤ l.left
  pub tally : s' ≡ one_more s
  pub list : out' ≡ out

pub record AcceptedOrCut (b : Bool) (classified : ClassifiedTrixel) (l : Level)
    (s : Tally) (out : List ℕ) (s' : Tally) (out' : List ℕ) : Type 0 where
  pub done : b ≡ true → Done classified.class l s out s' out'
  pub cut : b ≡ false → ToCut classified.class l s out s' out'

pub record Dividing (t : Trixel) (classified : ClassifiedTrixel) (level : Level) (p : HalfspaceLists 512 65) (a : ActiveHalfspaces)
    (s₀ : Tally) (out₀ : List ℕ) (c : Cut) (r : Vec3) (k : ℕ) (s : Tally) (out : List ℕ) : Type 0 where
  pub needs : CutNeeds t classified level p s₀ out₀
  pub active : ActiveListsIn p a
  pub parts : CutParts t c r classified
  pub few : k ≤ 4
  pub gives : Gives p k (level.left - 1) (first_found k level t) s₀ out₀ s out

-- ---- the roots, and the lists

-- the roots are cut: all that the cutting finds is noted
abbrev pub RootsCut : HalfspaceLists 512 65 → ℕ → List ℕ → Tally → List ℕ → Type 0
RootsCut p depth before s after =
    (g : Region) → Prepared g (halfspaces_in p) (ends_in p) → TallyHolds s.budget before (cutting depth g) s after

pub record RootNeeds (depth : ℕ) (p : HalfspaceLists 512 65) (s : Tally) (out : List ℕ) : Type 0 where
  pub low : 1 ≤ depth
  pub high : depth ≤ 12
  pub ready : ReadyRegion p
  pub fresh : s ≡ no_tally s.budget
  pub budget : 1 ≤ s.budget
  pub list : 4 * s.budget ≤ length out

pub record RootsGive (depth : ℕ) (p : HalfspaceLists 512 65) (s : Tally) (out : List ℕ) (s' : Tally) (out' : List ℕ) : Type 0 where
  pub cut : RootsCut p depth out s' out'
  pub invariant : TallyInvariant s' out'
  pub budget : s'.budget ≡ s.budget

-- no more ranges of the inner list come, and the counts are those of the lists
pub record Finishes (s : Tally) (out : List ℕ) (c : Counts) (out' : List ℕ) : Type 0 where
  pub inner : ℕ
  pub behind : InnerEnded s.budget out out' (inner_end s.budget (state_of s.inner (drop (2 * s.budget) out))) inner
  pub counts : c ≡ counts_in s inner (identifiers (ranges_in s.outer.n out))

-- the lists stand in the lent list, and the counts are theirs
abbrev pub Covers : HalfspaceLists 512 65 → ℕ → ℕ → List ℕ → Counts → List ℕ → Type 0
Covers p b depth before c after =
    (g : Region) → Prepared g (halfspaces_in p) (ends_in p)
    → (c ≡ counts_of (listed b (cutting depth g))) × (after ≡ both_listed b (listed b (cutting depth g)) before)

-- the list begins with the n rows of the region g, which is as the region of an accepted file is
pub record RowsOf (g : Region) (n : ℕ) (rs : List ℤ) : Type 0 where
  pub count : n ≡ total g
  pub most : n ≤ 512
  pub some : 0 < length g
  pub few : length g ≤ 64
  pub good : good g ≡ true
  pub filled : Filled g
  pub more : List ℤ
  pub list : rs ≡ rows g ++ more

abbrev pub SomeRows : ℕ → List ℤ → Type 0
SomeRows n rs = (g : Region) × RowsOf g n rs

abbrev pub CoversRows : ℕ → List ℤ → ℕ → ℕ → List ℕ → Counts → List ℕ → Type 0
CoversRows n rs b depth before c after =
    (g : Region) → RowsOf g n rs
    → (c ≡ counts_of (listed b (cutting depth g))) × (after ≡ both_listed b (listed b (cutting depth g)) before)
