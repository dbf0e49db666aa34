-- The active halfspaces of a region beside an anchor, in lists of their own: those that are not settled for every trixel close to it. Document 01,
-- 'Classifying': a convex is outside if one halfspace is, and a full halfspace leaves it as it is, so neither needs to be tested again.
--   Alike r g h                the regions g and h have the same class for every trixel that is close to r
--   ActivePrepared xs es a r   for every region that was prepared to xs and es, a has an alike region
--   ActiveListsIn p a          the anchor of a is one, and where a has halfspaces, they are those of p that are active beside it
--   ByActive t m a             the class of t is that by the active halfspaces
--   Stores w u ys ys'          the halfspaces of u were stored from number w on; 32 are the most
--   ActiveResultOf ..          the result for a convex: it is outside, or the active halfspaces were stored, or they are too many
--   ActiveConvex               the result for every convex that was prepared to the list
--   active_stored_count c w    how many are stored after a halfspace of class c: an active one is stored; active_stored_list: the list then
--   AddedConvex r xs a b       for every region in a and every convex that was prepared to xs, b has a region that is alike to both together
--   RegionSearch ..            the search before convex number k, whose first halfspace is number i, with what is stored in a
use Rattle.std.specs.Prelude.{ℕ, ◌+◌, ◌≤◌, ◌<◌, ◌≡◌, true, List, length, set, Option, Some, None, Result, Ok, Err}
use Rattle.answer.specs.Lent.{put}
use Rattle.mesh.specs.declared.Trixel.{Trixel}
use Rattle.region.specs.Regions.{Convex, Region}
use Rattle.region.proofs.GoodRegions.{good_convex}
use Rattle.classify.specs.declared.Class.{Class}
use Rattle.classify.specs.declared.Class.TheVariants.{Outside, Partial, Full}
use Rattle.classify_prepared.specs.declared.PreparedHalfspace.{PreparedHalfspace}
use Rattle.classify_prepared.specs.declared.prepared_region.HalfspaceLists.{HalfspaceLists}
use Rattle.classify_active.specs.declared.anchors.Anchor.{Anchor}
use Rattle.classify_active.specs.declared.ActiveHalfspaces.{ActiveHalfspaces}
use Rattle.classify_active.specs.declared.NotStored.{NotStored}
use Rattle.classify.specs.Classes.{convex_class, region_class}
use Rattle.classify_cap.specs.declared.BoundingCap.{BoundingCap}
use Rattle.classify.specs.Shape.{positive, volume}
use Rattle.classify_active.specs.Anchor.{IsAnchor, close_to, Close}
use Rattle.classify_prepared.specs.PreparedLists.{convex_prepared, Prepared, PreparedConvex, RegionAt, join}
use Rattle.classify_prepared.specs.PreparedRegions.{halfspaces_in, ends_in}

-- ---- what is left of a region

abbrev pub Alike : Anchor → Region → Region → Type 0
Alike r g h = (t : Trixel) → Close r t → region_class g t ≡ region_class h t

abbrev pub ActivePrepared : List PreparedHalfspace → List ℕ → HalfspaceLists 32 32 → Anchor → Type 0
ActivePrepared xs es a r = (g : Region) → Prepared g xs es → (h : Region) × Prepared h (halfspaces_in a) (ends_in a) × Alike r g h

-- what goes with a trixel of the cutting: an anchor, and the active halfspaces beside it, if any
pub record ActiveListsIn (p : HalfspaceLists 512 65) (a : ActiveHalfspaces) : Type 0 where
  pub anchor : IsAnchor a.anchor
  pub active : 0 < a.lists.count → ActivePrepared (halfspaces_in p) (ends_in p) a.lists a.anchor

-- there are active halfspaces, and t, with the bounding cap m, is close to their anchor
pub record ByActive (t : Trixel) (m : BoundingCap) (a : ActiveHalfspaces) : Type 0 where
  pub some : 0 < a.lists.count
  pub oriented : positive (volume t) ≡ true
  pub close : close_to a.anchor m ≡ true

-- ---- a convex

pub record Stores (w : ℕ) (u : Convex) (ys ys' : List PreparedHalfspace) : Type 0 where
  pub good : good_convex u ≡ true
  pub small : w + length u ≤ 32
  pub list : ys' ≡ put w (convex_prepared u) ys

abbrev pub ActiveResultOf : Anchor → Convex → ℕ → List PreparedHalfspace → List PreparedHalfspace → Result (Option ℕ) NotStored → Type 0
ActiveResultOf r v w ys ys' (Ok None) = (u : Convex) × Stores w u ys ys' × ((t : Trixel) → Close r t → convex_class v t ≡ Outside)
ActiveResultOf r v w ys ys' (Ok (Some m)) = (u : Convex) × Stores w u ys ys' × (m ≡ w + length u) × ((t : Trixel) → Close r t → convex_class v t ≡ convex_class u t)
ActiveResultOf r v w ys ys' (Err e) = (u : Convex) × Stores w u ys ys'

abbrev pub ActiveConvex : Anchor → List PreparedHalfspace → ℕ → List PreparedHalfspace → List PreparedHalfspace → Result (Option ℕ) NotStored → Type 0
ActiveConvex r xs w ys ys' o = (v : Convex) → PreparedConvex v xs → ActiveResultOf r v w ys ys' o

abbrev pub active_stored_count : Class → ℕ → ℕ
active_stored_count Outside w = w
active_stored_count Partial w = w + 1
active_stored_count Full w = w

abbrev pub active_stored_list : Class → ℕ → PreparedHalfspace → List PreparedHalfspace → List PreparedHalfspace
active_stored_list Outside w q ys = ys
active_stored_list Partial w q ys = set ys w q
active_stored_list Full w q ys = ys

-- ---- convex after convex

abbrev pub AddedConvex : Anchor → List PreparedHalfspace → HalfspaceLists 32 32 → HalfspaceLists 32 32 → Type 0
AddedConvex r xs a b =
    (g : Region) → Prepared g (halfspaces_in a) (ends_in a) → (v : Convex) → PreparedConvex v xs
    → (h : Region) × Prepared h (halfspaces_in b) (ends_in b) × ((t : Trixel) → Close r t → region_class h t ≡ join (region_class g t) (convex_class v t))

pub record RegionSearch (r : Anchor) (xs : List PreparedHalfspace) (es : List ℕ) (g : Region) (i k : ℕ) (a : HalfspaceLists 32 32) : Type 0 where
  pub left : Region
  pub at : RegionAt xs es i k left
  pub stored : Region
  pub prepared : Prepared stored (halfspaces_in a) (ends_in a)
  pub class : (t : Trixel) → Close r t → join (region_class stored t) (region_class left t) ≡ region_class g t
