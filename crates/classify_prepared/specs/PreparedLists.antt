-- The prepared halfspaces of a region in a list, convex after convex, and the classes put together. Document 01, 'Classifying'.
--   convex_prepared c       the prepared halfspaces of a convex; region_prepared g: of all convexes of a region, one after the other
--   ends_from n g           where each convex ends: the number of halfspaces before its end, where n are before the first
--   Prepared g xs es        the list xs has the prepared halfspaces of the region g, es its ends; g has at least one halfspace in each convex, and is good
--   PreparedConvex v xs     the list xs has the prepared halfspaces of the convex v, which is good
--   RegionAt                a region that fills both lists from a convex on
--   Ready xs es             some region was prepared to the two lists; ReadyConvex xs: some convex to the list
--   Classed t xs es c       c is the class of t for every region that was prepared to the two lists; ClassedConvex t xs c: for every convex
--   stored i n rs xs        the list of halfspaces after n rows, from row number i on; marked i n rs es: the list of ends; convexes_of: how many ends
--                           there are then. They are those of the rows' region (proofs/PreparingLaws)
--   FitRows n rs            n rows as an accepted file has them
--   meet a b                the class of a convex, from the classes of two parts of it
--   join a b                the class of a region, from the classes of two parts of it
use Rattle.std.specs.Prelude.{ℕ, zero, suc, ◌+◌, ◌*◌, ◌<◌, ◌≡◌, true, List, [], ◌∷◌, ◌++◌, length, get_or, drop, set, ℤ, pos, nat_abs}
use Rattle.vector.specs.Vectors.{is_vector}
use Rattle.mesh.specs.declared.Trixel.{Trixel}
use Rattle.region.specs.Regions.{Convex, Region}
use Rattle.region.specs.Building.{is_offset}
use Rattle.region.proofs.GoodRegions.{good_convex, good}
use Rattle.region.proofs.FilledLaws.{Filled}
use Rattle.region.specs.Rows.{halfspace_at}
use Rattle.classify.specs.declared.Class.{Class}
use Rattle.classify.specs.declared.Class.TheVariants.{Outside, Partial, Full}
use Rattle.classify_prepared.specs.declared.PreparedHalfspace.{PreparedHalfspace}
use Rattle.classify.specs.Classes.{convex_class, region_class}
use Rattle.classify_prepared.specs.Measures.{prepared}

-- ---- prepared halfspaces in a list

unfoldable pub convex_prepared : Convex → List PreparedHalfspace
convex_prepared [] = []
convex_prepared (h ∷ hs) = prepared h ∷ convex_prepared hs

unfoldable pub region_prepared : Region → List PreparedHalfspace
region_prepared [] = []
region_prepared (c ∷ cs) = convex_prepared c ++ region_prepared cs

unfoldable pub ends_from : ℕ → Region → List ℕ
ends_from n [] = []
ends_from n (c ∷ cs) = (n + length c) ∷ ends_from (n + length c) cs

pub record Prepared (g : Region) (xs : List PreparedHalfspace) (es : List ℕ) : Type 0 where
  pub filled : Filled g
  pub good : good g ≡ true
  pub halfspaces : xs ≡ region_prepared g
  pub ends : es ≡ ends_from 0 g

-- the same of one convex
pub record PreparedConvex (v : Convex) (xs : List PreparedHalfspace) : Type 0 where
  pub good : good_convex v ≡ true
  pub halfspaces : xs ≡ convex_prepared v

-- the convexes of the region g are those from number k on, its halfspaces those from number i on
pub record RegionAt (xs : List PreparedHalfspace) (es : List ℕ) (i k : ℕ) (g : Region) : Type 0 where
  pub filled : Filled g
  pub good : good g ≡ true
  pub halfspaces : drop i xs ≡ region_prepared g
  pub ends : drop k es ≡ ends_from i g

-- a region was prepared to the two lists
abbrev pub Ready : List PreparedHalfspace → List ℕ → Type 0
Ready xs es = (g : Region) × Prepared g xs es

abbrev pub ReadyConvex : List PreparedHalfspace → Type 0
ReadyConvex xs = (v : Convex) × PreparedConvex v xs

-- the class c is that of t for the region that was prepared to the two lists
abbrev pub Classed : Trixel → List PreparedHalfspace → List ℕ → Class → Type 0
Classed t xs es c = (g : Region) → Prepared g xs es → c ≡ region_class g t

abbrev pub ClassedConvex : Trixel → List PreparedHalfspace → Class → Type 0
ClassedConvex t xs c = (v : Convex) → PreparedConvex v xs → c ≡ convex_class v t

-- ---- from rows to the two lists

-- the prepared halfspaces of n rows, stored from number i on
unfoldable pub stored : ℕ → ℕ → List ℤ → List PreparedHalfspace → List PreparedHalfspace
stored i zero rs xs = xs
stored i (suc n) rs xs = stored (suc i) n (drop 5 rs) (set xs i (prepared (halfspace_at rs)))

-- the ends of the convexes of n rows: each row moves the end of its convex to behind itself
unfoldable pub marked : ℕ → ℕ → List ℤ → List ℕ → List ℕ
marked i zero rs es = es
marked i (suc n) rs es = marked (suc i) n (drop 5 rs) (set es (nat_abs (get_or rs 0 (pos 0))) (suc i))

-- how many convexes n rows have, where k are before the first: the number of the last row's convex, and 1
unfoldable pub convexes_of : ℕ → ℕ → List ℤ → ℕ
convexes_of k zero rs = k
convexes_of k (suc n) rs = convexes_of (nat_abs (get_or rs 0 (pos 0)) + 1) n (drop 5 rs)

-- a row of an accepted file begins at the front of rs
pub record FitRow (rs : List ℤ) : Type 0 where
  pub vector : is_vector (halfspace_at rs).n ≡ true
  pub offset : is_offset (halfspace_at rs).d ≡ true
  pub place : ℕ
  pub number : get_or rs 0 (pos 0) ≡ pos place
  pub few : place < 64

abbrev pub FitRows : ℕ → List ℤ → Type 0
FitRows n rs = (i : ℕ) → i < n → FitRow (drop (5 * i) rs)

-- ---- classes put together

-- outside if one is, else full if both are, else partial
abbrev pub meet : Class → Class → Class
meet Outside b = Outside
meet Partial Outside = Outside
meet Partial Partial = Partial
meet Partial Full = Partial
meet Full b = b

-- full if one is, outside if both are, else partial
abbrev pub join : Class → Class → Class
join Full b = Full
join Partial Full = Full
join Partial Partial = Partial
join Partial Outside = Partial
join Outside b = b
