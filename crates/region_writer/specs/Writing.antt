-- A region in either style, written record by record, and when a list is long enough for its file. Document 01, 'Regions'; document 02, F-7.
--   width s                    the bytes that a halfspace takes in the style s
--   opening s                  the record with which a convex begins; a group has no halfspace yet
--   with_convex_at s p xs        the list with the beginning of a convex at the cursor p
--   with_halfspace_at s p h xs   the list with the halfspace h at the cursor p; a group's length grows with it
--   RegionStands s g before xs p   xs is `before` with the region g from element 8 on, and p is the cursor after it
--   RowFits s xs p c h         some region stands in xs; the row with the number c and the halfspace h may follow it, and fits
--   FileFits s rs n            the rows rs are a region, and its file has at most n bytes
--   RowsStand ..               xs is `before` with the region of the rows rs from element 8 up to element n
use Rattle.std.specs.Prelude.{ℕ, ◌+◌, ◌-◌, ◌*◌, ◌≤◌, ◌≡◌, List, length, ℤ}
use Rattle.answer.specs.Answer.{gives}
use Rattle.answer.specs.Lent.{put}
use Rattle.region.specs.declared.Halfspace.{Halfspace}
use Rattle.region.specs.declared.Record.{Record}
use Rattle.region.specs.declared.Style.{Style}
use Rattle.region.specs.Regions.{Region}
use Rattle.region.specs.Building.{last_convex}
use Rattle.region.specs.Rows.{row_in, region_of}
use Rattle.region.specs.Writer.{begin, numbers_bytes, halfspace_bytes, region_bytes}
use Rattle.region_writer.specs.declared.WriteCursor.{WriteCursor}

abbrev pub width : Style → ℕ
width Style.Plain = 20
width Style.Grouped = 16

abbrev pub opening : Style → Record
opening Style.Plain = Record.Convex
opening Style.Grouped = Record.Group 0

abbrev pub with_convex_at : Style → WriteCursor → List ℕ → List ℕ
with_convex_at s p xs = put p.at (begin (opening s)) xs

abbrev pub with_halfspace_at : Style → WriteCursor → Halfspace → List ℕ → List ℕ
with_halfspace_at Style.Plain p h xs = put p.at (halfspace_bytes h) xs
with_halfspace_at Style.Grouped p h xs = put p.at (numbers_bytes h) (put (p.at - (4 + 16 * p.last)) (begin (Record.Group (p.last + 1))) xs)

pub record RegionStands (s : Style) (g : Region) (before xs : List ℕ) (p : WriteCursor) : Type 0 where
  pub at : p.at ≡ 8 + length (region_bytes s g)
  pub convexes : p.convexes ≡ length g
  pub last : p.last ≡ length (last_convex g)
  pub bytes : xs ≡ put 8 (region_bytes s g) before

pub record RowFits (s : Style) (xs : List ℕ) (p : WriteCursor) (c : ℤ) (h : Halfspace) : Type 0 where
  pub region : Region
  pub before : List ℕ
  pub stands : RegionStands s region before xs p
  pub next : Region
  pub is : row_in region c h ≡ gives next
  pub room : 12 + length (region_bytes s next) ≤ length before

pub record FileFits (s : Style) (rs : List ℤ) (n : ℕ) : Type 0 where
  pub region : Region
  pub is : region_of rs ≡ gives region
  pub room : 12 + length (region_bytes s region) ≤ n

abbrev pub RowsStand : Style → List ℤ → List ℕ → List ℕ → ℕ → Type 0
RowsStand s rs before xs n = (g : Region) → region_of rs ≡ gives g → (n ≡ 8 + length (region_bytes s g)) × (xs ≡ put 8 (region_bytes s g) before)
