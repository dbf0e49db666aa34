-- Rows: a region as signed fives, convex number, x, y, z, d. Document 01, 'Regions'.
--   rows g            the rows of the region g, one after the other
--   region_of rs       the region of the rows rs, or the first refusal: no rows and whole fives (4), then each row for 4, 7, 8, 9
use Rattle.std.specs.Prelude.{ℕ, zero, suc, ◌/◌, ◌%◌, Bool, cond, ◌&&◌, ◌||◌, List, [], ◌∷◌, ◌++◌, ltb, eqb, length, get_or, drop, ℤ, pos, ◌+ℤ◌}
use Rattle.vector.specs.Numbers.{eq_z}
use Rattle.vector.specs.Vectors.{vec}
use Rattle.answer.specs.Answer.{Answer, gives, check, then, Order, Crowd}
use Rattle.region.specs.declared.Halfspace.{Halfspace}
use Rattle.region.specs.Regions.{Convex, Region}
use Rattle.region.specs.Building.{with_convex, begun, few_convexes, add}

-- ---- from a region to its rows

abbrev pub row : ℕ → Halfspace → List ℤ
row k h = pos k ∷ h.n.x ∷ h.n.y ∷ h.n.z ∷ h.d ∷ []

-- the rows of the convex number k
unfoldable pub convex_rows : ℕ → Convex → List ℤ
convex_rows k [] = []
convex_rows k (h ∷ hs) = row k h ++ convex_rows k hs

-- the rows of convexes numbered from k on
unfoldable pub rows_from : ℕ → Region → List ℤ
rows_from k [] = []
rows_from k (c ∷ cs) = convex_rows k c ++ rows_from (suc k) cs

unfoldable pub rows : Region → List ℤ
rows g = rows_from 0 g

-- ---- from rows to their region

-- the row's number is that of a new convex: 0 first, then one more than the last
abbrev pub begins : Region → ℤ → Bool
begins g c = eq_z c (pos (length g))

-- the row's number is that of the last convex
abbrev pub goes_on : Region → ℤ → Bool
goes_on g c = begun g && eq_z (c +ℤ pos 1) (pos (length g))

-- the region with the convex that the row belongs to
abbrev pub opened : Region → ℤ → Region
opened g c = cond (begins g c) (with_convex g) g

unfoldable pub row_in : Region → ℤ → Halfspace → Answer Region
row_in g c h = check Order (begins g c || goes_on g c) (check Crowd (few_convexes (opened g c)) (add (opened g c) h))

-- the halfspace of the row that rs begins with
abbrev pub halfspace_at : List ℤ → Halfspace
halfspace_at rs = record { n = vec (get_or rs 1 (pos 0)) (get_or rs 2 (pos 0)) (get_or rs 3 (pos 0)); d = get_or rs 4 (pos 0) }

-- the region g with the next n rows, which rs begins with
unfoldable pub rows_in : ℕ → Region → List ℤ → Answer Region
rows_in zero g rs = gives g
rows_in (suc n) g rs = then (row_in g (get_or rs 0 (pos 0)) (halfspace_at rs)) (λ next. rows_in n next (drop 5 rs))

unfoldable pub region_of : List ℤ → Answer Region
region_of rs = check Order (ltb 0 (length rs)) (check Order (eqb (length rs % 5) 0) (rows_in (length rs / 5) [] rs))
