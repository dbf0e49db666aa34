-- The trixels below S0 and their bends in natural numbers, so that the prover computes them fast: a corner is (x, y, −z), a root is guessed and confirmed,
-- and no bend is below 0. With them the test of a trixel, and of all below it.
--   Corner, Triple       a corner; three of them: the corners of a trixel, or the midpoints of its edges
--   midpoint, middles    of an edge; of the three edges, opposite to the corners
--   part0, part1, part2  the children at the corners of a trixel with the midpoints m, which are the child in the middle
--   Sizes                three bends; corner_sizes i and middle_sizes i those of a child, i levels below depth 3
--   within l g t b       the trixel t with the bends b passes the test of the limits l, g being the volume above
--   every n i g t b      so do n levels, t with its children and theirs, from level i on
--   third d e            the trixel of depth 3 by its digits below S0
use Prim.Native.Nat.{ℕ, zero, suc, ◌+◌, ◌-◌, ◌*◌, ◌/◌}
use mathlib.Core.Bool.{Bool, true, false, cond, ◌&&◌}
use lib.Dec.{eqb, leb, ltb}
use Rattle.vector.specs.Numbers.{root}
use Rattle.mesh_bends.proofs.BendFacts.{Limits, limits_at}

-- ---- corners

pub record Corner : Type 0 where
  pub x : ℕ
  pub y : ℕ
  pub z : ℕ

pub record Triple : Type 0 where
  pub a : Corner
  pub b : Corner
  pub c : Corner

abbrev pub is_root : ℕ → ℕ → Bool
is_root s r = leb (r * r) s && ltb s ((r + 1) * (r + 1))

abbrev pub or_root : ℕ → ℕ → Bool → ℕ
or_root s r b = elim b [ true ↦ r | false ↦ root s ]

abbrev pub confirmed : ℕ → ℕ → ℕ
confirmed s r = or_root s r (is_root s r)

abbrev pub newton : ℕ → ℕ → ℕ
newton s r = (r + s / r) / 2

-- two steps from 2 K
unfoldable pub quick : ℕ → ℕ
quick s = confirmed s (newton s (1048576 + s / 4194304))

abbrev pub over : ℕ → ℕ → ℕ → ℕ → Corner
over n x y z = cond (eqb n 0) (record { x = 0; y = 0; z = 0 }) (record { x = 1048576 * x / n; y = 1048576 * y / n; z = 1048576 * z / n })

abbrev pub length_of : ℕ → ℕ → ℕ → ℕ
length_of x y z = quick (x * x + y * y + z * z)

-- the root of the sum of two corners
abbrev pub sum_length : Corner → Corner → ℕ
sum_length a b = length_of (a.x + b.x) (a.y + b.y) (a.z + b.z)

unfoldable pub midpoint : Corner → Corner → Corner
midpoint a b = over (sum_length a b) (a.x + b.x) (a.y + b.y) (a.z + b.z)

unfoldable pub middles : Triple → Triple
middles t = record { a = midpoint t.b t.c; b = midpoint t.a t.c; c = midpoint t.a t.b }

abbrev pub part0 : Triple → Triple → Triple
part0 t m = record { a = t.a; b = m.c; c = m.b }

abbrev pub part1 : Triple → Triple → Triple
part1 t m = record { a = t.b; b = m.a; c = m.c }

abbrev pub part2 : Triple → Triple → Triple
part2 t m = record { a = t.c; b = m.b; c = m.a }

-- ---- bends

pub record Sizes : Type 0 where
  pub a0 : ℕ
  pub a1 : ℕ
  pub a2 : ℕ

abbrev pub sizes : ℕ → ℕ → ℕ → Sizes
sizes a0 a1 a2 = record { a0 = a0; a1 = a1; a2 = a2 }

abbrev pub dotted : Corner → Corner → ℕ
dotted a b = a.x * b.x + a.y * b.y + a.z * b.z

abbrev pub size_by_square : ℕ → ℕ → ℕ
size_by_square s s2 = s / 4 + s2 / 32 + s2 * s / 2147483648

abbrev pub size_by : ℕ → ℕ
size_by s = size_by_square s (s * s / 16777216)

abbrev pub edge_size : Corner → Corner → ℕ
edge_size b c = size_by ((1099511627776 - dotted b c) / 65536)

unfoldable pub sizes_of : Triple → Sizes
sizes_of t = sizes (edge_size t.b t.c) (edge_size t.c t.a) (edge_size t.a t.b)

abbrev pub cut_size : ℕ → ℕ → ℕ
cut_size a sum = a * (16537216 + 266 * sum / 256 - 272 * a / 256) / 67108864

abbrev pub turn : Sizes → Sizes
turn b = sizes b.a1 b.a2 b.a0

abbrev pub corner_sizes : ℕ → Sizes → Sizes
corner_sizes zero b = sizes (cut_size b.a0 (b.a0 + b.a1 + b.a2)) (b.a1 / 4 + b.a1 / 1024) (b.a2 / 4 + b.a2 / 1024)
corner_sizes (suc i) b = sizes (b.a0 / 4 + b.a0 / 256) (b.a1 / 4) (b.a2 / 4)

abbrev pub middle_sizes : ℕ → Sizes → Sizes
middle_sizes zero b =
    let sum : ℕ = b.a0 + b.a1 + b.a2 in
    sizes (cut_size b.a0 sum) (cut_size b.a1 sum) (cut_size b.a2 sum)
middle_sizes (suc i) b = sizes (b.a0 / 4 + b.a0 / 256) (b.a1 / 4 + b.a1 / 256) (b.a2 / 4 + b.a2 / 256)

-- ---- the test

-- from K − 2 to K + 1 long
abbrev pub is_corner : Corner → Bool
is_corner a = leb 1099507433476 (dotted a a) && leb (dotted a a) 1099513724929

-- a² + b² − 2 a·b is at most the square of l
abbrev pub is_edge : ℕ → Corner → Corner → Bool
is_edge l a b = leb (dotted a a + dotted b b) (l * l + 2 * dotted a b)

unfoldable pub is_shaped : ℕ → Triple → Bool
is_shaped l t =
    is_corner t.a && is_corner t.b && is_corner t.c && is_edge l t.a t.b && is_edge l t.b t.c && is_edge l t.c t.a

-- the volume is the difference of these
abbrev pub above : Corner → Corner → Corner → ℕ
above a b c = a.x * (b.z * c.y) + a.y * (b.x * c.z) + a.z * (b.y * c.x)

abbrev pub beneath : Corner → Corner → Corner → ℕ
beneath a b c = a.x * (b.y * c.z) + a.y * (b.z * c.x) + a.z * (b.x * c.y)

unfoldable pub volume : Triple → ℕ
volume t = above t.a t.b t.c - beneath t.a t.b t.c

unfoldable pub is_large : ℕ → ℕ → Triple → Bool
is_large part g t = leb (part * g + 1073741824 * beneath t.a t.b t.c) (1073741824 * above t.a t.b t.c)

-- the bend a against the root n
abbrev pub fits_root : Limits → ℕ → ℕ → Bool
fits_root l a n = leb a l.bend && leb (a + 8 * n) (16777216 + l.behind) && leb 16777216 (a + l.ahead + 8 * n)

unfoldable pub fits : Limits → Triple → Sizes → Bool
fits l t b =
    fits_root l b.a0 (sum_length t.b t.c) && fits_root l b.a1 (sum_length t.a t.c) && fits_root l b.a2 (sum_length t.a t.b)

unfoldable pub within : Limits → ℕ → Triple → Sizes → Bool
within l g t b = is_shaped l.edge t && is_large l.part g t && fits l t b

unfoldable pub every : ℕ → ℕ → ℕ → Triple → Sizes → Bool
every zero i g t b = true
every (suc n) i g t b =
    let m = middles t in
    within (limits_at i) g t b && every n (suc i) g (part0 t m) (corner_sizes i b) && every n (suc i) g (part1 t m) (corner_sizes i (turn b))
    && every n (suc i) g (part2 t m) (corner_sizes i (turn (turn b))) && every n (suc i) g m (middle_sizes i b)

-- a trixel of depth 3: K² − b·c has no sign, and all below it pass
unfoldable pub is_spread : Triple → Bool
is_spread t = leb (dotted t.b t.c) 1099511627776 && leb (dotted t.c t.a) 1099511627776 && leb (dotted t.a t.b) 1099511627776

-- the least volume of a trixel of depth 3
abbrev pub least_volume : ℕ
least_volume = 168800000000000000

unfoldable pub passes : Triple → Bool
passes t = leb least_volume (volume t) && (is_spread t && every 5 0 (volume t) t (sizes_of t))

-- ---- the sixteen of depth 3

abbrev pub root0 : Triple
root0 = record { a = record { x = 1048576; y = 0; z = 0 }; b = record { x = 0; y = 0; z = 1048576 }; c = record { x = 0; y = 1048576; z = 0 } }

abbrev pub part : ℕ → Triple → Triple → Triple
part k t m = cond (eqb k 0) (part0 t m) (cond (eqb k 1) (part1 t m) (cond (eqb k 2) (part2 t m) m))

unfoldable pub part_of : ℕ → Triple → Triple
part_of k t = part k t (middles t)

unfoldable pub third : ℕ → ℕ → Triple
third d e = part_of e (part_of d root0)
