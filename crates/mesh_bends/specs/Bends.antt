-- The bends a0 a1 a2 of a trixel's edges, each opposite to the corner of its number: a is nearly 8 (2 K − n), with n the root of |b + c|² for the edge from b
-- to c. At depth 3 they follow from the corners, below it from the bends of the trixel above. How far they are from that: proofs/BendFacts.
--   edge_bend b c             from the corners of an edge, by s = (K² − b·c) / 2¹⁶
--   bends_of c                of three corners
--   first_cut, first_half      from depth 3 to depth 4: of the edge that a cut makes, of half an edge
--   later_cut, later_half      from depth 4 on
--   turned_bends k a          the bends from corner number k on
--   bends_below first k a     those of child number k; `first` from depth 3 to depth 4
--   SmallBends a             each is from 0 to 2²⁰
use Rattle.std.specs.Prelude.{ℕ, ◌^◌, Bool, cond, eqb, ltb, ℤ, pos, ◌+ℤ◌, ◌-ℤ◌, ◌*ℤ◌, ◌≤ℤ◌}
use Rattle.algebra.proofs.Sizes.{Upto}
use Rattle.vector.specs.declared.Vec3.{Vec3}
use Rattle.vector.specs.Numbers.{K, quot}
use Rattle.vector.specs.Vectors.{dot}
use Rattle.mesh.specs.declared.Corners.{Corners}
use Rattle.mesh_bends.specs.declared.Bends.{Bends}

abbrev pub bends : ℤ → ℤ → ℤ → Bends
bends a0 a1 a2 = record { a0 = a0; a1 = a1; a2 = a2 }

-- ---- at depth 3

-- by s and its square
abbrev pub bend_by_square : ℤ → ℤ → ℤ
bend_by_square s s2 = quot s (pos 4) +ℤ quot s2 (pos 32) +ℤ quot (s2 *ℤ s) (pos 2147483648)

abbrev pub bend_by : ℤ → ℤ
bend_by s = bend_by_square s (quot (s *ℤ s) (pos 16777216))

abbrev pub edge_bend : Vec3 → Vec3 → ℤ
edge_bend b c = bend_by (quot (K *ℤ K -ℤ dot b c) (pos 65536))

abbrev pub bends_of : Corners → Bends
bends_of c = bends (edge_bend c.v1 c.v2) (edge_bend c.v2 c.v0) (edge_bend c.v0 c.v1)

-- ---- one level down

-- by the sum of the three bends
abbrev pub first_cut : ℤ → ℤ → ℤ
first_cut a sum = quot (a *ℤ (pos 16537216 +ℤ quot (pos 266 *ℤ sum) (pos 256) -ℤ quot (pos 272 *ℤ a) (pos 256))) (pos 67108864)

abbrev pub first_half : ℤ → ℤ
first_half a = quot a (pos 4) +ℤ quot a (pos 1024)

abbrev pub later_cut : ℤ → ℤ
later_cut a = quot a (pos 4) +ℤ quot a (pos 256)

abbrev pub later_half : ℤ → ℤ
later_half a = quot a (pos 4)

abbrev pub turned_bends : ℕ → Bends → Bends
turned_bends k a = cond (eqb k 1) (bends a.a1 a.a2 a.a0) (cond (eqb k 2) (bends a.a2 a.a0 a.a1) a)

-- of the child at the first corner, and of the child in the middle
abbrev pub first_at_corner : Bends → Bends
first_at_corner a = bends (first_cut a.a0 (a.a0 +ℤ a.a1 +ℤ a.a2)) (first_half a.a1) (first_half a.a2)

abbrev pub first_in_middle : Bends → Bends
first_in_middle a =
    let sum : ℤ = a.a0 +ℤ a.a1 +ℤ a.a2 in
    bends (first_cut a.a0 sum) (first_cut a.a1 sum) (first_cut a.a2 sum)

abbrev pub later_at_corner : Bends → Bends
later_at_corner a = bends (later_cut a.a0) (later_half a.a1) (later_half a.a2)

abbrev pub later_in_middle : Bends → Bends
later_in_middle a = bends (later_cut a.a0) (later_cut a.a1) (later_cut a.a2)

abbrev pub first_below : ℕ → Bends → Bends
first_below k a = cond (ltb k 3) (first_at_corner (turned_bends k a)) (first_in_middle (turned_bends k a))

abbrev pub later_below : ℕ → Bends → Bends
later_below k a = cond (ltb k 3) (later_at_corner (turned_bends k a)) (later_in_middle (turned_bends k a))

abbrev pub bends_below : Bool → ℕ → Bends → Bends
bends_below first k a = cond first (first_below k a) (later_below k a)

-- ---- sizes

pub record SmallBends (a : Bends) : Type 0 where
  pub a0 : Upto (2 ^ 20) a.a0
  pub a1 : Upto (2 ^ 20) a.a1
  pub a2 : Upto (2 ^ 20) a.a2
  pub nn0 : pos 0 ≤ℤ a.a0
  pub nn1 : pos 0 ≤ℤ a.a1
  pub nn2 : pos 0 ≤ℤ a.a2
