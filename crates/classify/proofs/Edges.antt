-- Two trixels that show what 'V > 0' and 'every b·r > 0' are for: in each, that condition alone decides, and a point of the trixel would
-- be classified wrongly without it. And caps beside each edge of the first trixel: one ends just before the edge's plane, one touches it, for
-- both signs of the offset. The facts hold by computing. Assumes nothing.
use mathlib.Core.Path.{◌≡◌, refl}
use mathlib.Core.Bool.{true, false}
use lib.IntN.{pos, neg_ℤ}
use lib.Signed.{le_z_yes}
use Rattle.vector.specs.declared.Vec3.{Vec3}
use Rattle.vector.specs.Numbers.{K, greatest, root, root_in}
use Rattle.vector.specs.Vectors.{vec, unit, is_vector}
use Rattle.mesh.specs.declared.Trixel.{Trixel}
use Rattle.mesh.proofs.Path.{Inside}
use Rattle.region.specs.declared.Halfspace.{Halfspace}
use Rattle.region.specs.Regions.{holds_halfspace}
use Rattle.classify.specs.declared.Class.TheVariants.{Outside, Partial, Full}
use Rattle.classify.specs.Shape.{positive, volume, e_of, f_of, DOf, GOf, ahead, reaches, b_of, EOf, within, far, beyond_edge, apart}
use Rattle.classify.specs.Classes.{halfspace_class}

-- ---- V > 0: an octant with its three normals negated

abbrev inverted_trixel : Trixel
inverted_trixel = record {
  v0 = vec K (pos 0) (pos 0);
  v1 = vec (pos 0) K (pos 0);
  v2 = vec (pos 0) (pos 0) K;
  p0 = vec (neg_ℤ K) (pos 0) (pos 0);
  p1 = vec (pos 0) (neg_ℤ K) (pos 0);
  p2 = vec (pos 0) (pos 0) (neg_ℤ K);
}

-- around the middle of the octant
abbrev middle : Halfspace
middle = record { n = vec (pos 605396) (pos 605396) (pos 605396); d = pos 524288 }

-- not within, and only the volume says so
inverted : within middle inverted_trixel ≡ false
unfolding within
inverted = refl

inverted_volume : positive (volume inverted_trixel) ≡ false
inverted_volume = refl

inverted_ahead : ahead (f_of middle) inverted_trixel ≡ true
inverted_ahead = refl

inverted_reaches : reaches (f_of middle) (GOf (e_of middle)) inverted_trixel ≡ true
inverted_reaches = refl

-- Without V > 0 the trixel would be full. But its points are those of the opposite octant, and the halfspace holds none of them. Here is one.
abbrev opposite : Vec3
opposite = vec (neg_ℤ (pos 605396)) (neg_ℤ (pos 605396)) (neg_ℤ (pos 605396))

opposite_vector : is_vector opposite ≡ true
unfolding is_vector
opposite_vector = refl

opposite_inside : Inside opposite inverted_trixel
opposite_inside = record { in0 = le_z_yes tt; in1 = le_z_yes tt; in2 = le_z_yes tt }

opposite_not_held : holds_halfspace middle opposite ≡ false
opposite_not_held = refl

-- ---- every b·r > 0: rays along (1024, 1, 0), (−1024, 0, 1) and (1024, −1, −1), the second of them nearly opposite to b = (K, 0, 0)

abbrev behind_trixel : Trixel
behind_trixel = record {
  v0 = vec K (pos 1024) (pos 0);
  v1 = vec (neg_ℤ K) (pos 0) (pos 1024);
  v2 = vec K (neg_ℤ (pos 1024)) (neg_ℤ (pos 1024));
  p0 = vec (pos 1) (pos 0) (pos 1024);
  p1 = vec (pos 1) (neg_ℤ (pos 1024)) (pos 2048);
  p2 = vec (pos 1) (neg_ℤ (pos 1024)) (pos 1024);
}

-- around −b
abbrev backward : Halfspace
backward = record { n = vec (neg_ℤ K) (pos 0) (pos 0); d = pos 524288 }

-- not apart, and only the second ray says so
behind : apart backward behind_trixel ≡ false
unfolding apart beyond_edge b_of EOf greatest unit root root_in
behind = refl

behind_volume : positive (volume behind_trixel) ≡ true
behind_volume = refl

behind_b : b_of behind_trixel ≡ vec K (pos 0) (pos 0)
unfolding b_of unit root root_in
behind_b = refl

behind_E : EOf behind_trixel ≡ pos 1048575
unfolding b_of EOf greatest unit root root_in
behind_E = refl

behind_ahead : ahead (b_of behind_trixel) behind_trixel ≡ false
unfolding b_of unit root root_in
behind_ahead = refl

behind_far : far (f_of backward) (DOf (e_of backward)) (b_of behind_trixel) (EOf behind_trixel) ≡ true
unfolding b_of EOf greatest unit root root_in
behind_far = refl

-- Without 'every b·r > 0' the trixel would be outside. But the halfspace holds its corner (−K, 0, 1024).
behind_vector : is_vector behind_trixel.v1 ≡ true
unfolding is_vector
behind_vector = refl

behind_inside : Inside behind_trixel.v1 behind_trixel
behind_inside = record { in0 = le_z_yes tt; in1 = le_z_yes tt; in2 = le_z_yes tt }

behind_held : holds_halfspace backward behind_trixel.v1 ≡ true
behind_held = refl

-- ---- an edge: caps of 45 degrees around directions 45 degrees from the plane of one of the three edges of that inverted trixel. Where D is
-- 741456 the cap ends before that plane, where D is 741455 it touches it. V is not positive, so the bounding cap plays no part.

abbrev beside : Vec3 → Halfspace
beside n = record { n = n; d = pos 741458 }

first_edge : halfspace_class (beside (vec (pos 741455) (neg_ℤ (pos 741455)) (pos 0))) inverted_trixel ≡ Outside
unfolding halfspace_class within apart beyond_edge
first_edge = refl

second_edge : halfspace_class (beside (vec (pos 0) (pos 741455) (neg_ℤ (pos 741455)))) inverted_trixel ≡ Outside
unfolding halfspace_class within apart beyond_edge
second_edge = refl

third_edge : halfspace_class (beside (vec (neg_ℤ (pos 741455)) (pos 0) (pos 741455))) inverted_trixel ≡ Outside
unfolding halfspace_class within apart beyond_edge
third_edge = refl

-- the same cap, left out
left_out : halfspace_class (record { n = vec (neg_ℤ (pos 741455)) (pos 741455) (pos 0); d = neg_ℤ (pos 741458) }) inverted_trixel ≡ Full
unfolding halfspace_class within apart beyond_edge
left_out = refl

touching : halfspace_class (record { n = vec (pos 741455) (neg_ℤ (pos 741455)) (pos 0); d = pos 741457 }) inverted_trixel ≡ Partial
unfolding halfspace_class within apart beyond_edge
touching = refl
