-- Corners and normals of every trixel are within ±K in each component: the axes are, and Unit and Scale give nothing larger. Assumes nothing.
use Prim.Native.Nat.{ℕ, zero, suc, ◌-◌, ◌/◌, ◌%◌}
use mathlib.Core.Bool.{Bool, true, false, cond}
use lib.Dec.{eqb}
use Rattle.vector.specs.declared.Vec3.{Vec3}
use Rattle.vector.proofs.Sizes.{Small}
use Rattle.vector.proofs.SizeLaws.{small_test, at_most_minus, unit_small, scale_small}
use Rattle.mesh.specs.declared.Trixel.{Trixel}
use Rattle.mesh.specs.declared.Cut.{Cut}
use Rattle.mesh_trixels.specs.Corners.{SmallTrixel, SmallCut}
use Rattle.mesh.specs.Trixels.{a0, a1, a2, a3, a4, a5, root_of, S0, S1, S2, S3, N0, N1, N2, N3, root_trixel, cut, child0, child1, child2, child3, child_of, child}
use Rattle.mesh.specs.Identifiers.{trixel}

-- whichever of two
either : (t : Bool) (a b : Trixel) → SmallTrixel a → SmallTrixel b → SmallTrixel (cond t a b)
either true a b h k = h
either false a b h k = k

root_small : {a b c : Vec3} → Small a → Small b → Small c → SmallTrixel (root_of a b c)
root_small a b c = record { v0 = a; v1 = b; v2 = c; p0 = a; p1 = b; p2 = c }

pub roots_small : (k : ℕ) → SmallTrixel (root_trixel k)
unfolding root_trixel
roots_small k =
    let n = small_test a0 tt tt tt in
    let x = small_test a1 tt tt tt in
    let y = small_test a2 tt tt tt in
    let x' = small_test a3 tt tt tt in
    let y' = small_test a4 tt tt tt in
    let s = small_test a5 tt tt tt in
    either (eqb k 0) S0 _ (root_small x s y) (either (eqb k 1) S1 _ (root_small y s x')
    (either (eqb k 2) S2 _ (root_small x' s y') (either (eqb k 3) S3 _ (root_small y' s x)
    (either (eqb k 4) N0 _ (root_small x n y') (either (eqb k 5) N1 _ (root_small y' n x')
    (either (eqb k 6) N2 N3 (root_small x' n y) (root_small y n x)))))))

pub cut_small : (t : Trixel) → SmallCut (cut t)
unfolding cut
cut_small t = record { w0 = unit_small _; w1 = unit_small _; w2 = unit_small _; c0 = scale_small _; c1 = scale_small _; c2 = scale_small _ }

children_small : (k : ℕ) (t : Trixel) (c : Cut) → SmallTrixel t → SmallCut c → SmallTrixel (child_of k t c)
children_small k t c h s =
    either (eqb k 0) (child0 t c) _ (record { v0 = h.v0; v1 = s.w2; v2 = s.w1; p0 = s.c0; p1 = h.p1; p2 = h.p2 })
    (either (eqb k 1) (child1 t c) _ (record { v0 = h.v1; v1 = s.w0; v2 = s.w2; p0 = s.c1; p1 = h.p2; p2 = h.p0 })
    (either (eqb k 2) (child2 t c) (child3 t c) (record { v0 = h.v2; v1 = s.w1; v2 = s.w0; p0 = s.c2; p1 = h.p0; p2 = h.p1 })
    (record { v0 = s.w0; v1 = s.w1; v2 = s.w2; p0 = at_most_minus s.c0; p1 = at_most_minus s.c1; p2 = at_most_minus s.c2 })))

pub child_small : (k : ℕ) (t : Trixel) → SmallTrixel t → SmallTrixel (child k t)
unfolding child
child_small k t h = children_small k t (cut t) h (cut_small t)

pub trixel_small : (n i : ℕ) → SmallTrixel (trixel n i)
unfolding trixel
trixel_small zero i = roots_small (i - 8)
trixel_small (suc n) i = child_small (i % 4) (trixel n (i / 4)) (trixel_small n (i / 4))
