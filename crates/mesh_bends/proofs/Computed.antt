-- The test of every trixel below S0 from depth 3 to depth 7, computed: one lemma for each trixel of depth 3, so that the memory of one is free for the next.
-- Assumes nothing.
--   known_start      what is known of each trixel of depth 3, with the bends of its corners and its own volume
use Prim.Native.Nat.{ℕ, zero, suc, ◌<◌}
use native.Mathlib.Omega.{arith}
use mathlib.Core.Path.{◌≡◌, refl}
use mathlib.Core.Bool.{Bool, true, false, cond}
use lib.Dec.{eqb}
use Rattle.jump.proofs.Jump.{det}
use Rattle.jump.proofs.UnitLaws.{three}
use Rattle.vector.specs.Numbers.{root, root_in}
use Rattle.mesh.specs.declared.Trixel.{Trixel}
use Rattle.mesh.specs.Trixels.{root_trixel, cut, child, child0, child1, child2, child3}
use Rattle.mesh.specs.Identifiers.{corners_of}
use Rattle.mesh_bends.specs.Bends.{bends_of}
use Rattle.mesh_bends.proofs.Plain.{Triple, quick, midpoint, middles, part0, part1, part2, root0, part_of, third, sizes_of, is_shaped, volume, is_large, fits, within, every, is_spread, passes}
use Rattle.mesh_bends.proofs.PlainLaws.{Same, same0, same1, same2, same3}
use Rattle.mesh_bends.proofs.Known.{Known, passed_known}

-- ---- computed

passed00 : passes (third 0 0) ≡ true
unfolding passes is_spread every within is_shaped is_large fits volume sizes_of third part_of middles midpoint quick root root_in
passed00 = refl

passed01 : passes (third 0 1) ≡ true
unfolding passes is_spread every within is_shaped is_large fits volume sizes_of third part_of middles midpoint quick root root_in
passed01 = refl

passed02 : passes (third 0 2) ≡ true
unfolding passes is_spread every within is_shaped is_large fits volume sizes_of third part_of middles midpoint quick root root_in
passed02 = refl

passed03 : passes (third 0 3) ≡ true
unfolding passes is_spread every within is_shaped is_large fits volume sizes_of third part_of middles midpoint quick root root_in
passed03 = refl

passed10 : passes (third 1 0) ≡ true
unfolding passes is_spread every within is_shaped is_large fits volume sizes_of third part_of middles midpoint quick root root_in
passed10 = refl

passed11 : passes (third 1 1) ≡ true
unfolding passes is_spread every within is_shaped is_large fits volume sizes_of third part_of middles midpoint quick root root_in
passed11 = refl

passed12 : passes (third 1 2) ≡ true
unfolding passes is_spread every within is_shaped is_large fits volume sizes_of third part_of middles midpoint quick root root_in
passed12 = refl

passed13 : passes (third 1 3) ≡ true
unfolding passes is_spread every within is_shaped is_large fits volume sizes_of third part_of middles midpoint quick root root_in
passed13 = refl

passed20 : passes (third 2 0) ≡ true
unfolding passes is_spread every within is_shaped is_large fits volume sizes_of third part_of middles midpoint quick root root_in
passed20 = refl

passed21 : passes (third 2 1) ≡ true
unfolding passes is_spread every within is_shaped is_large fits volume sizes_of third part_of middles midpoint quick root root_in
passed21 = refl

passed22 : passes (third 2 2) ≡ true
unfolding passes is_spread every within is_shaped is_large fits volume sizes_of third part_of middles midpoint quick root root_in
passed22 = refl

passed23 : passes (third 2 3) ≡ true
unfolding passes is_spread every within is_shaped is_large fits volume sizes_of third part_of middles midpoint quick root root_in
passed23 = refl

passed30 : passes (third 3 0) ≡ true
unfolding passes is_spread every within is_shaped is_large fits volume sizes_of third part_of middles midpoint quick root root_in
passed30 = refl

passed31 : passes (third 3 1) ≡ true
unfolding passes is_spread every within is_shaped is_large fits volume sizes_of third part_of middles midpoint quick root root_in
passed31 = refl

passed32 : passes (third 3 2) ≡ true
unfolding passes is_spread every within is_shaped is_large fits volume sizes_of third part_of middles midpoint quick root root_in
passed32 = refl

passed33 : passes (third 3 3) ≡ true
unfolding passes is_spread every within is_shaped is_large fits volume sizes_of third part_of middles midpoint quick root root_in
passed33 = refl

all_passed : (d e : ℕ) → d < 4 → e < 4 → passes (third d e) ≡ true
all_passed zero zero h k = passed00
all_passed zero (suc zero) h k = passed01
all_passed zero (suc (suc zero)) h k = passed02
all_passed zero (suc (suc (suc zero))) h k = passed03
all_passed zero (suc (suc (suc (suc e)))) h k = absurd (omega (arith, k))
all_passed (suc zero) zero h k = passed10
all_passed (suc zero) (suc zero) h k = passed11
all_passed (suc zero) (suc (suc zero)) h k = passed12
all_passed (suc zero) (suc (suc (suc zero))) h k = passed13
all_passed (suc zero) (suc (suc (suc (suc e)))) h k = absurd (omega (arith, k))
all_passed (suc (suc zero)) zero h k = passed20
all_passed (suc (suc zero)) (suc zero) h k = passed21
all_passed (suc (suc zero)) (suc (suc zero)) h k = passed22
all_passed (suc (suc zero)) (suc (suc (suc zero))) h k = passed23
all_passed (suc (suc zero)) (suc (suc (suc (suc e)))) h k = absurd (omega (arith, k))
all_passed (suc (suc (suc zero))) zero h k = passed30
all_passed (suc (suc (suc zero))) (suc zero) h k = passed31
all_passed (suc (suc (suc zero))) (suc (suc zero)) h k = passed32
all_passed (suc (suc (suc zero))) (suc (suc (suc zero))) h k = passed33
all_passed (suc (suc (suc zero))) (suc (suc (suc (suc e)))) h k = absurd (omega (arith, k))
all_passed (suc (suc (suc (suc d)))) e h k = absurd (omega (arith, h))

-- ---- the rule's trixels of depth 3

same_root : Same (root_trixel 0) root0
unfolding root_trixel
same_root = record { at0 = record { is = refl }; at1 = record { is = refl }; at2 = record { is = refl } }

same_part : (k : ℕ) {t : Trixel} {p : Triple} → Same t p → Same (child k t) (part_of k p)
unfolding child part_of
same_part k {t} {p} h = by (eqb k 0) (eqb k 1) (eqb k 2)
  where
    by : (a b c : Bool) → Same (cond a (child0 t (cut t)) (cond b (child1 t (cut t)) (cond c (child2 t (cut t)) (child3 t (cut t)))))
        (cond a (part0 p (middles p)) (cond b (part1 p (middles p)) (cond c (part2 p (middles p)) (middles p))))
    by true b c = same0 h
    by false true c = same1 h
    by false false true = same2 h
    by false false false = same3 h

same_third : (d e : ℕ) → Same (child e (child d (root_trixel 0))) (third d e)
unfolding third
same_third d e = same_part e (same_part d same_root)

pub known_start : (d e : ℕ) → d < 4 → e < 4
    → let x = child e (child d (root_trixel 0)) in Known 0 (bends_of (corners_of x)) (det (three x.v0) (three x.v1) (three x.v2)) x
known_start d e h k = passed_known (same_third d e) (all_passed d e h k)
