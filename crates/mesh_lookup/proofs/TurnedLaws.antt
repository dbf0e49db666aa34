-- A rotation keeps the descent: the tests of a pointing in S0 are those of the turned pointing at the turned trixel, and cutting commutes with the rotation.
-- So the digits that a jump finds in S0 are those of the root. Assumes nothing.
use Prim.Native.Nat.{ℕ, zero, suc, ◌+◌, ◌*◌, ◌/◌, ◌%◌, ◌<◌}
use mathlib.Core.Path.{◌≡◌, refl, sym, ap, ◌∙◌}
use mathlib.Core.Bool.{cond}
use Rattle.vector.specs.declared.Vec3.{Vec3}
use Rattle.vector.specs.Vectors.{dot}
use Rattle.mesh.specs.declared.Trixel.{Trixel}
use Rattle.mesh.specs.declared.Corners.{Corners}
use Rattle.mesh.specs.Trixels.{cut, child}
use Rattle.mesh.specs.Identifiers.{corners_of}
use Rattle.mesh.specs.Lookup.{not_negative, digit, descend}
use Rattle.mesh.specs.Rotations.{turned, turned_trixel}
use Rattle.mesh.proofs.RotationLaws.{turned_rotates}
use Rattle.mesh.proofs.Rotated.{cut_by_law, child_by}
use Rattle.mesh_trixels.specs.Corners.{bare}
use Rattle.mesh_trixels.proofs.CornerLaws.{child_corners, descend_corners}
use Rattle.mesh_jump.specs.Jumps.{along}
use Rattle.mesh_lookup.specs.LookupSteps.{turned_corners}

-- ---- the trixel along digits looks at corners only

along_corners : (n i : ℕ) (t u : Trixel) → corners_of t ≡ corners_of u → corners_of (along n i t) ≡ corners_of (along n i u)
unfolding along
along_corners zero i t u e = e
along_corners (suc n) i t u e =
    sym (child_corners (i % 4) (along n (i / 4) t))
    ∙ ap (λ c. corners_of (child (i % 4) (bare c))) (along_corners n (i / 4) t u e)
    ∙ child_corners (i % 4) (along n (i / 4) u)

module _ (r : ℕ) (h : r < 8) (p q : Vec3) (back : turned r q ≡ p) where
  kept : (a : Vec3) → dot (turned r a) p ≡ dot a q
  kept a = ap (dot (turned r a)) (sym back) ∙ (turned_rotates r h).kept a q

  digit_turned : (t : Trixel) → digit p (turned_trixel r t) ≡ digit q t
  unfolding digit
  digit_turned t =
      ap (λ k. cond (not_negative (dot k.c0 p)) 0 (cond (not_negative (dot k.c1 p)) 1 (cond (not_negative (dot k.c2 p)) 2 3))) (cut_by_law (turned_rotates r h) t)
      ∙ (λ j. cond (not_negative (kept (cut t).c0 j)) 0 (cond (not_negative (kept (cut t).c1 j)) 1 (cond (not_negative (kept (cut t).c2 j)) 2 3)))

  descend_turned : (n : ℕ) (t : Trixel) (i : ℕ) → descend p n (turned_trixel r t) i ≡ descend q n t i
  unfolding descend
  descend_turned zero t i = refl
  descend_turned (suc n) t i =
      ap (λ d. descend p n (child d (turned_trixel r t)) (4 * i + d)) (digit_turned t)
      ∙ ap (λ u. descend p n u (4 * i + digit q t)) (child_by (turned_rotates r h) (digit q t) t)
      ∙ descend_turned n (child (digit q t) t) (4 * i + digit q t)

  along_turned : (n i : ℕ) (t : Trixel) → along n i (turned_trixel r t) ≡ turned_trixel r (along n i t)
  unfolding along
  along_turned zero i t = refl
  along_turned (suc n) i t = ap (child (i % 4)) (along_turned n (i / 4) t) ∙ child_by (turned_rotates r h) (i % 4) (along n (i / 4) t)

  -- from the corners of an entry, turned
  pub turned_descent : (n i : ℕ) (c : Corners) → descend p n (bare (turned_corners r c)) i ≡ descend q n (bare c) i
  turned_descent n i c = descend_corners p n (bare (turned_corners r c)) (turned_trixel r (bare c)) i refl ∙ descend_turned n (bare c) i

  pub turned_along : (n k j i : ℕ) (c : Corners) → descend p n (along k j (bare (turned_corners r c))) i ≡ descend q n (along k j (bare c)) i
  turned_along n k j i c =
      descend_corners p n (along k j (bare (turned_corners r c))) (along k j (turned_trixel r (bare c))) i (along_corners k j (bare (turned_corners r c)) (turned_trixel r (bare c)) refl)
      ∙ ap (λ t. descend p n t i) (along_turned k j (bare c))
      ∙ descend_turned n (along k j (bare c)) i
