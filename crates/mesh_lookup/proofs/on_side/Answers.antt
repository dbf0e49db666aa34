-- `mesh_lookup::on_side` is the sign of the normal's product with p: the sign of (a × b)·p where its size is beyond three times the largest component of
-- a × b, else that of the product itself. Assumes nothing.
use Prim.Native.Nat.{ℕ, zero, suc, ◌*◌, ◌<◌}
use native.Mathlib.Omega.{arith}
use mathlib.Core.Bool.{true}
use mathlib.Core.Path.{◌≡◌, refl, sym, ap, subst, ◌∙◌}
use borrow.Author.Tests.{lt-ltb}
use lib.IntN.{ℤ, pos, negsuc, neg_ℤ, nat_abs}
use lib.Signed.{lt_z, ◌<ℤ◌}
use Rattle.algebra.proofs.Sized.{held}
use Rattle.algebra.proofs.Inequalities.{<ℤ→≤ℤ}
use Rattle.algebra.proofs.Tests.{lt_yes, yes_le, not_le}
use Rattle.vector.specs.declared.Vec3.{Vec3}
use Rattle.vector.specs.Vectors.{dot, scale, largest}
use Rattle.vector.proofs.Sizes.{Small}
use Rattle.vector.proofs.VectorLaws.{dot_comm}
use Rattle.jump.proofs.SideLaws.{scale_above, scale_below}
use Rattle.mesh.specs.Lookup.{not_negative}
use Rattle.mesh_lookup.proofs.on_side.Goals as goal

below : (m n : ℕ) → m < suc n → lt_z (negsuc n) (neg_ℤ (pos m)) ≡ true
below zero n l = refl
below (suc m) n l = lt-ltb m n (omega arith)

-- c·p has the sign of the scaled product, where its size is beyond the bound
same_sign : (c p : Vec3) (s : ℤ) → Small p → s ≡ dot c p → 3 * largest c < nat_abs s → lt_z (pos 0) s ≡ not_negative (dot (scale c) p)
same_sign c p (pos n) h e l =
    let beyond = subst (λ s. pos (3 * largest c) <ℤ s) e (lt_yes (lt-ltb (3 * largest c) n l)) in
    lt-ltb 0 n (omega arith) ∙ sym (yes_le (<ℤ→≤ℤ (scale_above c p h beyond)))
same_sign c p (negsuc n) h e l =
    let beyond = subst (λ s. s <ℤ neg_ℤ (pos (3 * largest c))) e (lt_yes (below (3 * largest c) n l)) in
    sym (not_le (scale_below c p h beyond))

pub returns-then-largest-unsigned_abs : goal.returns-then-largest-unsigned_abs
returns-then-largest-unsigned_abs c =
    let v = c.cross-c.result in
    let p = c.args.p in
    let u = held c.dot-s.ensures.upto tt in
    let size = c.unsigned_abs.ensures.value ∙ ap nat_abs u.eq in
    let beyond : 3 * largest v < nat_abs c.dot-s.result = omega (arith, size, c.largest.ensures, c.if-largest-unsigned_abs.true) in
    ap (lt_z (pos 0)) u.eq
    ∙ same_sign v p c.dot-s.result c.requires.small_2 (c.dot-s.ensures.value ∙ dot_comm p v) beyond
    ∙ ap (λ v. not_negative (dot (scale v) p)) c.cross-c.ensures.value
