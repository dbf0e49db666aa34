-- What is strictly above the plane of a halfspace is held, and what is strictly below it is not: other proofs use only these two laws. A point on
-- the plane is held (document 02, F-5): so the halfspace with d = −K holds the point opposite to its direction, two opposite halfspaces with opposite
-- offsets both hold every point of their plane, and every point is held by at least one of them. Assumes nothing.
use mathlib.Core.Path.{◌≡◌, refl, sym, subst, subst₂}
use mathlib.Core.Bool.{true, false, ◌||◌}
use lib.IntN.{ℤ, pos, neg_ℤ, ◌*ℤ◌}
use lib.Signed.{◌<ℤ◌, ◌≤ℤ◌, ≤ℤ_refl}
use Rattle.algebra.proofs.Inequalities.{<ℤ→≤ℤ, ≤ℤ-neg}
use Rattle.algebra.proofs.RingLaws.{*ℤ-neg-l}
use Rattle.algebra.proofs.Tests.{yes_le, not_le, no_le, or_left, or_right, split}
use Rattle.vector.specs.declared.Vec3.{Vec3}
use Rattle.vector.specs.Numbers.{K}
use Rattle.vector.specs.Vectors.{vec, minus, dot}
use Rattle.vector.proofs.VectorLaws.{dot_minus}
use Rattle.region.specs.declared.Halfspace.{Halfspace}
use Rattle.region.specs.Regions.{held_side, halfspace_from, holds_halfspace}

pub above_held : {s t : ℤ} → t <ℤ s → held_side s t ≡ true
above_held h = yes_le (<ℤ→≤ℤ h)

pub below_not_held : {s t : ℤ} → s <ℤ t → held_side s t ≡ false
below_not_held h = not_le h

pub plane_held : {s t : ℤ} → s ≡ t → held_side s t ≡ true
plane_held {s} {t} e = yes_le (subst (λ u. t ≤ℤ u) (sym e) (≤ℤ_refl t))

-- the halfspace with d = −K holds the point opposite to its direction
pub antipode_held : holds_halfspace (record { n = vec (pos 0) (pos 0) K; d = neg_ℤ K }) (vec (pos 0) (pos 0) (neg_ℤ K)) ≡ true
antipode_held = refl

-- ---- opposite halfspaces with opposite offsets

abbrev pub opposite : Halfspace → Halfspace
opposite h = halfspace_from (minus h.n) (neg_ℤ h.d)

module _ (h : Halfspace) (p : Vec3) where
  -- the one holds p where the other does not hold it strictly
  turned : dot h.n p ≤ℤ (h.d *ℤ K) → holds_halfspace (opposite h) p ≡ true
  turned e = yes_le (subst₂ ◌≤ℤ◌ (sym (*ℤ-neg-l h.d K)) (sym (dot_minus h.n p)) (≤ℤ-neg e))

  pub plane_shared : dot h.n p ≡ h.d *ℤ K → (holds_halfspace h p ≡ true) × (holds_halfspace (opposite h) p ≡ true)
  plane_shared e = (plane_held e, turned (subst (λ u. dot h.n p ≤ℤ u) e (≤ℤ_refl (dot h.n p))))

  pub one_holds : holds_halfspace h p || holds_halfspace (opposite h) p ≡ true
  one_holds =
      split (holds_halfspace h p)
      (λ y. or_left (holds_halfspace (opposite h) p) y)
      (λ n. or_right (holds_halfspace h p) (turned (<ℤ→≤ℤ (no_le n))))
