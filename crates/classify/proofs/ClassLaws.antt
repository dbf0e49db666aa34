-- A class decides what is held: a point inside a full trixel is held, and a point inside an outside trixel is not,
-- for a halfspace, for a convex and for a region. Assumes nothing.
use Prim.Native.Nat.{suc}
use mathlib.Core.Path.{◌≡◌, refl, subst}
use mathlib.Core.Bool.{Bool, true, false, cond}
use lib.IntN.{ℤ, pos, negsuc, ◌*ℤ◌}
use lib.Signed.{◌<ℤ◌}
use Rattle.algebra.proofs.Inequalities.{<ℤ-turn, <ℤ-turn-back}
use Rattle.algebra.specs.Lists.{every, some}
use Rattle.algebra.proofs.Tests.{every_every, some_some, every_none, some_fails}
use Rattle.vector.specs.declared.Vec3.{Vec3}
use Rattle.vector.specs.Numbers.{K}
use Rattle.vector.specs.Vectors.{dot, minus}
use Rattle.vector.proofs.VectorLaws.{UnitLength, dot_minus}
use Rattle.mesh.specs.declared.Trixel.{Trixel}
use Rattle.mesh.proofs.Path.{Inside}
use Rattle.region.specs.declared.Halfspace.{Halfspace}
use Rattle.region.specs.Regions.{Convex, Region, holds_halfspace, holds_convex, holds}
use Rattle.region.proofs.HeldSide.{above_held, below_not_held}
use Rattle.classify.specs.declared.Class.TheVariants.{Outside, Partial, Full}
use Rattle.classify.specs.Shape.{within, apart}
use Rattle.classify.specs.Classes.{is_outside, is_full, halfspace_class, convex_class, region_class}
use Rattle.classify.proofs.WithinApart.{within_above, apart_below}

-- ---- which test gave the class: for d ≥ 0, and for d < 0

full_within : (w a : Bool) → is_full (cond w Full (cond a Outside Partial)) ≡ true → w ≡ true
full_within true a e = refl
full_within false true e = e
full_within false false e = e

outside_apart : (w a : Bool) → is_outside (cond w Full (cond a Outside Partial)) ≡ true → a ≡ true
outside_apart true true e = refl
outside_apart true false e = e
outside_apart false true e = refl
outside_apart false false e = e

outside_within : (w a : Bool) → is_outside (cond w Outside (cond a Full Partial)) ≡ true → w ≡ true
outside_within true a e = refl
outside_within false true e = e
outside_within false false e = e

full_apart : (w a : Bool) → is_full (cond w Outside (cond a Full Partial)) ≡ true → a ≡ true
full_apart true true e = refl
full_apart true false e = e
full_apart false true e = refl
full_apart false false e = e

-- of a convex: some outside, all full
convex_full : (o f : Bool) → is_full (cond o Outside (cond f Full Partial)) ≡ true → f ≡ true
convex_full = full_apart

convex_outside : (o f : Bool) → is_outside (cond o Outside (cond f Full Partial)) ≡ true → o ≡ true
convex_outside = outside_within

module _ (p : Vec3) (l : UnitLength p) (t : Trixel) (i : Inside p t) where
  -- ---- a halfspace
  full_halfspace' : (n : Vec3) (d : ℤ) → is_full (halfspace_class (record { n = n; d = d }) t) ≡ true → holds_halfspace (record { n = n; d = d }) p ≡ true
  unfolding halfspace_class
  full_halfspace' n (pos e) c =
      let h : Halfspace = record { n = n; d = pos e } in
      above_held (within_above p l t i h (full_within (within h t) (apart h t) c))
  full_halfspace' n (negsuc e) c =
      let h : Halfspace = record { n = n; d = negsuc e } in
      let b : dot (minus n) p <ℤ (pos (suc e) *ℤ K) = apart_below p l t i h (full_apart (within h t) (apart h t) c) in
      above_held (<ℤ-turn-back (subst (λ z. z <ℤ (pos (suc e) *ℤ K)) (dot_minus n p) b))

  outside_halfspace' : (n : Vec3) (d : ℤ) → is_outside (halfspace_class (record { n = n; d = d }) t) ≡ true → holds_halfspace (record { n = n; d = d }) p ≡ false
  unfolding halfspace_class
  outside_halfspace' n (pos e) c =
      let h : Halfspace = record { n = n; d = pos e } in
      below_not_held (apart_below p l t i h (outside_apart (within h t) (apart h t) c))
  outside_halfspace' n (negsuc e) c =
      let h : Halfspace = record { n = n; d = negsuc e } in
      let b : (pos (suc e) *ℤ K) <ℤ dot (minus n) p = within_above p l t i h (outside_within (within h t) (apart h t) c) in
      below_not_held (<ℤ-turn (subst (λ z. (pos (suc e) *ℤ K) <ℤ z) (dot_minus n p) b))

  pub full_halfspace : (h : Halfspace) → is_full (halfspace_class h t) ≡ true → holds_halfspace h p ≡ true
  full_halfspace h c = full_halfspace' h.n h.d c

  pub outside_halfspace : (h : Halfspace) → is_outside (halfspace_class h t) ≡ true → holds_halfspace h p ≡ false
  outside_halfspace h c = outside_halfspace' h.n h.d c

  -- ---- a convex
  pub full_convex : (c : Convex) → is_full (convex_class c t) ≡ true → holds_convex c p ≡ true
  unfolding convex_class holds_convex
  full_convex c e = every_every (λ h. is_full (halfspace_class h t)) (λ h. holds_halfspace h p) full_halfspace c
      (convex_full (some (λ h. is_outside (halfspace_class h t)) c) (every (λ h. is_full (halfspace_class h t)) c) e)

  pub outside_convex : (c : Convex) → is_outside (convex_class c t) ≡ true → holds_convex c p ≡ false
  unfolding convex_class holds_convex
  outside_convex c e = some_fails (λ h. is_outside (halfspace_class h t)) (λ h. holds_halfspace h p) outside_halfspace c
      (convex_outside (some (λ h. is_outside (halfspace_class h t)) c) (every (λ h. is_full (halfspace_class h t)) c) e)

  -- ---- a region
  pub full_region : (g : Region) → is_full (region_class g t) ≡ true → holds g p ≡ true
  unfolding region_class holds
  full_region g e = some_some (λ c. is_full (convex_class c t)) (λ c. holds_convex c p) full_convex g
      (full_within (some (λ c. is_full (convex_class c t)) g) (every (λ c. is_outside (convex_class c t)) g) e)

  pub outside_region : (g : Region) → is_outside (region_class g t) ≡ true → holds g p ≡ false
  unfolding region_class holds
  outside_region g e = every_none (λ c. is_outside (convex_class c t)) (λ c. holds_convex c p) outside_convex g
      (outside_apart (some (λ c. is_full (convex_class c t)) g) (every (λ c. is_outside (convex_class c t)) g) e)
