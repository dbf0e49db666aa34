-- Rays with their heights: r·r lies from 2⁵² h to below 2⁵² (h + 5), by which the filters are right; and the rays that a trixel was measured to are
-- its own. Assumes nothing.
use Prim.Native.Nat.{ℕ, ◌+◌, ◌*◌, ◌/◌, ◌^◌, ◌≤◌, ◌<◌}
use mathlib.Core.Path.{◌≡◌, refl, sym, ap, subst, ◌∙◌}
use mathlib.Core.Bool.{Bool, true, false, cond, ◌&&◌}
use borrow.Author.Tests.{le-leb, lt-leb, leb-true}
use lib.Dec.{leb}
use lib.IntN.{ℤ, nat_abs}
use Rattle.algebra.proofs.Filters as filters
use Rattle.vector.specs.declared.Vec3.{Vec3}
use Rattle.vector.specs.Vectors.{dot}
use Rattle.vector.proofs.Sizes.{AtMost}
use Rattle.vector.proofs.SizeLaws.{dot_self}
use Rattle.mesh.specs.declared.Trixel.{Trixel}
use Rattle.classify_prepared.specs.declared.Ray.{Ray}
use Rattle.classify_prepared.specs.declared.TrixelRays.{TrixelRays}
use Rattle.classify_rays.specs.declared.Passed.{Passed}
use Rattle.std.specs.Prelude.{Option, Some, None}
use Rattle.classify_prepared.specs.Measures.{height_of, square_of, IsRay, RaysOf, OwnRays}
use Rattle.classify.proofs.RaysFirst.{passes, all_pass}
use Rattle.classify_rays.specs.Rays.{filter_reach, passed_of, rays_passed}

pub own_ray : {v : Vec3} {y : Ray} → IsRay v y → IsRay y.r y
own_ray {y} i = subst (λ v. IsRay v y) (sym i.r) i

pub own_rays : {t : Trixel} {s : TrixelRays} → RaysOf t s → OwnRays s
own_rays h = record { r0 = own_ray h.r0; r1 = own_ray h.r1; r2 = own_ray h.r2 }

-- what is said of the rays of s is said of the trixel that it was measured from
pub rays_passed_law : (f : Vec3) {g k : ℤ} {t : Trixel} {s : TrixelRays} {p : Passed} → RaysOf t s → g ≡ k → p ≡ passed_of (passes f g s.r0.r) (passes f g s.r1.r) (passes f g s.r2.r) → p ≡ rays_passed f k t
rays_passed_law f h e q = q ∙ (λ i. passed_of (passes f (e i) (h.r0.r i)) (passes f (e i) (h.r1.r i)) (passes f (e i) (h.r2.r i)))

pub rays_all : (f : Vec3) {g k : ℤ} {t : Trixel} {s : TrixelRays} {a : Bool} → RaysOf t s → g ≡ k → a ≡ passes f g s.r0.r && (passes f g s.r1.r && passes f g s.r2.r) → a ≡ all_pass f k t
rays_all f h e q = q ∙ (λ i. passes f (e i) (h.r0.r i) && (passes f (e i) (h.r1.r i) && passes f (e i) (h.r2.r i)))

-- ---- the height

module _ {v : Vec3} (l : AtMost (2 ^ 41) v) where
  height_low : 2 ^ 52 * height_of v ≤ nat_abs (dot v v)
  unfolding height_of
  height_low = subst (λ n. 2 ^ 52 * height_of v ≤ n) (sym (ap nat_abs (dot_self v))) (filters.height_low (nat_abs v.x) (nat_abs v.y) (nat_abs v.z))

  height_high : nat_abs (dot v v) < 2 ^ 52 * (height_of v + 5)
  unfolding height_of
  height_high = subst (λ n. n < 2 ^ 52 * (height_of v + 5)) (sym (ap nat_abs (dot_self v))) (filters.height_high (nat_abs v.x) (nat_abs v.y) (nat_abs v.z) l.x.le l.y.le l.z.le)

  height_most : height_of v ≤ 3 * 2 ^ 30
  unfolding height_of
  height_most = filters.height_most (nat_abs v.x) (nat_abs v.y) (nat_abs v.z) l.x.le l.y.le l.z.le

pub ray_most : {y : Ray} → IsRay y.r y → y.height ≤ 3 * 2 ^ 30
ray_most i = subst (λ h. h ≤ 3 * 2 ^ 30) (sym i.height) (height_most i.size)

-- ---- the filter

-- what two tests say of a third, where the first proves it and the second refutes it
told_by : {a b t d : Bool} → (a ≡ true → true ≡ t) → (b ≡ true → false ≡ t) → Some d ≡ cond a (Some true) (cond b (Some false) None) → d ≡ t
told_by {a = true} f g e = cc (f refl, e)
told_by {a = false} {b = true} f g e = cc (g refl, e)
told_by {a = false} {b = false} f g e = cc (e)

module _ (x g : ℕ) {y : Ray} (i : IsRay y.r y) where
  sure : leb ((g * g / 1024 + 1) * (y.height + 5)) (x / 2 ^ 31 * (x / 2 ^ 31)) ≡ true → true ≡ leb (g * g * square_of y) (x * x)
  sure e = sym (le-leb _ _ (filters.reach_surely x g (square_of y) y.height (subst (λ h. square_of y < 2 ^ 52 * (h + 5)) (sym i.height) (height_high i.size)) (leb-true _ _ e)))

  sure_not : leb ((x / 2 ^ 31 + 1) * (x / 2 ^ 31 + 1)) (g * g / 1024 * y.height) ≡ true → false ≡ leb (g * g * square_of y) (x * x)
  sure_not e = sym (lt-leb _ _ (filters.reach_surely_not x g (square_of y) y.height (subst (λ h. 2 ^ 52 * h ≤ square_of y) (sym i.height) (height_low i.size)) (leb-true _ _ e)))

  -- where the filter is sure it is right
  pub filter_right : {r : Option Bool} {d : Bool} → r ≡ filter_reach x y.height g → r ≡ Some d → d ≡ leb (g * g * square_of y) (x * x)
  filter_right e k = told_by sure sure_not (sym k ∙ e)
