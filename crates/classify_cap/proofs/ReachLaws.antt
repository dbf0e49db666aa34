-- E by numbers without a sign. The test n² (r·r) ≤ x² at all three rays passes at 0, and below whatever it passes, so it fails above
-- whatever it fails; the low end of a span of length 1 is the greatest that passes; and with x = b·r at each ray that number is E. Where each ray is
-- 2⁴⁰ long it is the least x over 2⁴⁰. Assumes nothing.
use Prim.Native.Nat.{ℕ, min, ◌+◌, ◌*◌, ◌/◌, ◌^◌, ◌≤◌, ◌<◌}
use native.Mathlib.Nat.{le_refl, le_trans, mul_comm, mul-mul-mul_comm, mul-le-mul}
use native.Mathlib.Omega.{arith}
use mathlib.Core.Path.{◌≡◌, refl, sym, ap, subst, ◌∙◌}
use mathlib.Core.Bool.{Bool, true, false, true≢false, ◌&&◌}
use borrow.Author.Tests.{leb-true, leb-false, le-leb}
use lib.Dec.{leb}
use lib.IntN.{pos, nat_abs, ◌*ℤ◌}
use lib.Signed.{le_z, pos-nat_abs}
use Rattle.algebra.proofs.Filters.{surely_above}
use Rattle.algebra.proofs.Tests.{and_left, and_right, and_both, fails_above, split}
use Rattle.vector.specs.declared.Vec3.{Vec3}
use Rattle.vector.specs.Numbers.{Kℕ, greatest}
use Rattle.vector.specs.Vectors.{dot}
use Rattle.vector.proofs.SizeLaws.{dot_self_nonnegative}
use Rattle.vector.proofs.GreatestLaws.{greatest_passes, greatest_above, greatest_is}
use Rattle.mesh.specs.declared.Trixel.{Trixel}
use Rattle.classify_prepared.specs.declared.Ray.{Ray}
use Rattle.classify_prepared.specs.declared.TrixelRays.{TrixelRays}
use Rattle.classify.specs.Shape.{square, ray0, ray1, ray2, b_of, EOf}
use Rattle.classify_prepared.specs.Measures.{square_of, IsRay, RaysOf}
use Rattle.classify_cap.specs.Reach.{reach_all, greatest_reach, OnAxes, Spanned}

-- ---- one ray of square length q

abbrev reach : ℕ → ℕ → ℕ → Bool
reach x q n = leb (n * n * q) (x * x)

ray_down : (x q a b : ℕ) → a ≤ b → reach x q b ≡ true → reach x q a ≡ true
ray_down x q a b h e = le-leb _ _ (le_trans (mul-le-mul (mul-le-mul h h) (le_refl q)) (leb-true _ _ e))

ray_zero : (x q : ℕ) → reach x q 0 ≡ true
ray_zero x q = le-leb (0 * 0 * q) (x * x) (omega arith)

-- ---- the three rays

module _ (x0 x1 x2 : ℕ) (s : TrixelRays) where
  pub reach_zero : reach_all x0 x1 x2 s 0 ≡ true
  reach_zero = and_both (ray_zero x0 (square_of s.r0)) (and_both (ray_zero x1 (square_of s.r1)) (ray_zero x2 (square_of s.r2)))

  reach_down : (a b : ℕ) → a ≤ b → reach_all x0 x1 x2 s b ≡ true → reach_all x0 x1 x2 s a ≡ true
  reach_down a b h e =
      let q0 = square_of s.r0 in
      let q1 = square_of s.r1 in
      let q2 = square_of s.r2 in
      let e12 = and_right (reach x0 q0 b) (reach x1 q1 b && reach x2 q2 b) e in
      and_both (ray_down x0 q0 a b h (and_left (reach x0 q0 b) (reach x1 q1 b && reach x2 q2 b) e))
      (and_both (ray_down x1 q1 a b h (and_left (reach x1 q1 b) (reach x2 q2 b) e12)) (ray_down x2 q2 a b h (and_right (reach x1 q1 b) (reach x2 q2 b) e12)))

  -- what is tested and fails, fails from there on
  pub none_from : (n : ℕ) {t : Bool} → t ≡ reach_all x0 x1 x2 s n → t ≡ false → (k : ℕ) → n ≤ k → k ≤ Kℕ → reach_all x0 x1 x2 s k ≡ false
  none_from n e f k h l = fails_above (λ m. reach_all x0 x1 x2 s m) reach_down h (sym e ∙ f)

  -- what is reached is at most E, and what is not is above it
  pub reached_most : (n : ℕ) → n ≤ Kℕ → reach_all x0 x1 x2 s n ≡ true → n ≤ greatest_reach x0 x1 x2 s
  reached_most n h e = greatest_above (λ m. reach_all x0 x1 x2 s m) Kℕ n h e

  pub unreached_above : (n : ℕ) → reach_all x0 x1 x2 s n ≡ false → greatest_reach x0 x1 x2 s < n
  unreached_above n e =
      let E = greatest_reach x0 x1 x2 s in
      split (leb n E)
      (λ l. absurd (true≢false (sym (reach_down n E (leb-true n E l) (greatest_passes (λ m. reach_all x0 x1 x2 s m) Kℕ reach_zero)) ∙ e)))
      (λ l. leb-false n E l)

  pub spanned_is : (e : ℕ) → Spanned x0 x1 x2 s e (e + 1) → e ≡ greatest_reach x0 x1 x2 s
  spanned_is e p = sym (greatest_is (λ n. reach_all x0 x1 x2 s n) Kℕ e (omega (arith, p.most)) p.passes (λ k h l. p.above k (omega arith) l))

-- ---- E

square_is : {v : Vec3} {y : Ray} → IsRay v y → dot v v ≡ pos (square_of y)
square_is {v} h = sym (ap (λ r. pos (nat_abs (dot r r))) h.r ∙ pos-nat_abs (dot v v) (dot_self_nonnegative v))

pub reach_is_E : (t : Trixel) (s : TrixelRays) → RaysOf t s → (x0 x1 x2 : ℕ) → dot (b_of t) (ray0 t) ≡ pos x0 → dot (b_of t) (ray1 t) ≡ pos x1 → dot (b_of t) (ray2 t) ≡ pos x2
    → EOf t ≡ pos (greatest_reach x0 x1 x2 s)
unfolding EOf
reach_is_E t s h x0 x1 x2 e0 e1 e2 =
    let q0 = square_is h.r0 in
    let q1 = square_is h.r1 in
    let q2 = square_is h.r2 in
    λ i. pos
    (greatest
    (λ n. le_z (pos (n * n) *ℤ q0 i) (square (e0 i)) && (le_z (pos (n * n) *ℤ q1 i) (square (e1 i)) && le_z (pos (n * n) *ℤ q2 i) (square (e2 i))))
    Kℕ)

-- ---- rays that are 2⁴⁰ long: n² (r·r) ≤ x² is 2⁴⁰ n ≤ x

axis_passes : (x n : ℕ) → 2 ^ 40 * n ≤ x → n * n * 2 ^ 80 ≤ x * x
axis_passes x n h = subst (λ k. k ≤ x * x) (mul-mul-mul_comm (2 ^ 40) n (2 ^ 40) n ∙ mul_comm (2 ^ 80) (n * n)) (mul-le-mul h h)

axis_only : (x n : ℕ) → n * n * 2 ^ 80 ≤ x * x → 2 ^ 40 * n ≤ x
axis_only x n h = split (leb (2 ^ 40 * n) x) (leb-true (2 ^ 40 * n) x)
    (λ f.
    let l = surely_above 1 (2 ^ 80) (2 ^ 40) refl (n * n) 1 n {a = n * n} {b = 2 ^ 80} (omega arith) (omega arith) (leb-false (2 ^ 40 * n) x f) (omega arith) in
    absurd (omega arith))

axis_reaches : {q : ℕ} (x n : ℕ) → q ≡ 2 ^ 80 → 2 ^ 40 * n ≤ x → reach x q n ≡ true
axis_reaches x n e h = subst (λ q. reach x q n ≡ true) (sym e) (le-leb _ _ (axis_passes x n h))

axis_reached : {q : ℕ} (x n : ℕ) → q ≡ 2 ^ 80 → reach x q n ≡ true → 2 ^ 40 * n ≤ x
axis_reached x n e t = axis_only x n (leb-true _ _ (subst (λ q. reach x q n ≡ true) e t))

module _ (x0 x1 x2 : ℕ) (s : TrixelRays) (a : OnAxes s) where
  abbrev least : ℕ
  least = min Kℕ (min (min x0 x1) x2 / 2 ^ 40)

  least_passes : reach_all x0 x1 x2 s least ≡ true
  least_passes = and_both (axis_reaches x0 least a.r0 (omega arith)) (and_both (axis_reaches x1 least a.r1 (omega arith)) (axis_reaches x2 least a.r2 (omega arith)))

  none_above : (k : ℕ) → least < k → k ≤ Kℕ → reach_all x0 x1 x2 s k ≡ false
  none_above k h l =
      let t0 = reach x0 (square_of s.r0) k in
      let t1 = reach x1 (square_of s.r1) k in
      let t2 = reach x2 (square_of s.r2) k in
      split (reach_all x0 x1 x2 s k)
      (λ t.
      let u = and_right t0 (t1 && t2) t in
      let p0 = axis_reached x0 k a.r0 (and_left t0 (t1 && t2) t) in
      let p1 = axis_reached x1 k a.r1 (and_left t1 t2 u) in
      let p2 = axis_reached x2 k a.r2 (and_right t1 t2 u) in
      absurd (omega arith))
      (λ f. f)

  pub axes_reach : least ≡ greatest_reach x0 x1 x2 s
  axes_reach = sym (greatest_is (λ n. reach_all x0 x1 x2 s n) Kℕ least (omega arith) least_passes none_above)

-- ---- a vector whose largest component is the sum of all three lies on an axis

squares : {a b c : ℕ} (x y z : ℕ) → a ≡ x → b ≡ y → c ≡ z → a * a + b * b + c * c ≡ x * x + y * y + z * z
squares x y z p q r = λ i. p i * p i + q i * q i + r i * r i
