-- The side of a scaled vector: where c·p is beyond three times the largest component m of c, Scale(c)·p has the sign of c·p. For each component
-- K·c is m times the quotient with a rest of at most m, so K(c·p) differs from m(Scale(c)·p) by at most 3·m·K. Assumes nothing.
use Prim.Native.Nat.{ℕ, suc, ◌+◌, ◌*◌, ◌/◌, ◌<◌}
use native.Mathlib.Nat.{div-add-mod', mod-lt, mul_comm}
use native.Mathlib.Omega.{arith}
use mathlib.Core.Path.{◌≡◌, refl, sym, ap, subst, subst₂, ◌∙◌}
use mathlib.Core.List.{[], ◌∷◌}
use lib.Dec.{eqb, le→leb, lt→ltb}
use borrow.Author.Tests.{ne_eqb, eqb-true, eqb-false}
use lib.IntN.{ℤ, pos, negsuc, neg_ℤ, ◌+ℤ◌, ◌*ℤ◌}
use lib.Signed.{◌≤ℤ◌, ◌<ℤ◌, le_z_yes, lt_z_yes, <ℤ-≤ℤ_trans, clash_ℤ}
use Rattle.algebra.proofs.Ring.{Expr, con, ◌:+◌, ◌:*◌, :neg}
use Rattle.algebra.proofs.Claim.{◌:≤◌, ◌:<◌, nat, hyp, ◌⊕◌, ◌⊗◌, prove}
use Rattle.algebra.proofs.Inequalities.{`0, `1, <ℤ-by-no, <ℤ-turn}
use Rattle.algebra.proofs.Sized.{upto_low, upto_high}
use Rattle.algebra.proofs.Tests.{split}
use Rattle.algebra.proofs.Order.{nn_pos}
use Rattle.vector.specs.declared.Vec3.{Vec3}
use Rattle.vector.specs.Numbers.{K, Kℕ, quot}
use Rattle.vector.specs.Vectors.{minus, dot, largest, scale}
use Rattle.vector.proofs.Sizes.{AtMost, Small}
use Rattle.vector.proofs.QuotLaws.{largest_minus, scale_minus}
use Rattle.vector.proofs.SizeLaws.{largest_at_most, dot_upto}
use Rattle.vector.proofs.VectorLaws.{dot_minus}

-- ---- a quotient's rest

-- z lies within n of n times its quotient
pub record Near (z : ℤ) (n : ℕ) (q : ℤ) : Type 0 where
  pub low : (pos n *ℤ q) ≤ℤ (z +ℤ pos n)
  pub high : z ≤ℤ (pos n *ℤ q +ℤ pos n)

near_pos : (a n : ℕ) → 0 < n → Near (pos a) n (pos (a / n))
near_pos a n h =
    let d = div-add-mod' a n in
    let e : n * (a / n) ≡ a / n * n = mul_comm n (a / n) in
    let r = mod-lt a h in
    record { low = le_z_yes (le→leb (n * (a / n)) (a + n) (omega arith)); high = le_z_yes (le→leb a (n * (a / n) + n) (omega arith)) }

near_neg : (z : ℤ) (n : ℕ) (q : ℤ) → Near z n q → Near (neg_ℤ z) n (neg_ℤ q)
near_neg z n q h = record {
  low = prove 3 (λ z n q. record { given = (z :≤ n :* q :+ n) ∷ []; goal = n :* :neg q :≤ :neg z :+ n; cert = hyp 0 }) refl z (pos n) q h.high;
  high = prove 3 (λ z n q. record { given = (n :* q :≤ z :+ n) ∷ []; goal = :neg z :≤ n :* :neg q :+ n; cert = hyp 0 }) refl z (pos n) q h.low;
}

pub quot_near : (z : ℤ) (n : ℕ) → 0 < n → Near z n (quot z (pos n))
quot_near (pos a) n h = near_pos a n h
quot_near (negsuc a) n h = near_neg (pos (suc a)) n (pos (suc a / n)) (near_pos (suc a) n h)

-- ---- three components

-- q is K times c, divided by m; 3 m < c·p: 0 < q·p
apart_positive : (m a b c q r s x y z : ℤ) → pos 0 <ℤ m
    → (m *ℤ q) ≤ℤ (K *ℤ a +ℤ m) → (K *ℤ a) ≤ℤ (m *ℤ q +ℤ m)
    → (m *ℤ r) ≤ℤ (K *ℤ b +ℤ m) → (K *ℤ b) ≤ℤ (m *ℤ r +ℤ m)
    → (m *ℤ s) ≤ℤ (K *ℤ c +ℤ m) → (K *ℤ c) ≤ℤ (m *ℤ s +ℤ m)
    → neg_ℤ K ≤ℤ x → x ≤ℤ K → neg_ℤ K ≤ℤ y → y ≤ℤ K → neg_ℤ K ≤ℤ z → z ≤ℤ K
    → (pos 3 *ℤ m) <ℤ (a *ℤ x +ℤ b *ℤ y +ℤ c *ℤ z) → (q *ℤ x +ℤ r *ℤ y +ℤ s *ℤ z) ≤ℤ pos 0 → pos 1 ≤ℤ pos 0
apart_positive = prove 10
    (λ m a b c q r s x y z. record {
      given = (`0 :< m) ∷ (m :* q :≤ k :* a :+ m) ∷ (k :* a :≤ m :* q :+ m) ∷ (m :* r :≤ k :* b :+ m) ∷ (k :* b :≤ m :* r :+ m)
          ∷ (m :* s :≤ k :* c :+ m) ∷ (k :* c :≤ m :* s :+ m)
          ∷ (:neg k :≤ x) ∷ (x :≤ k) ∷ (:neg k :≤ y) ∷ (y :≤ k) ∷ (:neg k :≤ z) ∷ (z :≤ k)
          ∷ (con (pos 3) :* m :< a :* x :+ b :* y :+ c :* z) ∷ (q :* x :+ r :* y :+ s :* z :≤ `0) ∷ [];
      goal = `1 :≤ `0;
      cert = hyp 2 ⊗ hyp 7 ⊕ hyp 1 ⊗ hyp 8 ⊕ hyp 4 ⊗ hyp 9 ⊕ hyp 3 ⊗ hyp 10 ⊕ hyp 6 ⊗ hyp 11 ⊕ hyp 5 ⊗ hyp 12
          ⊕ nat 2097152 ⊗ hyp 13 ⊕ nat 2 ⊗ (hyp 0 ⊕ nat 1) ⊗ hyp 14 ⊕ nat 2097151;
    })
    refl
  where
    k : Expr
    k = con (pos 1048576)

-- ---- the sign

-- a vector whose product is not 0 has a component that is not 0
largest_positive : (c p : Vec3) (n : ℕ) → AtMost n p → pos (3 * largest c) <ℤ dot c p → 0 < largest c
largest_positive c p n small h = split (eqb (largest c) 0)
    (λ e.
    let z : largest c ≡ 0 = eqb-true (largest c) 0 e in
    let none : largest c * n + largest c * n + largest c * n ≡ 0 = ap (λ m. m * n + m * n + m * n) z ∙ nothing n in
    absurd (clash_ℤ (<ℤ-≤ℤ_trans h (upto_high (dot_upto (largest_at_most c) small))) (subst (λ m. pos m ≤ℤ pos (3 * largest c)) (sym none) (nn_pos (3 * largest c)))))
    (λ e. positive (eqb-false (largest c) 0 e))
  where
    nothing : (n : ℕ) → 0 * n + 0 * n + 0 * n ≡ 0
    nothing n = omega arith

    positive : {m : ℕ} → (m ≡ 0 → ⊥) → 0 < m
    positive f = omega arith

-- c·p > 3 m: Scale(c)·p > 0
pub scale_above : (c p : Vec3) → Small p → pos (3 * largest c) <ℤ dot c p → pos 0 <ℤ dot (scale c) p
unfolding scale
scale_above c p small h =
    let m = largest c in
    let some = largest_positive c p Kℕ small h in
    let nx = quot_near (K *ℤ c.x) m some in
    let ny = quot_near (K *ℤ c.y) m some in
    let nz = quot_near (K *ℤ c.z) m some in
    rw (ne_eqb m 0 (λ e. omega arith))
    (<ℤ-by-no
    (apart_positive (pos m) c.x c.y c.z (quot (K *ℤ c.x) (pos m)) (quot (K *ℤ c.y) (pos m)) (quot (K *ℤ c.z) (pos m)) p.x p.y p.z
    (lt_z_yes (lt→ltb 0 m some)) nx.low nx.high ny.low ny.high nz.low nz.high
    (upto_low small.x) (upto_high small.x) (upto_low small.y) (upto_high small.y) (upto_low small.z) (upto_high small.z) h))

-- c·p < −3 m: Scale(c)·p < 0, by the opposite vector
pub scale_below : (c p : Vec3) → Small p → dot c p <ℤ neg_ℤ (pos (3 * largest c)) → dot (scale c) p <ℤ pos 0
scale_below c p small h =
    let above : pos (3 * largest (minus c)) <ℤ dot (minus c) p =
    subst₂ (λ m d. pos (3 * m) <ℤ d) (sym (largest_minus c)) (sym (dot_minus c p)) (<ℤ-turn h) in
    let flipped : pos 0 <ℤ neg_ℤ (dot (scale c) p) =
    subst (λ d. pos 0 <ℤ d) (ap (λ v. dot v p) (scale_minus c) ∙ dot_minus (scale c) p) (scale_above (minus c) p small above) in
    <ℤ-turn flipped
