-- Unit as the jump's laws read it: n w = K s − rest, n the root of s·s, and the rest of each component is not negative and below n where the component is not
-- negative, since quotients are rounded toward zero. In S0's octant this holds of x, y and −z. Assumes nothing.
--   Truncated   z = n q + rest, z, q and the rest not negative, the rest at most n − 1
--   three       a vector of document 01 as one of the algebra
use Prim.Native.Nat.{ℕ, ◌+◌, ◌*◌, ◌/◌, ◌%◌, ◌<◌}
use native.Mathlib.Nat.{div-add-mod', mod-lt, mul_comm}
use native.Mathlib.Omega.{arith}
use mathlib.Core.Path.{◌≡◌, refl, sym, ap, subst, ◌∙◌}
use mathlib.Core.List.{[], ◌∷◌}
use borrow.Author.Tests.{ne_eqb}
use lib.Dec.{le→leb, lt→ltb}
use lib.IntN.{ℤ, pos, negsuc, neg_ℤ, nat_abs, ◌+ℤ◌, ◌-ℤ◌, ◌*ℤ◌}
use lib.Signed.{◌≤ℤ◌, ◌<ℤ◌, le_z_yes, lt_z_yes}
use Rattle.algebra.proofs.Ring.{Expr, con, ◌:+◌, ◌:-◌, ◌:*◌, :neg}
use Rattle.algebra.proofs.Claim.{◌:≤◌, ◌:≡◌, hyp, eqn, ◌⊕◌, ◌⊗◌, ring, prove}
use Rattle.algebra.proofs.Inequalities.{`0, `1}
use Rattle.algebra.proofs.Order.{nn_pos, nn_mul}
use Rattle.algebra.proofs.Vec.{V3}
use Rattle.algebra.proofs.Vec as vec3
use Rattle.jump.proofs.JumpInvariant.{Cornered, Made, rests, quotients}
use Rattle.jump.proofs.JumpShape.{Rooted}
use Rattle.jump.proofs.JumpLevel.{New, InS0}
use Rattle.vector.specs.declared.Vec3.{Vec3}
use Rattle.vector.specs.Numbers.{K, quot, root}
use Rattle.vector.specs.Vectors.{vec, dot, unit}
use Rattle.vector.proofs.RootLaws.{IsRoot, root_is}
use Rattle.vector.proofs.SizeLaws.{dot_self}
use Rattle.vector.proofs.QuotLaws.{part_neg}

-- ---- a truncating quotient and its rest

pub record Truncated (z : ℤ) (n : ℕ) (q : ℤ) : Type 0 where
  pub rest : ℤ
  pub is : z ≡ pos n *ℤ q +ℤ rest
  pub not_negative : pos 0 ≤ℤ q
  pub nn : pos 0 ≤ℤ rest
  pub most : rest ≤ℤ pos n

pub quot_truncated : (z : ℤ) (n : ℕ) → pos 0 ≤ℤ z → 0 < n → Truncated z n (quot z (pos n))
quot_truncated (pos a) n p h =
    let d = div-add-mod' a n in
    let e : n * (a / n) ≡ a / n * n = mul_comm n (a / n) in
    let r = mod-lt a h in
    let s : a ≡ n * (a / n) + a % n = omega arith in
    record {
      rest = pos (a % n);
      is = ap pos s;
      not_negative = nn_pos (a / n);
      nn = nn_pos (a % n);
      most = le_z_yes (le→leb (a % n) n (omega arith));
    }
quot_truncated (negsuc a) n p h = absurd p.le

-- ---- Unit

abbrev pub three : Vec3 → V3
three v = record { x = v.x; y = v.y; z = v.z }

-- h with 2 K − h = n
abbrev pub lack : ℕ → ℤ
lack n = pos 2 *ℤ K -ℤ pos n

back : (n : ℕ) → pos n ≡ pos 2 *ℤ K -ℤ lack n
back n = ring 2 (λ k n. n :≡ `2 :* k :- (`2 :* k :- n)) refl K (pos n)
  where
    `2 : Expr
    `2 = con (pos 2)

K-times : (m : ℤ) → pos 0 ≤ℤ m → pos 0 ≤ℤ (K *ℤ m)
K-times m h = nn_mul {a = K} (le_z_yes tt) h

module _ (n : ℕ) (m : ℤ) (p : pos 0 ≤ℤ m) (h : 0 < n) where
  cornered : Cornered K (lack n) m (quot (K *ℤ m) (pos n))
  cornered =
      let t = quot_truncated (K *ℤ m) n (K-times m p) h in
      record {
        rest = t.rest;
        is = subst (λ f. f *ℤ quot (K *ℤ m) (pos n) ≡ K *ℤ m -ℤ t.rest) (back n)
            (prove 4 (λ z n q r. record { given = (z :≡ n :* q :+ r) ∷ []; goal = n :* q :≡ z :- r; cert = eqn 0 (:neg `1) }) refl (K *ℤ m) (pos n) (quot (K *ℤ m) (pos n)) t.rest t.is);
        nn = t.nn;
        most = subst (λ f. t.rest ≤ℤ f) (back n) t.most;
      }

  quot_nn : pos 0 ≤ℤ quot (K *ℤ m) (pos n)
  quot_nn = (quot_truncated (K *ℤ m) n (K-times m p) h).not_negative

-- the square length is what its size says
pub own_size : (v : Vec3) → pos (nat_abs (dot v v)) ≡ dot v v
own_size v = ap pos (ap nat_abs (dot_self v)) ∙ sym (dot_self v)

rooted : (s : Vec3) → Rooted K (lack (root (nat_abs (dot s s)))) (three s)
rooted s =
    let n : ℕ = root (nat_abs (dot s s)) in
    let r : IsRoot (nat_abs (dot s s)) n = root_is (nat_abs (dot s s)) in
    record {
      nn = subst (λ f. pos 0 ≤ℤ f) (back n) (nn_pos n);
      low = subst (λ f. (f *ℤ f) ≤ℤ dot s s) (back n) (subst (λ d. (pos n *ℤ pos n) ≤ℤ d) (own_size s) (le_z_yes (le→leb (n * n) (nat_abs (dot s s)) r.low)));
      high = subst (λ f. dot s s <ℤ ((f +ℤ pos 1) *ℤ (f +ℤ pos 1))) (back n)
          (subst (λ d. d <ℤ (pos (n + 1) *ℤ pos (n + 1))) (own_size s) (lt_z_yes (lt→ltb (nat_abs (dot s s)) ((n + 1) * (n + 1)) r.high)));
    }

abbrev over : ℕ → Vec3 → Vec3
over n s = vec (quot (K *ℤ s.x) (pos n)) (quot (K *ℤ s.y) (pos n)) (quot (K *ℤ s.z) (pos n))

module _ (n : ℕ) (s : Vec3) (o : InS0 (three s)) (h : 0 < n) where
  over_octant : InS0 (three (over n s))
  over_octant = record {
    x = quot_nn n s.x o.x h;
    y = quot_nn n s.y o.y h;
    z = subst (λ z. pos 0 ≤ℤ z) (part_neg s.z n) (quot_nn n (neg_ℤ s.z) o.z h);
  }

  made : Made K (lack n) (three s) (three (over n s))
  made = record {
    x = cornered n s.x o.x h;
    y = cornered n s.y o.y h;
    z = subst (λ w. Cornered K (lack n) (neg_ℤ s.z) w) (part_neg s.z n) (cornered n (neg_ℤ s.z) o.z h);
  }

  -- the rests have the signs of the components
  signs : {m w : V3} {h : ℤ} → InS0 w → (a : Made K h m w) → pos 0 ≤ℤ vec3.dot w (rests (quotients a))
  signs {m} {w} o a = prove 6
      (λ x y z p q r. record {
        given = (`0 :≤ x) ∷ (`0 :≤ y) ∷ (`0 :≤ :neg z) ∷ (`0 :≤ p) ∷ (`0 :≤ q) ∷ (`0 :≤ r) ∷ [];
        goal = `0 :≤ x :* p :+ y :* q :+ z :* :neg r;
        cert = hyp 0 ⊗ hyp 3 ⊕ hyp 1 ⊗ hyp 4 ⊕ hyp 2 ⊗ hyp 5;
      })
      refl w.x w.y w.z a.x.rest a.y.rest a.z.rest o.x o.y o.z a.x.nn a.y.nn a.z.nn

  divided_new : Rooted K (lack n) (three s) → New K (three s) (three (over n s))
  divided_new r = record { h = lack n; made = made; rooted = r; sign = signs over_octant made }

-- Unit of a vector in S0's octant whose root is not 0 is a new corner, and in the octant
module _ (s : Vec3) (o : InS0 (three s)) (h : 0 < root (nat_abs (dot s s))) where
  pub unit_new : New K (three s) (three (unit s))
  unfolding unit
  unit_new = rw (ne_eqb (root (nat_abs (dot s s))) 0 (λ e. omega arith)) (divided_new (root (nat_abs (dot s s))) s o h (rooted s))

  pub unit_octant : InS0 (three (unit s))
  unfolding unit
  unit_octant = rw (ne_eqb (root (nat_abs (dot s s))) 0 (λ e. omega arith)) (over_octant (root (nat_abs (dot s s))) s o h)

  -- its n is the root
  pub unit_lack : unit_new.h ≡ lack (root (nat_abs (dot s s)))
  unfolding unit unit_new divided_new
  unit_lack = refl
