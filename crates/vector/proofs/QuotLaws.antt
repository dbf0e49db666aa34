-- Truncation keeps sign symmetry: the quotient of −a is minus the quotient of a, since both are rounded toward zero. So Unit and Scale
-- of −s are minus those of s: the number that they divide by is the same for both. Assumes nothing.
use Prim.Native.Nat.{ℕ, zero, suc, max}
use native.Mathlib.Nat.{zero-div}
use mathlib.Core.Path.{◌≡◌, refl, sym, ap, ◌∙◌}
use mathlib.Core.Bool.{Bool, true, false, cond}
use lib.Dec.{eqb}
use lib.IntN.{ℤ, pos, negsuc, neg_ℤ, neg_ℤ-neg_ℤ, nat_abs, ◌*ℤ◌}
use Rattle.algebra.proofs.RingLaws.{*ℤ-neg-r}
use Rattle.algebra.proofs.Ring.{◌:+◌, ◌:*◌, :neg}
use Rattle.algebra.proofs.Claim.{◌:≡◌, ring}
use Rattle.algebra.proofs.Sized.{nat_abs_neg}
use Rattle.vector.specs.declared.Vec3.{Vec3}
use Rattle.vector.specs.Numbers.{K, quot, root}
use Rattle.vector.specs.Vectors.{vec, dot, minus, divided_by, unit, largest, scale}

pub quot_neg : (a : ℤ) (n : ℕ) → quot (neg_ℤ a) (pos n) ≡ neg_ℤ (quot a (pos n))
quot_neg (pos zero) n = rw zero-div
quot_neg (pos (suc a)) n = refl
quot_neg (negsuc a) n = sym (neg_ℤ-neg_ℤ (quot (pos (suc a)) (pos n)))

pub part_neg : (a : ℤ) (n : ℕ) → quot (K *ℤ neg_ℤ a) (pos n) ≡ neg_ℤ (quot (K *ℤ a) (pos n))
part_neg a n = ap (λ z. quot z (pos n)) (*ℤ-neg-r K a) ∙ quot_neg (K *ℤ a) n

-- ---- K times a vector, divided by n

parts : ℕ → Vec3 → Vec3
parts n s = vec (quot (K *ℤ s.x) (pos n)) (quot (K *ℤ s.y) (pos n)) (quot (K *ℤ s.z) (pos n))

divided_minus' : (n : ℕ) (s : Vec3) (t : Bool) → cond t (vec (pos 0) (pos 0) (pos 0)) (parts n (minus s)) ≡ minus (cond t (vec (pos 0) (pos 0) (pos 0)) (parts n s))
unfolding parts
divided_minus' n s true = refl
divided_minus' n s false = λ i. vec (part_neg s.x n i) (part_neg s.y n i) (part_neg s.z n i)

divided_minus : (n : ℕ) (s : Vec3) → divided_by n (minus s) ≡ minus (divided_by n s)
unfolding parts
divided_minus n s = divided_minus' n s (eqb n 0)

-- ---- Unit and Scale

pub square_minus : (s : Vec3) → dot (minus s) (minus s) ≡ dot s s
square_minus s = ring 3 (λ x y z. :neg x :* :neg x :+ :neg y :* :neg y :+ :neg z :* :neg z :≡ x :* x :+ y :* y :+ z :* z) refl s.x s.y s.z

pub unit_minus : (s : Vec3) → unit (minus s) ≡ minus (unit s)
unfolding unit
unit_minus s = ap (λ q. divided_by (root (nat_abs q)) (minus s)) (square_minus s) ∙ divided_minus (root (nat_abs (dot s s))) s

pub largest_minus : (c : Vec3) → largest (minus c) ≡ largest c
largest_minus c = λ i. max (max (nat_abs_neg c.x i) (nat_abs_neg c.y i)) (nat_abs_neg c.z i)

pub scale_minus : (c : Vec3) → scale (minus c) ≡ minus (scale c)
unfolding scale
scale_minus c = ap (λ n. divided_by n (minus c)) (largest_minus c) ∙ divided_minus (largest c) c
