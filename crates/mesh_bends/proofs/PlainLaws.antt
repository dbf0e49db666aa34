-- The plain trixels and bends are the rule's: with the signs of S0 a midpoint is Unit of the sum and a part is the child, and where no difference is below 0
-- the bends of a child are those by the formulas. Assumes nothing.
--   signed p          the corner as the rule has it: (x, y, −z)
--   Same t p          the corners of the rule's trixel t are those of p
--   signed_sizes b     the bends as the rule has them
use Prim.Native.Nat.{ℕ, ◌+◌, ◌-◌, ◌*◌, ◌/◌, ◌≤◌}
use native.Mathlib.Omega.{arith}
use mathlib.Core.Path.{◌≡◌, refl, sym, ap, ◌∙◌}
use mathlib.Core.Bool.{Bool, true, false, cond}
use lib.Dec.{eqb}
use lib.IntN.{pos, neg_ℤ, nat_abs, neg_ℤ-+ℤ, ◌+ℤ◌, ◌-ℤ◌, ◌*ℤ◌}
use Rattle.algebra.proofs.Ring.{◌:+◌, ◌:-◌, ◌:*◌, :neg}
use Rattle.algebra.proofs.Claim.{◌:≡◌, ring}
use Rattle.vector.specs.declared.Vec3.{Vec3}
use Rattle.vector.specs.Numbers.{K, quot, root}
use Rattle.vector.specs.Vectors.{vec, plus, dot, divided_by, unit}
use Rattle.vector.proofs.QuotLaws.{part_neg}
use Rattle.vector.proofs.RootLaws.{root_tested}
use Rattle.mesh.specs.declared.Trixel.{Trixel}
use Rattle.mesh.specs.Trixels.{cut, child}
use Rattle.mesh_bends.specs.declared.Bends.{Bends}
use Rattle.mesh_bends.specs.Bends.{bends, bend_by, edge_bend, first_cut}
use Rattle.mesh_bends.proofs.Plain.{Corner, Triple, is_root, or_root, newton, quick, over, length_of, sum_length, midpoint, middles, part0, part1, part2, Sizes, dotted, edge_size, cut_size}

-- ---- roots

confirmed_is : (s r : ℕ) (b : Bool) → is_root s r ≡ b → or_root s r b ≡ root s
confirmed_is s r true e = root_tested s r e
confirmed_is s r false e = refl

quick_is : (s : ℕ) → quick s ≡ root s
unfolding quick
quick_is s = confirmed_is s (newton s (1048576 + s / 4194304)) (is_root s (newton s (1048576 + s / 4194304))) refl

-- ---- corners

abbrev pub signed_by : ℕ → ℕ → ℕ → Vec3
signed_by x y z = vec (pos x) (pos y) (neg_ℤ (pos z))

abbrev pub signed : Corner → Vec3
signed p = signed_by p.x p.y p.z

pub dotted_is : (a b : Corner) → dot (signed a) (signed b) ≡ pos (dotted a b)
dotted_is a b = ap (λ q. pos (a.x * b.x + a.y * b.y) +ℤ q) (ring 2 (λ a b. :neg a :* :neg b :≡ a :* b) refl (pos a.z) (pos b.z))

sum_is : (a b : Corner) → plus (signed a) (signed b) ≡ signed_by (a.x + b.x) (a.y + b.y) (a.z + b.z)
sum_is a b = ap (vec (pos (a.x + b.x)) (pos (a.y + b.y))) (sym (neg_ℤ-+ℤ (pos a.z) (pos b.z)))

-- the root of the square length of a sum
length_is : (x y z : ℕ) → root (nat_abs (dot (signed_by x y z) (signed_by x y z))) ≡ length_of x y z
length_is x y z = ap (λ q. root (nat_abs q)) (dotted_is (record { x = x; y = y; z = z }) (record { x = x; y = y; z = z })) ∙ sym (quick_is (x * x + y * y + z * z))

pub sum_length_is : (a b : Corner) → root (nat_abs (dot (plus (signed a) (signed b)) (plus (signed a) (signed b)))) ≡ sum_length a b
sum_length_is a b = ap (λ s. root (nat_abs (dot s s))) (sum_is a b) ∙ length_is (a.x + b.x) (a.y + b.y) (a.z + b.z)

over_is : (n x y z : ℕ) → divided_by n (signed_by x y z) ≡ signed (over n x y z)
over_is n x y z = by (eqb n 0)
  where
    by : (t : Bool) → cond t (vec (pos 0) (pos 0) (pos 0)) (vec (pos (1048576 * x / n)) (pos (1048576 * y / n)) (quot (K *ℤ neg_ℤ (pos z)) (pos n)))
        ≡ signed (cond t (record { x = 0; y = 0; z = 0 }) (record { x = 1048576 * x / n; y = 1048576 * y / n; z = 1048576 * z / n }))
    by true = refl
    by false = λ i. vec (pos (1048576 * x / n)) (pos (1048576 * y / n)) (part_neg (pos z) n i)

midpoint_is : (a b : Corner) → unit (plus (signed a) (signed b)) ≡ signed (midpoint a b)
unfolding unit midpoint
midpoint_is a b =
    (λ i. divided_by (sum_length_is a b i) (sum_is a b i))
    ∙ over_is (sum_length a b) (a.x + b.x) (a.y + b.y) (a.z + b.z)

-- ---- trixels

pub record Is (v : Vec3) (p : Corner) : Type 0 where
  pub is : v ≡ signed p

pub record Same (t : Trixel) (p : Triple) : Type 0 where
  pub at0 : Is t.v0 p.a
  pub at1 : Is t.v1 p.b
  pub at2 : Is t.v2 p.c

-- a midpoint of two corners that are known
between_is : {u v : Vec3} {a b : Corner} → Is u a → Is v b → Is (unit (plus u v)) (midpoint a b)
between_is {a = a} {b = b} e f = record { is = (λ i. unit (plus (e.is i) (f.is i))) ∙ midpoint_is a b }

pub same0 : {t : Trixel} {p : Triple} → Same t p → Same (child 0 t) (part0 p (middles p))
unfolding child cut middles
same0 h = record { at0 = h.at0; at1 = between_is h.at0 h.at1; at2 = between_is h.at0 h.at2 }

pub same1 : {t : Trixel} {p : Triple} → Same t p → Same (child 1 t) (part1 p (middles p))
unfolding child cut middles
same1 h = record { at0 = h.at1; at1 = between_is h.at1 h.at2; at2 = between_is h.at0 h.at1 }

pub same2 : {t : Trixel} {p : Triple} → Same t p → Same (child 2 t) (part2 p (middles p))
unfolding child cut middles
same2 h = record { at0 = h.at2; at1 = between_is h.at0 h.at2; at2 = between_is h.at1 h.at2 }

pub same3 : {t : Trixel} {p : Triple} → Same t p → Same (child 3 t) (middles p)
unfolding child cut middles
same3 h = record { at0 = between_is h.at1 h.at2; at1 = between_is h.at0 h.at2; at2 = between_is h.at0 h.at1 }

-- ---- bends

abbrev pub signed_sizes : Sizes → Bends
signed_sizes b = bends (pos b.a0) (pos b.a1) (pos b.a2)

pub difference_is : (x y : ℕ) → y ≤ x → pos x -ℤ pos y ≡ pos (x - y)
difference_is x y h =
    let e : x ≡ x - y + y = omega arith in
    ap (λ n. pos n -ℤ pos y) e ∙ ring 2 (λ a b. a :+ b :- b :≡ a) refl (pos (x - y)) (pos y)

pub edge_is : (b c : Corner) → dotted b c ≤ 1099511627776 → edge_bend (signed b) (signed c) ≡ pos (edge_size b c)
edge_is b c h = ap (λ q. bend_by (quot q (pos 65536))) (ap (λ q. pos 1099511627776 -ℤ q) (dotted_is b c) ∙ difference_is 1099511627776 (dotted b c) h)

pub cut_is : (a sum : ℕ) → a ≤ 1048576 → first_cut (pos a) (pos sum) ≡ pos (cut_size a sum)
cut_is a sum h = ap (λ q. quot (pos a *ℤ q) (pos 67108864)) (difference_is (16537216 + 266 * sum / 256) (272 * a / 256) (omega arith))
