-- The eight rotations commute with sum, opposite, cross product, Unit and Scale, and keep the dot product. They are made of two, a quarter turn about z
-- and a half turn about x; the laws are proved for these two, and hold for every composition of maps that have them. A mirror has all of them but that of the
-- cross product. Unit and Scale divide by what a rotation keeps, the square length and the largest component. Assumes nothing.
use Prim.Native.Nat.{ℕ, zero, suc, max, ◌<◌}
use native.Mathlib.Nat.{max_comm}
use native.Mathlib.Omega.{arith}
use mathlib.Core.Path.{◌≡◌, refl, sym, ap, subst, ◌∙◌}
use mathlib.Core.Bool.{Bool, true, false, cond}
use lib.Dec.{eqb}
use lib.IntN.{ℤ, pos, neg_ℤ, neg_ℤ-neg_ℤ, nat_abs, ◌+ℤ◌, ◌*ℤ◌}
use Rattle.algebra.proofs.Ring.{◌:+◌, ◌:-◌, ◌:*◌, :neg}
use Rattle.algebra.proofs.Claim.{◌:≡◌, ring}
use Rattle.algebra.proofs.Sized.{nat_abs_neg}
use Rattle.vector.specs.declared.Vec3.{Vec3}
use Rattle.vector.specs.Numbers.{K, quot, root}
use Rattle.vector.specs.Vectors.{vec, plus, minus, dot, cross, divided_by, unit, largest, scale}
use Rattle.vector.proofs.QuotLaws.{part_neg}
use Rattle.mesh.specs.Rotations.{rotation, turned, Proper}

-- ---- the laws

pub record Rotates (f : Vec3 → Vec3) : Type 0 where
  pub sum : (a b : Vec3) → f (plus a b) ≡ plus (f a) (f b)
  pub opposite : (a : Vec3) → f (minus a) ≡ minus (f a)
  pub product : (a b : Vec3) → f (cross a b) ≡ cross (f a) (f b)
  pub kept : (a b : Vec3) → dot (f a) (f b) ≡ dot a b
  pub divided : (n : ℕ) (a : Vec3) → f (divided_by n a) ≡ divided_by n (f a)
  pub as_large : (a : Vec3) → largest (f a) ≡ largest a

module _ {f : Vec3 → Vec3} (h : Rotates f) (a : Vec3) where
  pub turned_unit : unit (f a) ≡ f (unit a)
  unfolding unit
  turned_unit = ap (λ q. divided_by (root (nat_abs q)) (f a)) (h.kept a a) ∙ sym (h.divided (root (nat_abs (dot a a))) a)

  pub turned_scale : scale (f a) ≡ f (scale a)
  unfolding scale
  turned_scale = ap (λ n. divided_by n (f a)) (h.as_large a) ∙ sym (h.divided (largest a) a)

-- ---- maps that are made of others

none : Rotates (λ a. a)
none = record { sum = λ a b. refl; opposite = λ a. refl; product = λ a b. refl; kept = λ a b. refl; divided = λ n a. refl; as_large = λ a. refl }

both : {f g : Vec3 → Vec3} → Rotates f → Rotates g → Rotates (λ a. f (g a))
both {f} {g} p q = record {
  sum = λ a b. ap f (q.sum a b) ∙ p.sum (g a) (g b);
  opposite = λ a. ap f (q.opposite a) ∙ p.opposite (g a);
  product = λ a b. ap f (q.product a b) ∙ p.product (g a) (g b);
  kept = λ a b. p.kept (g a) (g b) ∙ q.kept a b;
  divided = λ n a. ap f (q.divided n a) ∙ p.divided n (g a);
  as_large = λ a. p.as_large (g a) ∙ q.as_large a;
}

same : {f g : Vec3 → Vec3} → ((a : Vec3) → f a ≡ g a) → Rotates f → Rotates g
same e h = subst Rotates (λ j a. e a j) h

-- ---- a quarter turn about z: x goes to y, y to −x

neg_sum : (a b : ℤ) → neg_ℤ (a +ℤ b) ≡ neg_ℤ a +ℤ neg_ℤ b
neg_sum a b = ring 2 (λ a b. :neg (a :+ b) :≡ :neg a :+ :neg b) refl a b

abbrev quarter : Vec3 → Vec3
quarter a = vec (neg_ℤ a.y) a.x a.z

-- K times a component, divided by n
abbrev part : ℕ → ℤ → ℤ
part n a = quot (K *ℤ a) (pos n)

abbrev zero3 : Vec3
zero3 = vec (pos 0) (pos 0) (pos 0)

quarter_divided : (n : ℕ) (a : Vec3) (t : Bool)
    → quarter (cond t zero3 (vec (part n a.x) (part n a.y) (part n a.z))) ≡ cond t zero3 (vec (part n (neg_ℤ a.y)) (part n a.x) (part n a.z))
quarter_divided n a true = refl
quarter_divided n a false = ap (λ c. vec c (part n a.x) (part n a.z)) (sym (part_neg a.y n))

quarter_rotates : Rotates quarter
quarter_rotates = record {
  sum = λ a b j. vec (neg_sum a.y b.y j) (a.x +ℤ b.x) (a.z +ℤ b.z);
  opposite = λ a. refl;
  product = λ a b.
      let x = ring 4 (λ ax az bx bz. :neg (az :* bx :- ax :* bz) :≡ ax :* bz :- az :* bx) refl a.x a.z b.x b.z in
      let y = ring 4 (λ ay az by bz. ay :* bz :- az :* by :≡ az :* :neg by :- :neg ay :* bz) refl a.y a.z b.y b.z in
      let z = ring 4 (λ ax ay bx by. ax :* by :- ay :* bx :≡ :neg ay :* bx :- ax :* :neg by) refl a.x a.y b.x b.y in
      λ j. vec (x j) (y j) (z j);
  kept = λ a b. ring 6 (λ ax ay az bx by bz. :neg ay :* :neg by :+ ax :* bx :+ az :* bz :≡ ax :* bx :+ ay :* by :+ az :* bz) refl
      a.x a.y a.z b.x b.y b.z;
  divided = λ n a. quarter_divided n a (eqb n 0);
  as_large = λ a.
      ap (λ m. max (max m (nat_abs a.x)) (nat_abs a.z)) (nat_abs_neg a.y)
      ∙ ap (λ m. max m (nat_abs a.z)) (max_comm (nat_abs a.y) (nat_abs a.x));
}

-- ---- a half turn about x

abbrev half : Vec3 → Vec3
half a = vec a.x (neg_ℤ a.y) (neg_ℤ a.z)

half_divided : (n : ℕ) (a : Vec3) (t : Bool)
    → half (cond t zero3 (vec (part n a.x) (part n a.y) (part n a.z)))
    ≡ cond t zero3 (vec (part n a.x) (part n (neg_ℤ a.y)) (part n (neg_ℤ a.z)))
half_divided n a true = refl
half_divided n a false = sym (λ j. vec (part n a.x) (part_neg a.y n j) (part_neg a.z n j))

half_rotates : Rotates half
half_rotates = record {
  sum = λ a b j. vec (a.x +ℤ b.x) (neg_sum a.y b.y j) (neg_sum a.z b.z j);
  opposite = λ a. refl;
  product = λ a b.
      let x = ring 4 (λ ay az by bz. ay :* bz :- az :* by :≡ :neg ay :* :neg bz :- :neg az :* :neg by) refl a.y a.z b.y b.z in
      let y = ring 4 (λ ax az bx bz. :neg (az :* bx :- ax :* bz) :≡ :neg az :* bx :- ax :* :neg bz) refl a.x a.z b.x b.z in
      let z = ring 4 (λ ax ay bx by. :neg (ax :* by :- ay :* bx) :≡ ax :* :neg by :- :neg ay :* bx) refl a.x a.y b.x b.y in
      λ j. vec (x j) (y j) (z j);
  kept = λ a b. ring 6 (λ ax ay az bx by bz. ax :* bx :+ :neg ay :* :neg by :+ :neg az :* :neg bz :≡ ax :* bx :+ ay :* by :+ az :* bz) refl
      a.x a.y a.z b.x b.y b.z;
  divided = λ n a. half_divided n a (eqb n 0);
  as_large = λ a j. max (max (nat_abs a.x) (nat_abs_neg a.y j)) (nat_abs_neg a.z j);
}

-- ---- the eight: S0 to S3 by quarter turns, N0 to N3 by a half turn after them

pub by_root : (P : ℕ → Type 0) → P 0 → P 1 → P 2 → P 3 → P 4 → P 5 → P 6 → P 7 → (r : ℕ) → r < 8 → P r
by_root P a b c d e f g h zero l = a
by_root P a b c d e f g h (suc zero) l = b
by_root P a b c d e f g h (suc (suc zero)) l = c
by_root P a b c d e f g h (suc (suc (suc zero))) l = d
by_root P a b c d e f g h (suc (suc (suc (suc zero)))) l = e
by_root P a b c d e f g h (suc (suc (suc (suc (suc zero))))) l = f
by_root P a b c d e f g h (suc (suc (suc (suc (suc (suc zero)))))) l = g
by_root P a b c d e f g h (suc (suc (suc (suc (suc (suc (suc zero))))))) l = h
by_root P a b c d e f g h (suc (suc (suc (suc (suc (suc (suc (suc r)))))))) l = absurd (omega arith)

pub turned_rotates : (r : ℕ) → r < 8 → Rotates (turned r)
unfolding rotation
turned_rotates =
    let one = quarter_rotates in
    let two = both one one in
    let three : Rotates (turned 3) = same (λ a j. vec (neg_ℤ-neg_ℤ a.y j) (neg_ℤ a.x) a.z) (both one two) in
    by_root (λ r. Rotates (turned r)) none one two three half_rotates (both half_rotates one)
    (same (λ a j. vec (neg_ℤ a.x) (neg_ℤ-neg_ℤ a.y j) (neg_ℤ a.z)) (both half_rotates two))
    (same (λ a j. vec a.y (neg_ℤ-neg_ℤ a.x j) (neg_ℤ a.z)) (both half_rotates three))

pub proper : Proper
unfolding rotation
proper = by_root (λ r. _) refl refl refl refl refl refl refl refl
