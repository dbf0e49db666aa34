-- What a passed test says of the rule's trixel and its bends, in numbers with a sign. Assumes nothing.
use Prim.Native.Nat.{ℕ, ◌+◌, ◌*◌}
use mathlib.Core.Path.{◌≡◌, refl, sym, subst, ◌∙◌}
use mathlib.Core.Bool.{Bool, true, ◌&&◌}
use mathlib.Core.List.{[], ◌∷◌}
use lib.Dec.{leb}
use lib.IntN.{ℤ, pos, neg_ℤ, ◌+ℤ◌, ◌-ℤ◌, ◌*ℤ◌}
use lib.Signed.{◌≤ℤ◌}
use Rattle.algebra.proofs.Ring.{con, ◌:+◌, ◌:-◌, ◌:*◌, :neg}
use Rattle.algebra.proofs.Order.{nn_pos}
use Rattle.algebra.proofs.Claim.{◌:≤◌, ◌:≡◌, ring, prove, hyp}
use Rattle.algebra.proofs.Tests.{and_left, and_right, le_yes}
use Rattle.jump.proofs.Jump.{det}
use Rattle.jump.proofs.JumpShape as shape
use Rattle.jump.proofs.JumpVolume.{Shape}
use Rattle.jump.proofs.Lengths.{Long, difference_of}
use Rattle.jump.proofs.UnitLaws.{three}
use Rattle.vector.specs.Numbers.{K}
use Rattle.vector.specs.Vectors.{plus}
use Rattle.mesh_bends.proofs.BendFacts.{Limits, Fit, Octant}
use Rattle.mesh_bends.proofs.Plain.{Corner, Triple, dotted, is_corner, is_edge, is_shaped, above, beneath, is_large, fits_root, sum_length}
use Rattle.mesh_bends.proofs.PlainLaws.{signed, dotted_is, sum_length_is}

-- ---- shape

corner_at : (a : Corner) → is_corner a ≡ true → shape.Corner K (three (signed a))
corner_at a e = record {
  least = subst (λ q. pos 1099507433476 ≤ℤ q) (sym (dotted_is a a)) (le_yes (and_left (leb 1099507433476 (dotted a a)) (leb (dotted a a) 1099513724929) e));
  most = subst (λ q. q ≤ℤ pos 1099513724929) (sym (dotted_is a a)) (le_yes (and_right (leb 1099507433476 (dotted a a)) (leb (dotted a a) 1099513724929) e));
}

-- |a − b|² = a·a + b·b − 2 a·b
difference_square : (a b c x y z : ℤ)
    → (a -ℤ x) *ℤ (a -ℤ x) +ℤ (b -ℤ y) *ℤ (b -ℤ y) +ℤ (c -ℤ z) *ℤ (c -ℤ z)
    ≡ (a *ℤ a +ℤ b *ℤ b +ℤ c *ℤ c) +ℤ (x *ℤ x +ℤ y *ℤ y +ℤ z *ℤ z) -ℤ pos 2 *ℤ (a *ℤ x +ℤ b *ℤ y +ℤ c *ℤ z)
difference_square = ring 6
    (λ a b c x y z. (a :- x) :* (a :- x) :+ (b :- y) :* (b :- y) :+ (c :- z) :* (c :- z)
    :≡ (a :* a :+ b :* b :+ c :* c) :+ (x :* x :+ y :* y :+ z :* z) :- con (pos 2) :* (a :* x :+ b :* y :+ c :* z))
    refl

edge_at : (l : ℕ) (a b : Corner) → is_edge l a b ≡ true → Long (pos l) (difference_of (three (signed a)) (three (signed b)))
edge_at l a b e = record {
  nn = nn_pos l;
  square = subst (λ q. q ≤ℤ pos (l * l))
      (sym (difference_square (signed a).x (signed a).y (signed a).z (signed b).x (signed b).y (signed b).z
      ∙ (λ i. dotted_is a a i +ℤ dotted_is b b i -ℤ pos 2 *ℤ dotted_is a b i)))
      (prove 4 (λ p q r s. record { given = (p :+ q :≤ s :+ con (pos 2) :* r) ∷ []; goal = p :+ q :- con (pos 2) :* r :≤ s; cert = hyp 0 }) refl
      (pos (dotted a a)) (pos (dotted b b)) (pos (dotted a b)) (pos (l * l)) (le_yes e));
}

pub shape_at : (l : ℕ) (t : Triple) → is_shaped l t ≡ true → Shape K (pos l) (three (signed t.a)) (three (signed t.b)) (three (signed t.c))
unfolding is_shaped
shape_at l t e =
    let a : Bool = is_corner t.a in
    let b : Bool = is_corner t.b in
    let c : Bool = is_corner t.c in
    let ab : Bool = is_edge l t.a t.b in
    let bc : Bool = is_edge l t.b t.c in
    let ca : Bool = is_edge l t.c t.a in
    let five : a && b && c && ab && bc ≡ true = and_left (a && b && c && ab && bc) ca e in
    let four : a && b && c && ab ≡ true = and_left (a && b && c && ab) bc five in
    let three : a && b && c ≡ true = and_left (a && b && c) ab four in
    let two : a && b ≡ true = and_left (a && b) c three in
    record {
      corner0 = corner_at t.a (and_left a b two);
      corner1 = corner_at t.b (and_right a b two);
      corner2 = corner_at t.c (and_right (a && b) c three);
      edge01 = edge_at l t.a t.b (and_right (a && b && c) ab four);
      edge12 = edge_at l t.b t.c (and_right (a && b && c && ab) bc five);
      edge20 = edge_at l t.c t.a (and_right (a && b && c && ab && bc) ca e);
    }

-- ---- volume

pub volume_is : (a b c : Corner) → det (three (signed a)) (three (signed b)) (three (signed c)) ≡ pos (above a b c) -ℤ pos (beneath a b c)
volume_is a b c = ring 9
    (λ a b c d e f x y z. (b :* :neg f :- :neg c :* e) :* x :+ (:neg c :* d :- a :* :neg f) :* y :+ (a :* e :- b :* d) :* :neg z
    :≡ (a :* (f :* y) :+ b :* (d :* z) :+ c :* (e :* x)) :- (a :* (e :* z) :+ b :* (f :* x) :+ c :* (d :* y)))
    refl (pos a.x) (pos a.y) (pos a.z) (pos b.x) (pos b.y) (pos b.z) (pos c.x) (pos c.y) (pos c.z)

pub large_at : (part g : ℕ) (t : Triple) → is_large part g t ≡ true
    → (pos part *ℤ pos g) ≤ℤ (pos 1073741824 *ℤ det (three (signed t.a)) (three (signed t.b)) (three (signed t.c)))
unfolding is_large
large_at part g t e = subst (λ q. pos (part * g) ≤ℤ (pos 1073741824 *ℤ q)) (sym (volume_is t.a t.b t.c))
    (prove 4 (λ s p a b. record { given = (s :+ p :* b :≤ p :* a) ∷ []; goal = s :≤ p :* (a :- b); cert = hyp 0 }) refl
    (pos (part * g)) (pos 1073741824) (pos (above t.a t.b t.c)) (pos (beneath t.a t.b t.c)) (le_yes e))

-- ---- bends

pub fit_at : (l : Limits) (a : ℕ) (p q : Corner) → fits_root l a (sum_length p q) ≡ true → Fit l (pos a) (plus (signed p) (signed q))
fit_at l a p q e =
    let n : ℕ = sum_length p q in
    let m : Bool = leb a l.bend in
    let s : Bool = leb (a + 8 * n) (16777216 + l.behind) in
    let b : Bool = leb 16777216 (a + l.ahead + 8 * n) in
    let two : m && s ≡ true = and_left (m && s) b e in
    let same = sym (sum_length_is p q) in
    record {
      least = nn_pos a;
      most = le_yes (and_left m s two);
      behind = subst (λ n. neg_ℤ (pos l.behind) ≤ℤ (pos 8 *ℤ (pos 2 *ℤ K -ℤ pos n) -ℤ pos a)) same
          (prove 3
          (λ a n b. record { given = (a :+ con (pos 8) :* n :≤ con (pos 16777216) :+ b) ∷ []; goal = :neg b :≤ con (pos 8) :* (con (pos 2097152) :- n) :- a; cert = hyp 0 })
          refl (pos a) (pos n) (pos l.behind) (le_yes (and_right m s two)));
      ahead = subst (λ n. (pos 8 *ℤ (pos 2 *ℤ K -ℤ pos n) -ℤ pos a) ≤ℤ pos l.ahead) same
          (prove 3
          (λ a n b. record { given = (con (pos 16777216) :≤ a :+ b :+ con (pos 8) :* n) ∷ []; goal = con (pos 8) :* (con (pos 2097152) :- n) :- a :≤ b; cert = hyp 0 })
          refl (pos a) (pos n) (pos l.ahead) (le_yes (and_right (m && s) b e)));
    }

pub octant_at : (a : Corner) → Octant (signed a)
octant_at a = record { x = nn_pos a.x; y = nn_pos a.y; z = prove 1 (λ z. record { given = (con (pos 0) :≤ z) ∷ []; goal = :neg z :≤ con (pos 0); cert = hyp 0 }) refl (pos a.z) (nn_pos a.z) }
