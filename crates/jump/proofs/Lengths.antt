-- Lengths of vectors without roots: Long a x says that x is at most a long. Sums, multiples, products; each by Cauchy and Schwarz. Assumes nothing.
use mathlib.Core.Path.{◌≡◌, refl, sym, subst}
use mathlib.Core.List.{[], ◌∷◌}
use lib.IntN.{ℤ, pos, ◌+ℤ◌, ◌-ℤ◌, ◌*ℤ◌}
use lib.Signed.{◌≤ℤ◌, ◌<ℤ◌}
use Rattle.algebra.proofs.Ring.{Expr, con, ◌:+◌, ◌:-◌, ◌:*◌, :neg}
use Rattle.algebra.proofs.Order.{nn_mul, nn_add, nn_sq, ≤ℤ-trans}
use Rattle.algebra.proofs.Claim.{◌:≤◌, ◌:<◌, ◌:≡◌, nat, hyp, sq, ◌⊕◌, ◌⊗◌, ring, prove}
use Rattle.algebra.proofs.Inequalities.{`0, ≤ℤ-mul, sq-≤ℤ, cancel-≤ℤ, <ℤ-mul}
use Rattle.algebra.proofs.Vec.{V3, dot, cross, dot_e, cross_e, ring_v, prove_v, dot_nn, cauchy_schwarz}
use Rattle.jump.proofs.Jump.{Size}

abbrev `2 : Expr
`2 = con (pos 2)

pub record Long (a : ℤ) (x : V3) : Type 0 where
  pub nn : pos 0 ≤ℤ a
  pub square : dot x x ≤ℤ (a *ℤ a)

abbrev pub sum_of : V3 → V3 → V3
sum_of a b = record { x = a.x +ℤ b.x; y = a.y +ℤ b.y; z = a.z +ℤ b.z }

abbrev pub difference_of : V3 → V3 → V3
difference_of a b = record { x = a.x -ℤ b.x; y = a.y -ℤ b.y; z = a.z -ℤ b.z }

abbrev pub times : ℤ → V3 → V3
times s a = record { x = s *ℤ a.x; y = s *ℤ a.y; z = s *ℤ a.z }

-- a difference and its opposite are equally long
pub flip : {c : ℤ} (a b : V3) → Long c (difference_of a b) → Long c (difference_of b a)
flip {c} a b p = record {
  nn = p.nn;
  square = subst (λ z. z ≤ℤ (c *ℤ c))
      (ring 6 (λ a b c x y z. (a :- x) :* (a :- x) :+ (b :- y) :* (b :- y) :+ (c :- z) :* (c :- z) :≡ (x :- a) :* (x :- a) :+ (y :- b) :* (y :- b) :+ (z :- c) :* (z :- c)) refl a.x a.y a.z b.x b.y b.z)
      p.square;
}

-- a square that is at most a² is of a number that is at most a in size
pub by_square : {a x : ℤ} → pos 0 ≤ℤ a → (x *ℤ x) ≤ℤ (a *ℤ a) → Size a x
by_square {a} {x} h k = record {
  low = prove 2 (λ a x. record { given = (:neg x :≤ a) ∷ []; goal = :neg a :≤ x; cert = hyp 0 }) refl a x
      (sq-≤ℤ h (subst (λ z. z ≤ℤ (a *ℤ a)) (ring 1 (λ x. x :* x :≡ :neg x :* :neg x) refl x) k));
  high = sq-≤ℤ h k;
}

pub long_dot : {a b : ℤ} {x y : V3} → Long a x → Long b y → Size (a *ℤ b) (dot x y)
long_dot {a} {b} {x} {y} p q = by_square (nn_mul p.nn q.nn)
    (≤ℤ-trans (cauchy_schwarz x y)
    (subst (λ z. (dot x x *ℤ dot y y) ≤ℤ z) (ring 2 (λ a b. a :* a :* (b :* b) :≡ a :* b :* (a :* b)) refl a b)
    (≤ℤ-mul (dot_nn x) p.square (dot_nn y) q.square)))

sum_square : (x y : V3) → dot (sum_of x y) (sum_of x y) ≡ dot x x +ℤ pos 2 *ℤ dot x y +ℤ dot y y
sum_square = ring_v 2
    (λ x y. dot_e (record { x = x.x :+ y.x; y = x.y :+ y.y; z = x.z :+ y.z }) (record { x = x.x :+ y.x; y = x.y :+ y.y; z = x.z :+ y.z })
    :≡ dot_e x x :+ `2 :* dot_e x y :+ dot_e y y) refl

pub long_sum : {a b : ℤ} {x y : V3} → Long a x → Long b y → Long (a +ℤ b) (sum_of x y)
long_sum {a} {b} {x} {y} p q = record {
  nn = nn_add p.nn q.nn;
  square = subst (λ z. z ≤ℤ ((a +ℤ b) *ℤ (a +ℤ b))) (sym (sum_square x y))
      (prove 5
      (λ a b s t r. record {
        given = (s :≤ a :* a) ∷ (t :≤ b :* b) ∷ (r :≤ a :* b) ∷ [];
        goal = s :+ `2 :* r :+ t :≤ (a :+ b) :* (a :+ b);
        cert = hyp 0 ⊕ hyp 1 ⊕ nat 2 ⊗ hyp 2;
      })
      refl a b (dot x x) (dot y y) (dot x y) p.square q.square (long_dot p q).high);
}

times_square : (s : ℤ) (x : V3) → dot (times s x) (times s x) ≡ s *ℤ s *ℤ dot x x
times_square s x = ring 4 (λ s x y z. s :* x :* (s :* x) :+ s :* y :* (s :* y) :+ s :* z :* (s :* z) :≡ s :* s :* (x :* x :+ y :* y :+ z :* z)) refl s x.x x.y x.z

size_square : {n s : ℤ} → Size n s → (s *ℤ s) ≤ℤ (n *ℤ n)
size_square {n} {s} h = prove 2 (λ n s. record { given = (:neg n :≤ s) ∷ (s :≤ n) ∷ []; goal = s :* s :≤ n :* n; cert = hyp 0 ⊗ hyp 1 }) refl n s h.low h.high

pub long_times : {n a s : ℤ} {x : V3} → pos 0 ≤ℤ n → Size n s → Long a x → Long (n *ℤ a) (times s x)
long_times {n} {a} {s} {x} h k p = record {
  nn = nn_mul h p.nn;
  square = subst (λ z. z ≤ℤ (n *ℤ a *ℤ (n *ℤ a))) (sym (times_square s x))
      (subst (λ z. (s *ℤ s *ℤ dot x x) ≤ℤ z) (ring 2 (λ n a. n :* n :* (a :* a) :≡ n :* a :* (n :* a)) refl n a)
      (≤ℤ-mul (nn_sq s) (size_square k) (dot_nn x) p.square));
}

pub long_cross : {a b : ℤ} {x y : V3} → Long a x → Long b y → Long (a *ℤ b) (cross x y)
long_cross {a} {b} {x} {y} p q = record {
  nn = nn_mul p.nn q.nn;
  square = ≤ℤ-trans (cross_square x y)
      (subst (λ z. (dot x x *ℤ dot y y) ≤ℤ z) (ring 2 (λ a b. a :* a :* (b :* b) :≡ a :* b :* (a :* b)) refl a b)
      (≤ℤ-mul (dot_nn x) p.square (dot_nn y) q.square));
}
  where
    cross_square : (x y : V3) → dot (cross x y) (cross x y) ≤ℤ (dot x x *ℤ dot y y)
    cross_square = prove_v 2 (λ x y. record { given = []; goal = dot_e (cross_e x y) (cross_e x y) :≤ dot_e x x :* dot_e y y; cert = sq (dot_e x y) }) refl

-- a positive factor that is at least s: N ≤ s a
pub long_divided : {s f N a : ℤ} {x : V3} → pos 0 <ℤ s → s ≤ℤ f → N ≤ℤ (s *ℤ a) → pos 0 ≤ℤ a → Long N (times f x) → Long a x
long_divided {s} {f} {N} {a} {x} hs hf hN ha p = record {
  nn = ha;
  square = cancel-≤ℤ (<ℤ-mul hs hs)
      (≤ℤ-trans (≤ℤ-mul (nn_sq s) (≤ℤ-mul s_nn hf s_nn hf) (dot_nn x) (same_le (dot x x)))
      (subst (λ z. z ≤ℤ (s *ℤ s *ℤ (a *ℤ a))) (times_square f x)
      (≤ℤ-trans p.square (subst (λ z. (N *ℤ N) ≤ℤ z) (ring 2 (λ s a. s :* a :* (s :* a) :≡ s :* s :* (a :* a)) refl s a) (≤ℤ-mul p.nn hN p.nn hN)))));
}
  where
    s_nn : pos 0 ≤ℤ s
    s_nn = prove 1 (λ s. record { given = (`0 :< s) ∷ []; goal = `0 :≤ s; cert = hyp 0 ⊕ nat 1 }) refl s hs

    same_le : (z : ℤ) → z ≤ℤ z
    same_le = prove 1 (λ z. record { given = []; goal = z :≤ z; cert = nat 0 }) refl

-- components
module _ {a : ℤ} {x : V3} (p : Long a x) where
  pub long_x : Size a x.x
  long_x = by_square p.nn (≤ℤ-trans
      (prove 3 (λ x y z. record { given = []; goal = x :* x :≤ x :* x :+ y :* y :+ z :* z; cert = sq y ⊕ sq z }) refl x.x x.y x.z) p.square)

  pub long_y : Size a x.y
  long_y = by_square p.nn (≤ℤ-trans
      (prove 3 (λ x y z. record { given = []; goal = y :* y :≤ x :* x :+ y :* y :+ z :* z; cert = sq x ⊕ sq z }) refl x.x x.y x.z) p.square)

  pub long_z : Size a x.z
  long_z = by_square p.nn (≤ℤ-trans
      (prove 3 (λ x y z. record { given = []; goal = z :* z :≤ x :* x :+ y :* y :+ z :* z; cert = sq x ⊕ sq y }) refl x.x x.y x.z) p.square)

-- from components: 3 n² ≤ a²
pub long_components : {n a : ℤ} {x : V3} → pos 0 ≤ℤ a → (pos 3 *ℤ (n *ℤ n)) ≤ℤ (a *ℤ a) → Size n x.x → Size n x.y → Size n x.z → Long a x
long_components {n} {a} {x} h k p q r = record {
  nn = h;
  square = prove 5
      (λ n a x y z. record {
        given = (con (pos 3) :* (n :* n) :≤ a :* a) ∷ (x :* x :≤ n :* n) ∷ (y :* y :≤ n :* n) ∷ (z :* z :≤ n :* n) ∷ [];
        goal = x :* x :+ y :* y :+ z :* z :≤ a :* a;
        cert = hyp 0 ⊕ hyp 1 ⊕ hyp 2 ⊕ hyp 3;
      })
      refl n a x.x x.y x.z k (size_square p) (size_square q) (size_square r);
}
