-- How far a value moves when its numbers do: where |f| ≤ n, f a is within n |a − b| of f b; a sum or a difference moves by no more than its parts
-- together; and what was beyond a margin is still beyond what is left of it. Assumes nothing.
use Prim.Native.Nat.{ℕ, ◌+◌, ◌*◌, ◌≤◌}
use native.Mathlib.Nat.{le_refl}
use mathlib.Core.Path.{refl, subst}
use mathlib.Core.List.{[], ◌∷◌}
use lib.IntN.{ℤ, pos, neg_ℤ, nat_abs, ◌+ℤ◌, ◌-ℤ◌, ◌*ℤ◌}
use lib.Signed.{◌≤ℤ◌}
use Rattle.algebra.proofs.Sizes.{Upto}
use Rattle.algebra.proofs.Ring.{◌:+◌, ◌:-◌, ◌:*◌, :neg}
use Rattle.algebra.proofs.Claim.{◌:≤◌, ◌:≡◌, hyp, ◌⊕◌, ring, prove}
use Rattle.algebra.proofs.Sized.{upto_mono, upto_add, upto_sub, upto_mul, upto_low}

-- x moved to z, by n at most
pub record Moved (n : ℕ) (x z : ℤ) : Type 0 where
  pub by : Upto n (z -ℤ x)

pub moved_mono : {m n : ℕ} {x z : ℤ} → m ≤ n → Moved m x z → Moved n x z
moved_mono l p = record { by = upto_mono l p.by }

pub moved_mul : {n : ℕ} {f : ℤ} → Upto n f → (a b : ℤ) → Moved (n * nat_abs (b -ℤ a)) (f *ℤ a) (f *ℤ b)
moved_mul {n} {f} h a b = record {
  by = subst (Upto (n * nat_abs (b -ℤ a))) (ring 3 (λ f a b. f :* (b :- a) :≡ f :* b :- f :* a) refl f a b) (upto_mul h (record { le = le_refl (nat_abs (b -ℤ a)) }));
}

module _ {m n : ℕ} {w x y z : ℤ} (p : Moved m w x) (q : Moved n y z) where
  pub moved_add : Moved (m + n) (w +ℤ y) (x +ℤ z)
  moved_add = record { by = subst (Upto (m + n)) (ring 4 (λ w x y z. (x :- w) :+ (z :- y) :≡ (x :+ z) :- (w :+ y)) refl w x y z) (upto_add p.by q.by) }

  pub moved_sub : Moved (m + n) (w -ℤ y) (x -ℤ z)
  moved_sub = record { by = subst (Upto (m + n)) (ring 4 (λ w x y z. (x :- w) :- (z :- y) :≡ (x :- z) :- (w :- y)) refl w x y z) (upto_sub p.by q.by) }

-- x was at or beyond the margin l and moved by s at most: it is still at or beyond k, where k + s ≤ l
beyond_left : (s k l x z : ℤ) → (k +ℤ s) ≤ℤ l → l ≤ℤ x → neg_ℤ s ≤ℤ (z -ℤ x) → k ≤ℤ z
beyond_left = prove 5
    (λ s k l x z. record {
      given = (k :+ s :≤ l) ∷ (l :≤ x) ∷ (:neg s :≤ z :- x) ∷ [];
      goal = k :≤ z;
      cert = hyp 0 ⊕ hyp 1 ⊕ hyp 2;
    })
    refl

pub still_beyond : {n : ℕ} {k l x z : ℤ} → (k +ℤ pos n) ≤ℤ l → l ≤ℤ x → Moved n x z → k ≤ℤ z
still_beyond {n} {k} {l} {x} {z} h e p = beyond_left (pos n) k l x z h e (upto_low p.by)
