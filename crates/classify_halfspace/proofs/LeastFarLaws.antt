-- Far without E. Where D and f·f − D² have no sign, f is far from a number on: with d = n − m the difference of the two sides grows from m to n by
-- D d (2(D m − c) + D d) + p d (d + 2m). So f is far at E where the least number at which it is far is reached, and not where it is not. Assumes nothing.
use Prim.Native.Nat.{ℕ, ◌+◌, ◌*◌, ◌/◌, ◌≤◌}
use native.Mathlib.Omega.{arith}
use mathlib.Core.Path.{◌≡◌, refl, sym, subst, ◌∙◌}
use mathlib.Core.Bool.{Bool, true, false, true≢false, ◌&&◌}
use mathlib.Core.List.{[], ◌∷◌}
use lib.Dec.{T, le→leb}
use lib.IntN.{ℤ, pos, negsuc, nat_abs, ◌-ℤ◌, ◌*ℤ◌}
use lib.Signed.{non_neg, lt_z, ◌≤ℤ◌, ◌<ℤ◌, le_z_yes}
use Rattle.algebra.proofs.Ring.{◌:-◌, ◌:*◌}
use Rattle.algebra.proofs.Order.{≤ℤ-trans, nn_pos, nn_sq}
use Rattle.algebra.proofs.Sized.{upto_high, no_sign}
use Rattle.algebra.proofs.Claim.{◌:≤◌, ◌:<◌, nat, hyp, ◌⊕◌, ◌⊗◌, prove}
use Rattle.algebra.proofs.Inequalities.{`0}
use Rattle.algebra.proofs.Tests.{split, and_left, and_right, and_both, and_no_left, lt_yes, yes_lt}
use Rattle.vector.specs.Numbers.{Kℕ, greatest}
use Rattle.vector.specs.Vectors.{dot}
use Rattle.vector.proofs.GreatestLaws.{greatest_most}
use Rattle.mesh.specs.declared.Trixel.{Trixel}
use Rattle.classify_prepared.specs.declared.PreparedHalfspace.{PreparedHalfspace}
use Rattle.classify_prepared.specs.declared.TrixelRays.{TrixelRays}
use Rattle.classify.specs.Shape.{square, positive, reaches, b_of, EOf, far}
use Rattle.classify_prepared.specs.Measures.{SoundHalfspace, Rest}
use Rattle.classify_cap.specs.Reach.{reach_all, greatest_reach}
use Rattle.classify_cap.proofs.ReachLaws.{reach_zero, reached_most, unreached_above}
use Rattle.classify_cap.proofs.CapLaws.{sound_beside, unsigned_upto}
use Rattle.vector.specs.declared.Vec3.{Vec3}
use Rattle.vector.proofs.Sizes.{Small}
use Rattle.vector.proofs.SizeLaws.{dot_upto}
use Rattle.classify_halfspace.proofs.FarLaws.{rest_prepared}
use Rattle.classify_halfspace.proofs.EdgeLaws.{normal_rest}
use Rattle.classify_halfspace.specs.LeastFar.{far_by, FarBounds, LeastFar}

-- ---- from a number on

front_up : (D c m n : ℤ) → pos 0 ≤ℤ D → m ≤ℤ n → pos 0 <ℤ (D *ℤ m -ℤ c) → pos 0 <ℤ (D *ℤ n -ℤ c)
front_up = prove 4
    (λ D c m n. record {
      given = (`0 :≤ D) ∷ (m :≤ n) ∷ (`0 :< D :* m :- c) ∷ [];
      goal = `0 :< D :* n :- c;
      cert = hyp 2 ⊕ hyp 0 ⊗ hyp 1;
    })
    refl

squares_up : (D p c B m n : ℤ) → pos 0 ≤ℤ D → pos 0 ≤ℤ p → m ≤ℤ n → pos 0 ≤ℤ m → pos 0 <ℤ (D *ℤ m -ℤ c)
    → (p *ℤ (B -ℤ m *ℤ m)) <ℤ ((D *ℤ m -ℤ c) *ℤ (D *ℤ m -ℤ c)) → (p *ℤ (B -ℤ n *ℤ n)) <ℤ ((D *ℤ n -ℤ c) *ℤ (D *ℤ n -ℤ c))
squares_up = prove 6
    (λ D p c B m n. record {
      given = (`0 :≤ D) ∷ (`0 :≤ p) ∷ (m :≤ n) ∷ (`0 :≤ m) ∷ (`0 :< D :* m :- c) ∷ (p :* (B :- m :* m) :< (D :* m :- c) :* (D :* m :- c)) ∷ [];
      goal = p :* (B :- n :* n) :< (D :* n :- c) :* (D :* n :- c);
      cert = hyp 5 ⊕ hyp 0 ⊗ hyp 2 ⊗ (nat 2 ⊗ hyp 4 ⊕ nat 2 ⊕ hyp 0 ⊗ hyp 2) ⊕ hyp 1 ⊗ hyp 2 ⊗ (hyp 2 ⊕ nat 2 ⊗ hyp 3);
    })
    refl

module _ {D p : ℤ} (c B : ℤ) (d : pos 0 ≤ℤ D) (r : pos 0 ≤ℤ p) where
  pub far_up : (m n : ℕ) → m ≤ n → far_by D p c B m ≡ true → far_by D p c B n ≡ true
  unfolding far_by
  far_up m n h e =
      let l : pos m ≤ℤ pos n = le_z_yes (le→leb m n h) in
      let a = lt_yes (and_left (positive (D *ℤ pos m -ℤ c)) _ e) in
      let b = lt_yes (and_right (positive (D *ℤ pos m -ℤ c)) _ e) in
      and_both (yes_lt (front_up D c (pos m) (pos n) d l a)) (yes_lt (squares_up D p c B (pos m) (pos n) d r l (nn_pos m) a b))

  -- where it is not far, it is not below
  pub near_down : (m n : ℕ) → m ≤ n → far_by D p c B n ≡ false → far_by D p c B m ≡ false
  near_down m n h e = split (far_by D p c B m) (λ t. absurd (true≢false (sym (far_up m n h t) ∙ e))) (λ f. f)

  -- a number at which f is far, and not at the one before
  pub least_far : (m n : ℕ) → n ≡ m + 1 → n ≤ Kℕ → far_by D p c B m ≡ false → far_by D p c B n ≡ true → LeastFar D p c B n
  least_far m n e k a b = record { most = k; far = b; below = λ i l. near_down i m (omega arith) a }

  -- ---- at the greatest number that is reached

  module _ (x0 x1 x2 : ℕ) (s : TrixelRays) where
    pub far_at_E : (n : ℕ) → n ≤ Kℕ → far_by D p c B n ≡ true → reach_all x0 x1 x2 s n ≡ true → far_by D p c B (greatest_reach x0 x1 x2 s) ≡ true
    far_at_E n k f e = far_up n (greatest_reach x0 x1 x2 s) (reached_most x0 x1 x2 s n k e) f

    pub far_from_zero : far_by D p c B 0 ≡ true → far_by D p c B (greatest_reach x0 x1 x2 s) ≡ true
    far_from_zero f = far_at_E 0 (omega arith) f (reach_zero x0 x1 x2 s)

    -- the least number decides
    pub by_least : (n : ℕ) → LeastFar D p c B n → {t : Bool} → t ≡ reach_all x0 x1 x2 s n → t ≡ far_by D p c B (greatest_reach x0 x1 x2 s)
    by_least n l {t} e = e ∙ split (reach_all x0 x1 x2 s n)
        (λ y. y ∙ sym (far_at_E n l.most l.far y))
        (λ y. y ∙ sym (l.below (greatest_reach x0 x1 x2 s) (unreached_above x0 x1 x2 s n y)))

-- ---- the test as a program makes it

-- b·b − n², where it has no sign
less_taken : (a b : ℤ) → pos 0 ≤ℤ b → (a -ℤ b) ≤ℤ a
less_taken = prove 2 (λ a b. record { given = (`0 :≤ b) ∷ []; goal = a :- b :≤ a; cert = hyp 0 }) refl

pub left_rest : {B : ℤ} → Rest B → (n : ℕ) → lt_z (B -ℤ square (pos n)) (pos 0) ≡ false → Rest (B -ℤ square (pos n))
left_rest {B} h n e =
    let sign = no_sign (B -ℤ square (pos n)) e in
    record { sign = sign; size = unsigned_upto (B -ℤ square (pos n)) sign (≤ℤ-trans (less_taken B (square (pos n)) (nn_sq (pos n))) (upto_high h.size)) }

-- and where it is negative
negative : (p r z : ℤ) → pos 0 ≤ℤ p → r <ℤ pos 0 → pos 0 <ℤ z → (p *ℤ r) <ℤ (z *ℤ z)
negative = prove 3
    (λ p r z. record {
      given = (`0 :≤ p) ∷ (r :< `0) ∷ (`0 :< z) ∷ [];
      goal = p :* r :< z :* z;
      cert = hyp 2 ⊗ hyp 2 ⊕ nat 2 ⊗ hyp 2 ⊕ hyp 0 ⊗ hyp 1 ⊕ hyp 0;
    })
    refl

pub by_front : (D p c B : ℤ) → pos 0 ≤ℤ p → (n : ℕ) → lt_z (B -ℤ square (pos n)) (pos 0) ≡ true → positive (D *ℤ pos n -ℤ c) ≡ far_by D p c B n
unfolding far_by
by_front D p c B h n e = split (positive (D *ℤ pos n -ℤ c))
    (λ z. z ∙ sym (and_both z (yes_lt (negative p (B -ℤ square (pos n)) (D *ℤ pos n -ℤ c) h (lt_yes e) (lt_yes z)))))
    (λ z. z ∙ sym (and_no_left _ z))

pub by_squares : (D p c B : ℤ) (n : ℕ) → positive (D *ℤ pos n -ℤ c) && lt_z (p *ℤ (B -ℤ square (pos n))) (square (D *ℤ pos n -ℤ c)) ≡ far_by D p c B n
unfolding far_by
by_squares D p c B n = refl

-- ---- a halfspace and a trixel

low_sign : {q : PreparedHalfspace} → SoundHalfspace q → pos 0 ≤ℤ q.low
low_sign h = subst (λ q. pos 0 ≤ℤ q.low) (sym h.is) (nn_pos (nat_abs h.halfspace.d * 1048576 / 1048578))

pub rest_sign : {z : ℤ} → Rest z → pos 0 ≤ℤ z
rest_sign {z} h = nonneg z h.sign
  where
    nonneg : (z : ℤ) → T (non_neg z) → pos 0 ≤ℤ z
    nonneg (pos n) t = nn_pos n
    nonneg (negsuc n) t = absurd t

pub far_bounds : {q : PreparedHalfspace} {b : Vec3} → SoundHalfspace q → Small b → FarBounds q.low q.rest (dot q.f b) (dot b b)
far_bounds h s = record { low = (sound_beside h).size; sign = low_sign h; rest = rest_prepared h; along = dot_upto (sound_beside h).small s; square = normal_rest s }

pub far_by_law : {q : PreparedHalfspace} → SoundHalfspace q → (t : Trixel) {n : ℕ} → EOf t ≡ pos n
    → far_by q.low q.rest (dot q.f (b_of t)) (dot (b_of t) (b_of t)) n ≡ far q.f q.low (b_of t) (EOf t)
unfolding far_by
far_by_law {q} h t E =
    λ i. positive (q.low *ℤ sym E i -ℤ dot q.f (b_of t))
    && lt_z ((sound_beside h).is i *ℤ (dot (b_of t) (b_of t) -ℤ square (sym E i))) (square (q.low *ℤ sym E i -ℤ dot q.f (b_of t)))

-- E is at most K
pub near_at_K : {q : PreparedHalfspace} → SoundHalfspace q → (t : Trixel) → far_by q.low q.rest (dot q.f (b_of t)) (dot (b_of t) (b_of t)) Kℕ ≡ false
    → far q.f q.low (b_of t) (EOf t) ≡ false
unfolding far_by EOf
near_at_K {q} h t e =
    let c = dot q.f (b_of t) in
    let B = dot (b_of t) (b_of t) in
    let E : ℕ = greatest (λ n. reaches (b_of t) (pos n) t) Kℕ in
    (λ i. positive (q.low *ℤ pos E -ℤ c) && lt_z (sym (sound_beside h).is i *ℤ (B -ℤ square (pos E))) (square (q.low *ℤ pos E -ℤ c)))
    ∙ near_down c B (low_sign h) (rest_sign (rest_prepared h)) E Kℕ (greatest_most (λ n. reaches (b_of t) (pos n) t) Kℕ) e
