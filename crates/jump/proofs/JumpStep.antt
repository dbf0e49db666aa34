-- The step of the jump's invariant, one component. Flat numbers z and numbers y of the child at three corners, each `Moved`: what follows p at the flat points
-- by z follows it at the new corners by y, with the bounds of the next level. Assumes nothing.
--   Twice             the flat numbers at the flat points give 2 P
--   factor_positive   e is multiplied by N = 2 K T − X > 0, T = y0 + y1 + y2, X what is left of the bending in all
--   sum_large         T is at least the next level's floor
--   most_held         D l / e stays below the next level's bound
--   near_step         the step
use mathlib.Core.Path.{◌≡◌, refl}
use mathlib.Core.List.{[], ◌∷◌}
use lib.IntN.{ℤ, pos, ◌+ℤ◌, ◌-ℤ◌, ◌*ℤ◌}
use lib.Signed.{◌≤ℤ◌, ◌<ℤ◌, <ℤ-≤ℤ_trans}
use Rattle.algebra.proofs.Ring.{Expr, con, ◌:+◌, ◌:-◌, ◌:*◌, :neg}
use Rattle.algebra.proofs.Order.{nn_mul, nn_add, ≤ℤ-trans}
use Rattle.algebra.proofs.Claim.{◌:≤◌, ◌:<◌, nat, hyp, ◌⊕◌, ◌⊗◌, prove}
use Rattle.algebra.proofs.Inequalities.{`0, `1, <ℤ-mul, <ℤ→≤ℤ, cancel-≤ℤ}
use Rattle.jump.proofs.Jump.{Size, size_mul, bent_identity, pair_most, pairs_size}
use Rattle.jump.proofs.Jump.{factor_least, step_positive, ahead_nn, held_nn, step_ahead, step_behind, step_held}
use Rattle.jump.proofs.JumpInvariant.{Near, Cornered, Moved, Bounds, Level, left_of}

abbrev `2 : Expr
`2 = con (pos 2)

abbrev `8 : Expr
`8 = con (pos 8)

abbrev `16 : Expr
`16 = con (pos 16)

abbrev pub Twice : (z0 z1 z2 m0 m1 m2 P : ℤ) → Type 0
Twice z0 z1 z2 m0 m1 m2 P = z0 *ℤ m0 +ℤ z1 *ℤ m1 +ℤ z2 *ℤ m2 ≡ pos 2 *ℤ P

flat_nn : {k A Γ0 Γ1 h z y : ℤ} → Moved k A Γ0 Γ1 h z y → pos 0 ≤ℤ z
flat_nn m = ≤ℤ-trans m.nn m.most

module _ {k u L A Γ0 Γ1 : ℤ} {b b' : Bounds} (c : Level k u L A Γ0 Γ1 b b') where
  abbrev j : ℤ
  j = pos 16 *ℤ k -ℤ A

  abbrev g : ℤ
  g = Γ0 +ℤ Γ1 +ℤ pos 1

  abbrev d : ℤ
  d = pos 16 *ℤ k *ℤ A

  k_nn : pos 0 ≤ℤ k
  k_nn = <ℤ→≤ℤ c.k_positive

  sixteen : pos 0 <ℤ (pos 16 *ℤ k)
  sixteen = prove 1 (λ k. record { given = (`0 :< k) ∷ []; goal = `0 :< `16 :* k; cert = nat 16 ⊗ hyp 0 ⊕ nat 15 }) refl k c.k_positive

  d_nn : pos 0 ≤ℤ d
  d_nn = nn_mul (<ℤ→≤ℤ sixteen) c.A-nn

  both_nn : pos 0 ≤ℤ (Γ0 +ℤ Γ1)
  both_nn = nn_add c.Γ0-nn c.Γ1-nn

  g_nn : pos 0 ≤ℤ g
  g_nn = prove 1 (λ g. record { given = (`0 :≤ g) ∷ []; goal = `0 :≤ g :+ `1; cert = hyp 0 ⊕ nat 1 }) refl (Γ0 +ℤ Γ1) both_nn

  g_l_nn : pos 0 ≤ℤ (g *ℤ L)
  g_l_nn = nn_mul g_nn c.L-nn

  j_positive : pos 0 <ℤ j
  j_positive = prove 2 (λ g j. record { given = (`0 :≤ g) ∷ (g :< j) ∷ []; goal = `0 :< j; cert = hyp 0 ⊕ hyp 1 }) refl g j g_nn c.positive

  j_nn : pos 0 ≤ℤ j
  j_nn = <ℤ→≤ℤ j_positive

  eight_times : pos 0 <ℤ (pos 8 *ℤ j)
  eight_times = prove 1 (λ j. record { given = (`0 :< j) ∷ []; goal = `0 :< `8 :* j; cert = nat 8 ⊗ hyp 0 ⊕ nat 7 }) refl j j_positive

  squared : pos 0 <ℤ (pos 24 *ℤ j *ℤ j)
  squared = <ℤ-mul
      (prove 1 (λ j. record { given = (`0 :< j) ∷ []; goal = `0 :< con (pos 24) :* j; cert = nat 24 ⊗ hyp 0 ⊕ nat 23 }) refl j j_positive) j_positive

  -- two corners
  pair_size : {h0 z0 y0 h1 z1 y1 : ℤ} → Moved k A Γ0 Γ1 h0 z0 y0 → Moved k A Γ0 Γ1 h1 z1 y1
      → Size ((Γ0 +ℤ Γ1) *ℤ (z0 *ℤ z1) +ℤ d *ℤ (z0 +ℤ z1)) (pos 8 *ℤ (left_of k h0 z0 y0 *ℤ y1 -ℤ left_of k h1 z1 y1 *ℤ y0))
  pair_size {h0} {z0} {y0} {h1} {z1} {y1} m0 m1 =
      let x0 : ℤ = left_of k h0 z0 y0 in
      let x1 : ℤ = left_of k h1 z1 y1 in
      record {
        low = prove 8
            (λ g d z0 z1 x0 y0 x1 y1. record {
              given = (`8 :* (x1 :* y0 :- x0 :* y1) :≤ g :* (z1 :* z0) :+ d :* (z1 :+ z0)) ∷ [];
              goal = :neg (g :* (z0 :* z1) :+ d :* (z0 :+ z1)) :≤ `8 :* (x0 :* y1 :- x1 :* y0);
              cert = hyp 0;
            })
            refl (Γ0 +ℤ Γ1) d z0 z1 x0 y0 x1 y1
            (pair_most Γ0 Γ1 d x1 y1 z1 x0 y0 z0 c.Γ0-nn c.Γ1-nn d_nn m1.nn m1.most m0.nn m0.most m1.high m0.low);
        high = pair_most Γ0 Γ1 d x0 y0 z0 x1 y1 z1 c.Γ0-nn c.Γ1-nn d_nn m0.nn m0.most m1.nn m1.most m0.high m1.low;
      }

  module _ {z0 z1 z2 y0 y1 y2 h0 h1 h2 : ℤ} (m0 : Moved k A Γ0 Γ1 h0 z0 y0) (m1 : Moved k A Γ0 Γ1 h1 z1 y1) (m2 : Moved k A Γ0 Γ1 h2 z2 y2)
      (large : b.floor ≤ℤ (z0 +ℤ z1 +ℤ z2)) where
    abbrev S : ℤ
    S = z0 +ℤ z1 +ℤ z2

    abbrev T : ℤ
    T = y0 +ℤ y1 +ℤ y2

    abbrev x0 : ℤ
    x0 = left_of k h0 z0 y0

    abbrev x1 : ℤ
    x1 = left_of k h1 z1 y1

    abbrev x2 : ℤ
    x2 = left_of k h2 z2 y2

    abbrev factor : ℤ
    factor = pos 2 *ℤ k *ℤ T -ℤ (x0 +ℤ x1 +ℤ x2)

    S-nn : pos 0 ≤ℤ S
    S-nn = nn_add (nn_add (flat_nn m0) (flat_nn m1)) (flat_nn m2)

    -- what rounding adds is small
    small : (pos 6 *ℤ d) ≤ℤ S
    small = ≤ℤ-trans c.rounded large

    left : (pos 8 *ℤ (x0 +ℤ x1 +ℤ x2)) ≤ℤ (g *ℤ S)
    left = prove 9
        (λ a c d z0 z1 z2 x0 x1 x2. record {
          given = (`0 :≤ a) ∷ (`0 :≤ d) ∷ (`0 :≤ z0 :+ z1 :+ z2) ∷ (con (pos 6) :* d :≤ z0 :+ z1 :+ z2)
              ∷ (`8 :* x0 :≤ c :* z0 :+ d) ∷ (`8 :* x1 :≤ c :* z1 :+ d) ∷ (`8 :* x2 :≤ c :* z2 :+ d) ∷ [];
          goal = `8 :* (x0 :+ x1 :+ x2) :≤ (a :+ c :+ `1) :* (z0 :+ z1 :+ z2);
          cert = hyp 4 ⊕ hyp 5 ⊕ hyp 6 ⊕ hyp 0 ⊗ hyp 2 ⊕ hyp 3 ⊕ nat 3 ⊗ hyp 1;
        })
        refl Γ0 Γ1 d z0 z1 z2 x0 x1 x2 c.Γ0-nn d_nn S-nn small m0.high m1.high m2.high

    lost_most : (j *ℤ S) ≤ℤ (pos 16 *ℤ k *ℤ T)
    lost_most = prove 8
        (λ k j z0 z1 z2 y0 y1 y2. record {
          given = (j :* z0 :≤ `16 :* k :* y0) ∷ (j :* z1 :≤ `16 :* k :* y1) ∷ (j :* z2 :≤ `16 :* k :* y2) ∷ [];
          goal = j :* (z0 :+ z1 :+ z2) :≤ `16 :* k :* (y0 :+ y1 :+ y2);
          cert = hyp 0 ⊕ hyp 1 ⊕ hyp 2;
        })
        refl k j z0 z1 z2 y0 y1 y2 m0.lost m1.lost m2.lost

    pub sum_large : b'.floor ≤ℤ T
    sum_large = cancel-≤ℤ sixteen (≤ℤ-trans c.falls (≤ℤ-trans more lost_most))
      where
        more : (j *ℤ b.floor) ≤ℤ (j *ℤ S)
        more = prove 3 (λ j f S. record { given = (`0 :≤ j) ∷ (f :≤ S) ∷ []; goal = j :* f :≤ j :* S; cert = hyp 0 ⊗ hyp 1 }) refl j b.floor S j_nn large

    pub sum_positive : pos 0 <ℤ T
    sum_positive = <ℤ-≤ℤ_trans c.floor_positive sum_large

    T-nn : pos 0 ≤ℤ T
    T-nn = <ℤ→≤ℤ sum_positive

    least : (pos 16 *ℤ k *ℤ T *ℤ (j -ℤ g)) ≤ℤ (pos 8 *ℤ j *ℤ factor)
    least = factor_least k j g S T (x0 +ℤ x1 +ℤ x2) j_nn g_nn left lost_most

    pub factor_positive : pos 0 <ℤ factor
    factor_positive = step_positive k j g T factor c.k_positive j_nn sum_positive c.positive least

    pub most_held : (D e l : ℤ) → pos 0 ≤ℤ e → (D *ℤ l) ≤ℤ (e *ℤ b.most) → (D *ℤ (pos 2 *ℤ k *ℤ T *ℤ l)) ≤ℤ (e *ℤ factor *ℤ b'.most)
    most_held D e l e_nn held = cancel-≤ℤ eight_times
        (step_held k j g D e l b.most b'.most T factor k_nn j_nn e_nn T-nn
        (held_nn b.most b'.most j g c.most_nn j_nn c.positive c.grows_most) held c.grows_most least)

    module _ (P : ℤ) {n0 n1 n2 w0 w1 w2 : ℤ}
        (c0 : Cornered k h0 n0 w0) (c1 : Cornered k h1 n1 w1) (c2 : Cornered k h2 n2 w2)
        (w01 : Size L (w0 -ℤ w1)) (w02 : Size L (w0 -ℤ w2)) (w12 : Size L (w1 -ℤ w2))
        (flat : Twice z0 z1 z2 n0 n1 n2 P) where
      abbrev Q : ℤ
      Q = y0 *ℤ w0 +ℤ y1 *ℤ w1 +ℤ y2 *ℤ w2

      abbrev B : ℤ
      B = (x0 *ℤ y1 -ℤ x1 *ℤ y0) *ℤ (w0 -ℤ w1) +ℤ (x0 *ℤ y2 -ℤ x2 *ℤ y0) *ℤ (w0 -ℤ w2) +ℤ (x1 *ℤ y2 -ℤ x2 *ℤ y1) *ℤ (w1 -ℤ w2)

      abbrev R : ℤ
      R = z0 *ℤ c0.rest +ℤ z1 *ℤ c1.rest +ℤ z2 *ℤ c2.rest

      moved : factor *ℤ Q ≡ pos 2 *ℤ k *ℤ T *ℤ P +ℤ (B -ℤ T *ℤ R)
      moved = bent_identity k x0 x1 x2 y0 y1 y2 z0 z1 z2 n0 n1 n2 w0 w1 w2 h0 h1 h2 c0.rest c1.rest c2.rest P
          c0.is c1.is c2.is flat refl refl refl

      pairs : Size (g *ℤ L *ℤ (S *ℤ S)) (pos 24 *ℤ B)
      pairs = pairs_size (Γ0 +ℤ Γ1) d L z0 z1 z2 (x0 *ℤ y1 -ℤ x1 *ℤ y0) (x0 *ℤ y2 -ℤ x2 *ℤ y0) (x1 *ℤ y2 -ℤ x2 *ℤ y1) (w0 -ℤ w1) (w0 -ℤ w2) (w1 -ℤ w2)
          both_nn c.L-nn S-nn small
          (size_mul (pair_size m0 m1) w01) (size_mul (pair_size m0 m2) w02) (size_mul (pair_size m1 m2) w12)

      rests_nn : pos 0 ≤ℤ R
      rests_nn = nn_add (nn_add (nn_mul (flat_nn m0) c0.nn) (nn_mul (flat_nn m1) c1.nn)) (nn_mul (flat_nn m2) c2.nn)

      rests_most : R ≤ℤ factor
      rests_most = prove 13
          (λ k z0 z1 z2 y0 y1 y2 h0 h1 h2 r0 r1 r2. record {
            given = (`0 :≤ z0) ∷ (`0 :≤ z1) ∷ (`0 :≤ z2) ∷ (r0 :≤ `2 :* k :- h0) ∷ (r1 :≤ `2 :* k :- h1) ∷ (r2 :≤ `2 :* k :- h2) ∷ [];
            goal = z0 :* r0 :+ z1 :* r1 :+ z2 :* r2
                :≤ `2 :* k :* (y0 :+ y1 :+ y2)
                :- (h0 :* z0 :- `2 :* k :* (z0 :- y0) :+ (h1 :* z1 :- `2 :* k :* (z1 :- y1)) :+ (h2 :* z2 :- `2 :* k :* (z2 :- y2)));
            cert = hyp 0 ⊗ hyp 3 ⊕ hyp 1 ⊗ hyp 4 ⊕ hyp 2 ⊗ hyp 5;
          })
          refl k z0 z1 z2 y0 y1 y2 h0 h1 h2 c0.rest c1.rest c2.rest (flat_nn m0) (flat_nn m1) (flat_nn m2) c0.most c1.most c2.most

      pub near_step : {e l p : ℤ} → pos 0 ≤ℤ e → Near u b.low b.high e l S P p
          → Near u b'.low b'.high (e *ℤ factor) (pos 2 *ℤ k *ℤ T *ℤ l) T Q p
      near_step {e} {l} {p} e_nn n = record {
        behind = cancel-≤ℤ squared
            (step_behind k u b.low b'.low j g L e l S T factor P Q p B R k_nn c.u_nn c.low_nn c.more j_nn g_l_nn e_nn S-nn T-nn
            moved n.behind pairs.low rests_most lost_most least c.grows_low);
        ahead = cancel-≤ℤ squared
            (step_ahead k u b.high b'.high j g L e l S T factor P Q p B R k_nn c.u_nn c.high_nn
            (ahead_nn k u b.high b'.high j g L k_nn c.u_nn c.high_nn j_positive g_l_nn c.positive c.grows_high) j_nn g_l_nn e_nn S-nn T-nn
            moved n.ahead pairs.high rests_nn lost_most least c.grows_high);
      }
