-- What `far` uses, of a halfspace f, D and f·f − D², and of a trixel whose b is ahead of its rays b, E and b·b − E²: both vectors are within ±K, D and E
-- are at most K, and what is left of the square length has no sign. D is at most K − 2, and f, a vector, is at least K − 2 long; b is ahead of a ray
-- that it reaches by E, so its length is at least E, by Cauchy and Schwarz. With them b, E and the rest are what a cap holds. Assumes nothing.
use Prim.Native.Nat.{ℕ, ◌*◌, ◌/◌, ◌^◌, ◌≤◌}
use native.Mathlib.Omega.{arith}
use mathlib.Core.Path.{◌≡◌, refl, sym, subst, ◌∙◌}
use mathlib.Core.Bool.{Bool, true, false, cond, ◌&&◌}
use mathlib.Core.List.{[], ◌∷◌}
use Rattle.std.specs.Prelude.{Some}
use lib.Dec.{T, le→leb, leb→le}
use lib.IntN.{ℤ, pos, negsuc, nat_abs, ◌-ℤ◌, ◌*ℤ◌}
use lib.Signed.{non_neg, ◌≤ℤ◌, le_z_yes, yes_non_neg}
use Rattle.algebra.proofs.Sizes.{Upto}
use Rattle.algebra.proofs.Order.{≤ℤ-trans, nn_pos, nn_sq, gap_nn}
use Rattle.algebra.proofs.Ring.{◌:-◌}
use Rattle.algebra.proofs.Claim.{◌:≤◌, hyp, prove}
use Rattle.algebra.proofs.Inequalities.{`0, sq_mono}
use Rattle.algebra.proofs.Sized.{upto_high}
use Rattle.algebra.proofs.Tests.{and_left, le_yes, lt_yes}
use Rattle.algebra.proofs.Vec.{reach_at_most}
use Rattle.vector.specs.declared.Vec3.{Vec3}
use Rattle.vector.specs.Numbers.{Kℕ}
use Rattle.vector.specs.Vectors.{minus, dot, is_vector}
use Rattle.vector.proofs.Sizes.{Small}
use Rattle.vector.proofs.GreatestLaws.{greatest_most}
use Rattle.vector.proofs.QuotLaws.{square_minus}
use Rattle.vector.proofs.SizeLaws.{at_most_minus, between_upto, dot_upto, unit_small}
use Rattle.vector.proofs.VectorLaws.{v3, vector_small, vector_unit_length}
use Rattle.mesh.specs.declared.Trixel.{Trixel}
use Rattle.region.specs.declared.Halfspace.{Halfspace}
use Rattle.region.specs.Building.{is_offset}
use Rattle.classify_prepared.specs.declared.PreparedHalfspace.{PreparedHalfspace}
use Rattle.classify_prepared.specs.declared.TrixelRays.{TrixelRays}
use Rattle.classify_cap.specs.declared.BoundingCap.{BoundingCap}
use Rattle.classify_cap.specs.declared.CapReach.{CapReach}
use Rattle.classify_cap.specs.declared.reach.RayProducts.{RayProducts}
use Rattle.classify.specs.Shape.{square, positive, ray0, e_of, f_of, DOf, ahead, reaches_ray, reaches, b_of, EOf}
use Rattle.classify_prepared.specs.Measures.{SoundHalfspace, RaysOf}
use Rattle.classify_cap.specs.Reach.{greatest_reach, all_positive, ProductsOf}
use Rattle.classify_cap.specs.Middle.{IsReach, IsBoundingCap, cap_ahead, cap_behind}
use Rattle.classify.proofs.WithinApart.{E-reaches}
use Rattle.classify_cap.proofs.ReachLaws.{reach_is_E}

-- ---- what is left of v·v beside e²

pub record Beside (v : Vec3) (e rest : ℤ) : Type 0 where
  pub small : Small v
  pub size : Upto Kℕ e
  pub is : rest ≡ dot v v -ℤ square e
  pub sign : T (non_neg rest)

-- the rest has no sign, and is at most v·v
less_taken : (a b : ℤ) → pos 0 ≤ℤ b → (a -ℤ b) ≤ℤ a
less_taken = prove 2 (λ a b. record { given = (`0 :≤ b) ∷ []; goal = a :- b :≤ a; cert = hyp 0 }) refl

pub unsigned_upto : (z : ℤ) {n : ℕ} → T (non_neg z) → z ≤ℤ pos n → Upto n z
unsigned_upto (pos m) {n} t h = record { le = leb→le m n h.le }
unsigned_upto (negsuc m) t h = absurd t

pub beside_size : {v : Vec3} {e rest : ℤ} → Beside v e rest → Upto (3 * 2 ^ 40) rest
beside_size {v} {e} {rest} h = unsigned_upto rest h.sign
    (subst (λ z. z ≤ℤ pos (3 * 2 ^ 40)) (sym h.is) (≤ℤ-trans (less_taken (dot v v) (square e) (nn_sq e)) (upto_high (dot_upto h.small h.small))))

-- ---- of a halfspace

f_small : (n : Vec3) (t : Bool) → Small n → Small (cond t n (minus n))
f_small n true h = h
f_small n false h = at_most_minus h

f_square : (n : Vec3) (t : Bool) → dot (cond t n (minus n)) (cond t n (minus n)) ≡ dot n n
f_square n true = refl
f_square n false = square_minus n

prepared_beside : (h : Halfspace) → is_vector h.n ≡ true → is_offset h.d ≡ true → Beside (f_of h) (DOf (e_of h)) (dot (f_of h) (f_of h) -ℤ square (DOf (e_of h)))
prepared_beside h v o =
    let e : ℕ = nat_abs h.d in
    let D : ℕ = e * 1048576 / 1048578 in
    let l : e ≤ 1048576 = (between_upto h.d o).le in
    let m : D ≤ 1048574 = omega arith in
    let short : (pos D *ℤ pos D) ≤ℤ (pos 1048574 *ℤ pos 1048574) = sq_mono {a = pos D} {b = pos 1048574} (nn_pos D) (le_z_yes (le→leb D 1048574 m)) in
    record {
      small = f_small h.n (non_neg h.d) (vector_small h.n v);
      size = record { le = omega arith };
      is = refl;
      sign = yes_non_neg (gap_nn (≤ℤ-trans short (subst (λ z. (pos 1048574 *ℤ pos 1048574) ≤ℤ z) (sym (f_square h.n (non_neg h.d))) (vector_unit_length h.n v).low)));
    }

pub sound_beside : {q : PreparedHalfspace} → SoundHalfspace q → Beside q.f q.low q.rest
sound_beside h = subst (λ q. Beside q.f q.low q.rest) (sym h.is) (prepared_beside h.halfspace h.vector h.offset)

-- ---- of a trixel

b_small : (t : Trixel) → Small (b_of t)
unfolding b_of
b_small t = unit_small _

E-size : (t : Trixel) → Upto Kℕ (EOf t)
unfolding EOf
E-size t = record { le = greatest_most (λ n. reaches (b_of t) (pos n) t) Kℕ }

E-beside : (t : Trixel) → ahead (b_of t) t ≡ true → Beside (b_of t) (EOf t) (dot (b_of t) (b_of t) -ℤ square (EOf t))
E-beside t a = record {
  small = b_small t;
  size = E-size t;
  is = refl;
  sign = yes_non_neg
      (gap_nn (reach_at_most (v3 (b_of t)) (v3 (ray0 t)) (EOf t) (lt_yes (and_left (positive (dot (b_of t) (ray0 t))) _ a)) (le_yes (and_left (reaches_ray (b_of t) (EOf t) (ray0 t)) _ (E-reaches t)))));
}

pub cap_small : {t : Trixel} {m : BoundingCap} → IsBoundingCap t m → Small m.b
cap_small {t} h = subst Small (sym h.b) (b_small t)

pub reached : {t : Trixel} {m : BoundingCap} {c : CapReach} → IsBoundingCap t m → m.ahead ≡ Some c → IsReach t m.b c
reached h e = rw e at h.ahead

pub cap_beside : {t : Trixel} {b : Vec3} {m : CapReach} → IsReach t b m → Beside b m.reach m.rest
cap_beside {t} h = rw (h.b, h.reach, h.rest) (E-beside t h.ahead)

-- ---- the caps

module _ {t : Trixel} {s : TrixelRays} {b : Vec3} (h : RaysOf t s) (c : b ≡ b_of t) where
  -- whether b is ahead of the rays of the trixel
  pub ahead_is : all_positive b s ≡ ahead (b_of t) t
  ahead_is = λ i. positive (dot (c i) (h.r0.r i)) && (positive (dot (c i) (h.r1.r i)) && positive (dot (c i) (h.r2.r i)))

  pub reach_of : (p : RayProducts) → (p.s.now ≡ s) → ProductsOf b s p.x0 p.x1 p.x2 → EOf t ≡ pos (greatest_reach p.x0 p.x1 p.x2 p.s.now)
  reach_of p e q =
      reach_is_E t s h p.x0 p.x1 p.x2 (sym (λ i. dot (c i) (h.r0.r i)) ∙ q.r0) (sym (λ i. dot (c i) (h.r1.r i)) ∙ q.r1) (sym (λ i. dot (c i) (h.r2.r i)) ∙ q.r2)
      ∙ (λ i. pos (greatest_reach p.x0 p.x1 p.x2 (sym e i)))

  pub behind_bounds : all_positive b s ≡ false → {r : BoundingCap} → r ≡ cap_behind b → IsBoundingCap t r
  behind_bounds e w = subst (IsBoundingCap t) (sym w)
      (record { b = c; ahead = sym ahead_is ∙ e })

  pub ahead_bounds : (p : RayProducts) → (all_positive b s ≡ true) × (p.s.now ≡ s) × ProductsOf b s p.x0 p.x1 p.x2
      → {r : BoundingCap} → r ≡ cap_ahead b (greatest_reach p.x0 p.x1 p.x2 p.s.now) → IsBoundingCap t r
  ahead_bounds p e w =
      let E = reach_of p e.1 e.2 in
      subst (IsBoundingCap t) (sym w)
      (record {
        b = c;
        ahead = record { b = c; ahead = sym ahead_is ∙ e.0; reach = sym E; rest = λ i. dot (c i) (c i) -ℤ square (sym E i); clearance = refl };
      })
