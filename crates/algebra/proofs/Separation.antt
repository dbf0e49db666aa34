-- The separation lemma: where f and b both reach a direction p, f and b are not far apart. Assumes nothing.
use mathlib.Core.Path.{refl, sym, subst, subst₂}
use mathlib.Core.List.{[], ◌∷◌}
use lib.IntN.{ℤ, pos, ◌-ℤ◌, ◌*ℤ◌}
use lib.Signed.{◌≤ℤ◌, ◌<ℤ◌}
use Rattle.algebra.proofs.Ring.{◌:-◌, ◌:*◌}
use Rattle.algebra.proofs.Order.{nn_mul}
use Rattle.algebra.proofs.Claim.{◌:≤◌, ◌:<◌, nat, hyp, sq, ◌⊕◌, ◌⊗◌, prove}
use Rattle.algebra.proofs.Inequalities.{`0, `1, false_le, sq-≤ℤ}
use Rattle.algebra.proofs.Vec.{V3, dot, cross, lagrange, binet_cauchy, cauchy_schwarz}
use Rattle.algebra.proofs.Cone.{Reaches}

-- the Gram determinant: ((f·b)(p·p) − (f·p)(b·p))² ≤ ((f·f)(p·p) − (f·p)²) ((b·b)(p·p) − (b·p)²)
gram : (f b p : V3)
    → ((dot f b *ℤ dot p p -ℤ dot f p *ℤ dot b p) *ℤ (dot f b *ℤ dot p p -ℤ dot f p *ℤ dot b p))
    ≤ℤ ((dot f f *ℤ dot p p -ℤ dot f p *ℤ dot f p) *ℤ (dot b b *ℤ dot p p -ℤ dot b p *ℤ dot b p))
gram f b p =
    subst (λ z. (z *ℤ z) ≤ℤ ((dot f f *ℤ dot p p -ℤ dot f p *ℤ dot f p) *ℤ (dot b b *ℤ dot p p -ℤ dot b p *ℤ dot b p))) (binet_cauchy f b p)
    (subst₂ (λ u w. (dot (cross f p) (cross b p) *ℤ dot (cross f p) (cross b p)) ≤ℤ (u *ℤ w)) (sym (lagrange f p)) (sym (lagrange b p))
    (cauchy_schwarz (cross f p) (cross b p)))

-- of the numbers N = p·p, F = f·p, B = b·p: D E N ≤ F B
product_bound : (N F B D E : ℤ) → pos 0 <ℤ N → pos 0 ≤ℤ F → pos 0 ≤ℤ B → (D *ℤ D *ℤ N) ≤ℤ (F *ℤ F) → (E *ℤ E *ℤ N) ≤ℤ (B *ℤ B) → (D *ℤ E *ℤ N) ≤ℤ (F *ℤ B)
product_bound N F B D E n hF hB hD hE = sq-≤ℤ (nn_mul hF hB)
    (prove 5
    (λ N F B D E. record {
      given = (`0 :< N) ∷ (D :* D :* N :≤ F :* F) ∷ (E :* E :* N :≤ B :* B) ∷ [];
      goal = D :* E :* N :* (D :* E :* N) :≤ F :* B :* (F :* B);
      cert = hyp 1 ⊗ sq B ⊕ sq D ⊗ (hyp 0 ⊕ nat 1) ⊗ hyp 2;
    })
    refl N F B D E n hD hE)

-- and c = f·b, a = f·f, b = b·b
numbers : (N F B c a b D E : ℤ) → pos 0 <ℤ N → (D *ℤ E *ℤ N) ≤ℤ (F *ℤ B) → (D *ℤ D *ℤ N) ≤ℤ (F *ℤ F) → (E *ℤ E *ℤ N) ≤ℤ (B *ℤ B)
    → (F *ℤ F) ≤ℤ (a *ℤ N) → (B *ℤ B) ≤ℤ (b *ℤ N)
    → ((c *ℤ N -ℤ F *ℤ B) *ℤ (c *ℤ N -ℤ F *ℤ B)) ≤ℤ ((a *ℤ N -ℤ F *ℤ F) *ℤ (b *ℤ N -ℤ B *ℤ B))
    → pos 0 <ℤ (D *ℤ E -ℤ c) → ((a -ℤ D *ℤ D) *ℤ (b -ℤ E *ℤ E)) <ℤ ((D *ℤ E -ℤ c) *ℤ (D *ℤ E -ℤ c)) → pos 1 ≤ℤ pos 0
numbers = prove 8
    (λ N F B c a b D E. record {
      given = (`0 :< N) ∷ (D :* E :* N :≤ F :* B) ∷ (D :* D :* N :≤ F :* F) ∷ (E :* E :* N :≤ B :* B)
          ∷ (F :* F :≤ a :* N) ∷ (B :* B :≤ b :* N)
          ∷ ((c :* N :- F :* B) :* (c :* N :- F :* B) :≤ (a :* N :- F :* F) :* (b :* N :- B :* B))
          ∷ (`0 :< D :* E :- c) ∷ ((a :- D :* D) :* (b :- E :* E) :< (D :* E :- c) :* (D :* E :- c)) ∷ [];
      goal = `1 :≤ `0;
      cert = sq N ⊗ hyp 8 ⊕ hyp 0 ⊗ hyp 0 ⊕ nat 2 ⊗ hyp 0 ⊕ hyp 4 ⊗ hyp 3 ⊕ hyp 2 ⊗ hyp 5 ⊕ hyp 2 ⊗ hyp 3 ⊕ hyp 6
          ⊕ hyp 1 ⊗ (nat 2 ⊗ (hyp 0 ⊕ nat 1) ⊗ (hyp 7 ⊕ nat 1) ⊕ hyp 1);
    })
    refl

pub separation : (f b p : V3) (D E : ℤ) → pos 0 <ℤ dot p p → Reaches f p D → Reaches b p E
    → pos 0 <ℤ (D *ℤ E -ℤ dot f b)
    → ((dot f f -ℤ D *ℤ D) *ℤ (dot b b -ℤ E *ℤ E)) <ℤ ((D *ℤ E -ℤ dot f b) *ℤ (D *ℤ E -ℤ dot f b)) → ⊥
separation f b p D E n hf hb k apart = false_le
    (numbers (dot p p) (dot f p) (dot b p) (dot f b) (dot f f) (dot b b) D E n
    (product_bound (dot p p) (dot f p) (dot b p) D E n hf.front hb.front hf.reach hb.reach) hf.reach hb.reach
    (cauchy_schwarz f p) (cauchy_schwarz b p) (gram f b p) k apart)
