-- The cone lemma: what holds at the three edges of a cone holds in all of it. The cone is of the p with Pi·p ≥ 0; its edges are
-- r0 = P1×P2, r1 = P2×P0, r2 = P0×P1, and V = P0·r0 is positive. Assumes nothing.
use mathlib.Core.Path.{◌≡◌, refl, sym, subst}
use mathlib.Core.List.{[], ◌∷◌}
use lib.IntN.{ℤ, pos, ◌+ℤ◌, ◌*ℤ◌}
use lib.Signed.{◌≤ℤ◌, ◌<ℤ◌}
use Rattle.algebra.proofs.Ring.{Expr, con, ◌:+◌, ◌:*◌, :neg}
use Rattle.algebra.proofs.Order.{nn_mul, nn_add}
use Rattle.algebra.proofs.Claim.{◌:≤◌, ◌:≡◌, nat, hyp, sq, ◌⊕◌, ◌⊗◌, eqn, prove}
use Rattle.algebra.proofs.Inequalities.{`0, sq-≤ℤ, cancel-≤ℤ, cancel_nn, <ℤ-mul}
use Rattle.algebra.proofs.Vec.{V3, dot, cross, E3, dot_e, cross_e, ring_v, dual_basis, cauchy_schwarz, dot_nn}

-- ---- of numbers

-- G² n ≤ s², G² m ≤ t² and d² ≤ n m: G² d ≤ s t
pair_bound : (s t n m d G : ℤ) → pos 0 ≤ℤ s → pos 0 ≤ℤ t → (G *ℤ G *ℤ n) ≤ℤ (s *ℤ s) → (G *ℤ G *ℤ m) ≤ℤ (t *ℤ t) → pos 0 ≤ℤ n → (d *ℤ d) ≤ℤ (n *ℤ m)
    → (G *ℤ G *ℤ d) ≤ℤ (s *ℤ t)
pair_bound s t n m d G hs ht hn hm nn cs = sq-≤ℤ (nn_mul hs ht)
    (prove 6
    (λ s t n m d G. record {
      given = (G :* G :* n :≤ s :* s) ∷ (G :* G :* m :≤ t :* t) ∷ (`0 :≤ n) ∷ (d :* d :≤ n :* m) ∷ [];
      goal = G :* G :* d :* (G :* G :* d) :≤ s :* t :* (s :* t);
      cert = hyp 0 ⊗ sq t ⊕ sq G ⊗ hyp 2 ⊗ hyp 1 ⊕ sq (G :* G) ⊗ hyp 3;
    })
    refl s t n m d G hn hm nn cs)

-- the bound of a weighted sum of three, from the bounds of the three and of their pairs
sum_bound : (a b c s t u n m o d e g G : ℤ) → pos 0 ≤ℤ a → pos 0 ≤ℤ b → pos 0 ≤ℤ c
    → (G *ℤ G *ℤ n) ≤ℤ (s *ℤ s) → (G *ℤ G *ℤ m) ≤ℤ (t *ℤ t) → (G *ℤ G *ℤ o) ≤ℤ (u *ℤ u)
    → (G *ℤ G *ℤ d) ≤ℤ (s *ℤ t) → (G *ℤ G *ℤ e) ≤ℤ (s *ℤ u) → (G *ℤ G *ℤ g) ≤ℤ (t *ℤ u)
    → (G *ℤ G *ℤ (a *ℤ a *ℤ n +ℤ b *ℤ b *ℤ m +ℤ c *ℤ c *ℤ o +ℤ pos 2 *ℤ (a *ℤ b *ℤ d +ℤ a *ℤ c *ℤ e +ℤ b *ℤ c *ℤ g)))
    ≤ℤ ((a *ℤ s +ℤ b *ℤ t +ℤ c *ℤ u) *ℤ (a *ℤ s +ℤ b *ℤ t +ℤ c *ℤ u))
sum_bound = prove 13
    (λ a b c s t u n m o d e g G. record {
      given = (`0 :≤ a) ∷ (`0 :≤ b) ∷ (`0 :≤ c)
          ∷ (G :* G :* n :≤ s :* s) ∷ (G :* G :* m :≤ t :* t) ∷ (G :* G :* o :≤ u :* u)
          ∷ (G :* G :* d :≤ s :* t) ∷ (G :* G :* e :≤ s :* u) ∷ (G :* G :* g :≤ t :* u) ∷ [];
      goal = G :* G :* (a :* a :* n :+ b :* b :* m :+ c :* c :* o :+ con (pos 2) :* (a :* b :* d :+ a :* c :* e :+ b :* c :* g))
          :≤ (a :* s :+ b :* t :+ c :* u) :* (a :* s :+ b :* t :+ c :* u);
      cert = sq a ⊗ hyp 3 ⊕ sq b ⊗ hyp 4 ⊕ sq c ⊗ hyp 5 ⊕ nat 2 ⊗ (hyp 0 ⊗ hyp 1 ⊗ hyp 6 ⊕ hyp 0 ⊗ hyp 2 ⊗ hyp 7 ⊕ hyp 1 ⊗ hyp 2 ⊗ hyp 8);
    })
    refl

-- W x = S, W² n = Q and G² Q ≤ S²: W² (G² n) ≤ W² x²
rescale : (W x n S Q G : ℤ) → W *ℤ x ≡ S → W *ℤ W *ℤ n ≡ Q → (G *ℤ G *ℤ Q) ≤ℤ (S *ℤ S) → (W *ℤ W *ℤ (G *ℤ G *ℤ n)) ≤ℤ (W *ℤ W *ℤ (x *ℤ x))
rescale = prove 6
    (λ W x n S Q G. record {
      given = (W :* x :≡ S) ∷ (W :* W :* n :≡ Q) ∷ (G :* G :* Q :≤ S :* S) ∷ [];
      goal = W :* W :* (G :* G :* n) :≤ W :* W :* (x :* x);
      cert = hyp 2 ⊕ eqn 0 (:neg (S :+ W :* x)) ⊕ eqn 1 (G :* G);
    })
    refl

-- ---- of vectors

-- |a r + b s + c t|²
abbrev sq_sum : ℤ → ℤ → ℤ → V3 → V3 → V3 → ℤ
sq_sum a b c r s t =
    a *ℤ a *ℤ dot r r +ℤ b *ℤ b *ℤ dot s s +ℤ c *ℤ c *ℤ dot t t +ℤ pos 2 *ℤ (a *ℤ b *ℤ dot r s +ℤ a *ℤ c *ℤ dot r t +ℤ b *ℤ c *ℤ dot s t)

abbrev sq_sum_e : Expr → Expr → Expr → E3 → E3 → E3 → Expr
sq_sum_e a b c r s t =
    a :* a :* dot_e r r :+ b :* b :* dot_e s s :+ c :* c :* dot_e t t :+ con (pos 2) :* (a :* b :* dot_e r s :+ a :* c :* dot_e r t :+ b :* c :* dot_e s t)

-- V² (p·p) = |Σ (Pi·p) ri|²
norms : (P0 P1 P2 p : V3)
    → dot P0 (cross P1 P2) *ℤ dot P0 (cross P1 P2) *ℤ dot p p ≡ sq_sum (dot P0 p) (dot P1 p) (dot P2 p) (cross P1 P2) (cross P2 P0) (cross P0 P1)
norms = ring_v 4
    (λ P0 P1 P2 p.
    dot_e P0 (cross_e P1 P2) :* dot_e P0 (cross_e P1 P2) :* dot_e p p :≡ sq_sum_e (dot_e P0 p) (dot_e P1 p) (dot_e P2 p) (cross_e P1 P2) (cross_e P2 P0) (cross_e P0 P1))
    refl

edge_pair : (f r s : V3) (G : ℤ) → pos 0 ≤ℤ dot f r → pos 0 ≤ℤ dot f s → (G *ℤ G *ℤ dot r r) ≤ℤ (dot f r *ℤ dot f r) → (G *ℤ G *ℤ dot s s) ≤ℤ (dot f s *ℤ dot f s)
    → (G *ℤ G *ℤ dot r s) ≤ℤ (dot f r *ℤ dot f s)
edge_pair f r s G hr hs gr gs = pair_bound (dot f r) (dot f s) (dot r r) (dot s s) (dot r s) G hr hs gr gs (dot_nn r) (cauchy_schwarz r s)

-- ---- the lemma

-- f reaches the direction r by G: f·r ≥ 0 and (f·r)² ≥ G² |r|²
pub record Reaches (f r : V3) (G : ℤ) : Type 0 where
  pub front : pos 0 ≤ℤ dot f r
  pub reach : (G *ℤ G *ℤ dot r r) ≤ℤ (dot f r *ℤ dot f r)

pub cone : (f P0 P1 P2 p : V3) (G : ℤ) → pos 0 <ℤ dot P0 (cross P1 P2) → pos 0 ≤ℤ dot P0 p → pos 0 ≤ℤ dot P1 p → pos 0 ≤ℤ dot P2 p
    → Reaches f (cross P1 P2) G → Reaches f (cross P2 P0) G → Reaches f (cross P0 P1) G → Reaches f p G
cone f P0 P1 P2 p G vol in0 in1 in2 e0 e1 e2 = record {
  front = cancel_nn vol
      (subst (λ z. pos 0 ≤ℤ z) (sym (dual_basis f P0 P1 P2 p)) (nn_add (nn_add (nn_mul in0 e0.front) (nn_mul in1 e1.front)) (nn_mul in2 e2.front)));
  reach = cancel-≤ℤ (<ℤ-mul vol vol)
      (rescale (dot P0 (cross P1 P2)) (dot f p) (dot p p) _ _ G (dual_basis f P0 P1 P2 p) (norms P0 P1 P2 p)
      (sum_bound _ _ _ _ _ _ _ _ _ _ _ _ G in0 in1 in2 e0.reach e1.reach e2.reach
      (edge_pair f (cross P1 P2) (cross P2 P0) G e0.front e1.front e0.reach e1.reach)
      (edge_pair f (cross P1 P2) (cross P0 P1) G e0.front e2.front e0.reach e2.reach)
      (edge_pair f (cross P2 P0) (cross P0 P1) G e1.front e2.front e1.reach e2.reach)));
}
