-- Vectors of three integers, and the same over expressions, with the identities that the geometry rests on. Assumes nothing.
use mathlib.Core.Path.{◌≡◌, refl, subst}
use mathlib.Core.List.{List, [], ◌∷◌, ◌++◌}
use Prim.Native.Nat.{ℕ, zero, suc}
use lib.IntN.{ℤ, pos, ◌+ℤ◌, ◌-ℤ◌, ◌*ℤ◌}
use lib.Signed.{◌≤ℤ◌, ◌<ℤ◌}
use Rattle.algebra.proofs.Ring.{Expr, var, con, ◌:+◌, ◌:-◌, ◌:*◌, nil}
use Rattle.algebra.proofs.Claim.{Fact, ◌:≤◌, ◌:≡◌, nat, hyp, sq, ◌⊕◌, Holds, Claim, Proves, leftover, leftover_of, prove, prove_at}
use Rattle.algebra.proofs.Inequalities.{cancel-≤ℤ, factor_positive}

pub record V3 : Type 0 where
  pub x : ℤ
  pub y : ℤ
  pub z : ℤ

abbrev pub dot : V3 → V3 → ℤ
dot a b = a.x *ℤ b.x +ℤ a.y *ℤ b.y +ℤ a.z *ℤ b.z

abbrev pub cross : V3 → V3 → V3
cross a b = record { x = a.y *ℤ b.z -ℤ a.z *ℤ b.y; y = a.z *ℤ b.x -ℤ a.x *ℤ b.z; z = a.x *ℤ b.y -ℤ a.y *ℤ b.x }

-- the same, of expressions
pub record E3 : Type 0 where
  pub x : Expr
  pub y : Expr
  pub z : Expr

abbrev pub dot_e : E3 → E3 → Expr
dot_e a b = a.x :* b.x :+ a.y :* b.y :+ a.z :* b.z

abbrev pub cross_e : E3 → E3 → E3
cross_e a b = record { x = a.y :* b.z :- a.z :* b.y; y = a.z :* b.x :- a.x :* b.z; z = a.x :* b.y :- a.y :* b.x }

-- ---- the provers over vectors

abbrev pub FunV : ℕ → Type 0 → Type 0
FunV zero X = X
FunV (suc n) X = E3 → FunV n X

module _ {X : Type 0} where
  abbrev pub open_v : (n i : ℕ) → FunV n X → X
  open_v zero i k = k
  open_v (suc n) i k = open_v n (suc (suc (suc i))) (k (record { x = var i; y = var (suc i); z = var (suc (suc i)) }))

abbrev pub AllV : ℕ → (List ℤ → Type 0) → List ℤ → Type 0
AllV zero P ρ = P ρ
AllV (suc n) P ρ = (a : V3) → AllV n P (ρ ++ (a.x ∷ a.y ∷ a.z ∷ []))

all_v : (n : ℕ) (P : List ℤ → Type 0) → ((ρ : List ℤ) → P ρ) → (ρ : List ℤ) → AllV n P ρ
all_v zero P h ρ = h ρ
all_v (suc n) P h ρ = λ a. all_v n P h (ρ ++ (a.x ∷ a.y ∷ a.z ∷ []))

pub ring_v : (n : ℕ) (k : FunV n Fact) → leftover [] (open_v n 0 k) (nat 0) ≡ nil → AllV n (λ ρ. Holds ρ (open_v n 0 k)) []
ring_v n k e = all_v n (λ ρ. Holds ρ (open_v n 0 k)) (λ ρ. prove_at (record { given = []; goal = open_v n 0 k; cert = nat 0 }) e ρ) []

pub prove_v : (n : ℕ) (k : FunV n Claim) → leftover_of (open_v n 0 k) ≡ nil → AllV n (Proves (open_v n 0 k)) []
prove_v n k e = all_v n (Proves (open_v n 0 k)) (λ ρ. prove_at (open_v n 0 k) e ρ) []

-- ---- the identities

-- (a·a)(b·b) − (a·b)² = |a×b|²
pub lagrange : (a b : V3) → dot a a *ℤ dot b b -ℤ dot a b *ℤ dot a b ≡ dot (cross a b) (cross a b)
lagrange = ring_v 2 (λ a b. dot_e a a :* dot_e b b :- dot_e a b :* dot_e a b :≡ dot_e (cross_e a b) (cross_e a b)) refl

-- (f×p)·(b×p) = (f·b)(p·p) − (f·p)(b·p)
pub binet_cauchy : (f b p : V3) → dot (cross f p) (cross b p) ≡ dot f b *ℤ dot p p -ℤ dot f p *ℤ dot b p
binet_cauchy = ring_v 3 (λ f b p. dot_e (cross_e f p) (cross_e b p) :≡ dot_e f b :* dot_e p p :- dot_e f p :* dot_e b p) refl

-- The dual basis: with r0 = P1×P2, r1 = P2×P0, r2 = P0×P1 and V = P0·r0, V p = (P0·p) r0 + (P1·p) r1 + (P2·p) r2. Said of the product with
-- any f; an axis for f gives it coordinate by coordinate.
pub dual_basis : (f P0 P1 P2 p : V3)
    → dot P0 (cross P1 P2) *ℤ dot f p ≡ dot P0 p *ℤ dot f (cross P1 P2) +ℤ dot P1 p *ℤ dot f (cross P2 P0) +ℤ dot P2 p *ℤ dot f (cross P0 P1)
dual_basis = ring_v 5
    (λ f P0 P1 P2 p.
    dot_e P0 (cross_e P1 P2) :* dot_e f p :≡ dot_e P0 p :* dot_e f (cross_e P1 P2) :+ dot_e P1 p :* dot_e f (cross_e P2 P0) :+ dot_e P2 p :* dot_e f (cross_e P0 P1))
    refl

-- (a·b)² ≤ (a·a)(b·b), and 0 ≤ a·a
pub cauchy_schwarz : (a b : V3) → (dot a b *ℤ dot a b) ≤ℤ (dot a a *ℤ dot b b)
cauchy_schwarz = prove_v 2
    (λ a b. record {
      given = [];
      goal = dot_e a b :* dot_e a b :≤ dot_e a a :* dot_e b b;
      cert = sq (cross_e a b).x ⊕ sq (cross_e a b).y ⊕ sq (cross_e a b).z;
    })
    refl

pub dot_nn : (a : V3) → pos 0 ≤ℤ dot a a
dot_nn = prove_v 1 (λ a. record { given = []; goal = con (pos 0) :≤ dot_e a a; cert = sq a.x ⊕ sq a.y ⊕ sq a.z }) refl

-- a vector reaches no further than its length: 0 < f·r and G² (r·r) ≤ (f·r)² give G² ≤ f·f
pub reach_at_most : (f r : V3) (G : ℤ) → pos 0 <ℤ dot f r → (G *ℤ G *ℤ dot r r) ≤ℤ (dot f r *ℤ dot f r) → (G *ℤ G) ≤ℤ dot f f
reach_at_most f r G h k =
    let c = cauchy_schwarz f r in
    cancel-≤ℤ (factor_positive (dot f r) (dot f f) (dot r r) h c (dot_nn f))
    (prove 4
    (λ G s n m. record { given = (G :* G :* n :≤ s :* s) ∷ (s :* s :≤ m :* n) ∷ []; goal = n :* (G :* G) :≤ n :* m; cert = hyp 0 ⊕ hyp 1 })
    refl G (dot f r) (dot r r) (dot f f) k c)

-- ---- S f − M b

abbrev less : ℤ → ℤ → V3 → V3 → V3
less S M f b = record { x = S *ℤ f.x -ℤ M *ℤ b.x; y = S *ℤ f.y -ℤ M *ℤ b.y; z = S *ℤ f.z -ℤ M *ℤ b.z }

abbrev less_e : Expr → Expr → E3 → E3 → E3
less_e S M f b = record { x = S :* f.x :- M :* b.x; y = S :* f.y :- M :* b.y; z = S :* f.z :- M :* b.z }

less_along : (S M : ℤ) (f b p : V3) → dot (less S M f b) p ≡ S *ℤ dot f p -ℤ M *ℤ dot b p
less_along S M f b p = ring_v 4
    (λ f b p s. dot_e (less_e s.x s.y f b) p :≡ s.x :* dot_e f p :- s.y :* dot_e b p)
    refl f b p (record { x = S; y = M; z = pos 0 })

less_square : (S M : ℤ) (f b : V3) → dot (less S M f b) (less S M f b) ≡ S *ℤ S *ℤ dot f f -ℤ pos 2 *ℤ S *ℤ M *ℤ dot f b +ℤ M *ℤ M *ℤ dot b b
less_square S M f b = ring_v 3
    (λ f b s. dot_e (less_e s.x s.y f b) (less_e s.x s.y f b)
    :≡ s.x :* s.x :* dot_e f f :- con (pos 2) :* s.x :* s.y :* dot_e f b :+ s.y :* s.y :* dot_e b b)
    refl f b (record { x = S; y = M; z = pos 0 })

-- Cauchy and Schwarz of S f − M b and p
pub difference_bound : (S M : ℤ) (f b p : V3)
    → ((S *ℤ dot f p -ℤ M *ℤ dot b p) *ℤ (S *ℤ dot f p -ℤ M *ℤ dot b p))
    ≤ℤ ((S *ℤ S *ℤ dot f f -ℤ pos 2 *ℤ S *ℤ M *ℤ dot f b +ℤ M *ℤ M *ℤ dot b b) *ℤ dot p p)
difference_bound S M f b p =
    subst (λ z. (z *ℤ z) ≤ℤ ((S *ℤ S *ℤ dot f f -ℤ pos 2 *ℤ S *ℤ M *ℤ dot f b +ℤ M *ℤ M *ℤ dot b b) *ℤ dot p p)) (less_along S M f b p)
    (subst (λ z. (dot (less S M f b) p *ℤ dot (less S M f b) p) ≤ℤ (z *ℤ dot p p)) (less_square S M f b) (cauchy_schwarz (less S M f b) p))
