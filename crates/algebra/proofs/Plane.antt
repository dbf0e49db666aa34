-- The plane lemma: where a direction p is in front of the plane of P and f reaches p by D, f is not beyond that plane by more than D allows.
-- With q = (P·P) f − (f·P) P: (P·P)(f·p) ≤ q·p, since f·P < 0 ≤ P·p, and q·q = (P·P)((P·P)(f·f) − (f·P)²) < (P·P)² D². So (f·p)² < D² (p·p).
-- An edge of a cone is in front of its three planes. Assumes nothing.
use mathlib.Core.Path.{◌≡◌, refl, sym, subst}
use mathlib.Core.List.{[], ◌∷◌}
use lib.IntN.{ℤ, pos, ◌+ℤ◌, ◌-ℤ◌, ◌*ℤ◌}
use lib.Signed.{◌≤ℤ◌, ◌<ℤ◌}
use Rattle.algebra.proofs.Ring.{con, ◌:+◌, ◌:-◌, ◌:*◌}
use Rattle.algebra.proofs.Order.{≡→≤ℤ}
use Rattle.algebra.proofs.Claim.{◌:≤◌, ◌:<◌, ◌:≡◌, nat, hyp, sq, ◌⊕◌, ◌⊗◌, prove}
use Rattle.algebra.proofs.Inequalities.{`0, `1, false_le, <ℤ→≤ℤ, <ℤ-by-no}
use Rattle.algebra.proofs.Vec.{V3, dot, cross, dot_e, cross_e, ring_v, cauchy_schwarz, dot_nn, difference_bound}
use Rattle.algebra.proofs.Cone.{Reaches}

-- ---- of numbers: N = P·P, a = f·P, c = f·f, F = f·p, y = P·p, n = p·p

-- a is negative and a² ≤ c N: N is positive
normal_positive : (N a c : ℤ) → pos 0 ≤ℤ c → a <ℤ pos 0 → (a *ℤ a) ≤ℤ (c *ℤ N) → pos 0 <ℤ N
normal_positive N a c nn h cs = <ℤ-by-no
    (prove 3
    (λ N a c. record {
      given = (`0 :≤ c) ∷ (a :< `0) ∷ (a :* a :≤ c :* N) ∷ (N :≤ `0) ∷ [];
      goal = `1 :≤ `0;
      cert = hyp 2 ⊕ hyp 0 ⊗ hyp 3 ⊕ hyp 1 ⊗ hyp 1 ⊕ nat 2 ⊗ hyp 1;
    })
    refl N a c nn h cs)

-- (N F)² ≤ (q·p)² ≤ (q·q) n < N² D² n ≤ N² F²
numbers : (N a c F y n D : ℤ) → pos 0 <ℤ n → pos 0 ≤ℤ F → (D *ℤ D *ℤ n) ≤ℤ (F *ℤ F) → pos 0 ≤ℤ y → a <ℤ pos 0 → pos 0 <ℤ N
    → (N *ℤ c) <ℤ (N *ℤ (D *ℤ D) +ℤ a *ℤ a)
    → ((N *ℤ F -ℤ a *ℤ y) *ℤ (N *ℤ F -ℤ a *ℤ y)) ≤ℤ ((N *ℤ N *ℤ c -ℤ pos 2 *ℤ N *ℤ a *ℤ a +ℤ a *ℤ a *ℤ N) *ℤ n) → pos 1 ≤ℤ pos 0
numbers = prove 7
    (λ N a c F y n D. record {
      given = (`0 :< n) ∷ (`0 :≤ F) ∷ (D :* D :* n :≤ F :* F) ∷ (`0 :≤ y) ∷ (a :< `0) ∷ (`0 :< N)
          ∷ (N :* c :< N :* (D :* D) :+ a :* a)
          ∷ ((N :* F :- a :* y) :* (N :* F :- a :* y) :≤ (N :* N :* c :- con (pos 2) :* N :* a :* a :+ a :* a :* N) :* n) ∷ [];
      goal = `1 :≤ `0;
      cert = hyp 7 ⊕ (hyp 5 ⊕ nat 1) ⊗ (hyp 0 ⊕ nat 1) ⊗ hyp 6 ⊕ sq N ⊗ hyp 2 ⊕ sq (a :* y)
          ⊕ nat 2 ⊗ (hyp 5 ⊕ nat 1) ⊗ hyp 1 ⊗ hyp 3 ⊗ (hyp 4 ⊕ nat 1) ⊕ hyp 5 ⊗ hyp 0 ⊕ hyp 5 ⊕ hyp 0;
    })
    refl

-- ---- the lemma

pub beyond_plane : (f P p : V3) (D : ℤ) → pos 0 <ℤ dot p p → Reaches f p D → pos 0 ≤ℤ dot P p
    → dot f P <ℤ pos 0 → (dot P P *ℤ dot f f) <ℤ (dot P P *ℤ (D *ℤ D) +ℤ dot f P *ℤ dot f P) → ⊥
beyond_plane f P p D n near front behind beyond = false_le
    (numbers (dot P P) (dot f P) (dot f f) (dot f p) (dot P p) (dot p p) D n near.front near.reach front behind
    (normal_positive (dot P P) (dot f P) (dot f f) (dot_nn f) behind (cauchy_schwarz f P)) beyond (difference_bound (dot P P) (dot f P) f P p))

-- ---- the edges of a cone

-- a product of a normal with an edge is V or 0
own_edge : (a b c : V3) → dot b (cross c a) ≡ dot a (cross b c)
own_edge = ring_v 3 (λ a b c. dot_e b (cross_e c a) :≡ dot_e a (cross_e b c)) refl

first_edge : (a b : V3) → pos 0 ≡ dot a (cross a b)
first_edge = ring_v 2 (λ a b. `0 :≡ dot_e a (cross_e a b)) refl

second_edge : (a b : V3) → pos 0 ≡ dot b (cross a b)
second_edge = ring_v 2 (λ a b. `0 :≡ dot_e b (cross_e a b)) refl

module _ (a b c : V3) (vol : pos 0 <ℤ dot a (cross b c)) where
  -- the edge b × c is in front of the planes of a, b and c
  pub edge_front : (pos 0 ≤ℤ dot a (cross b c)) × (pos 0 ≤ℤ dot b (cross b c)) × (pos 0 ≤ℤ dot c (cross b c))
  edge_front = (<ℤ→≤ℤ vol, ≡→≤ℤ (first_edge b c), ≡→≤ℤ (second_edge b c))

  -- V is the same for the normals in cyclic order
  pub volume_cyclic : pos 0 <ℤ dot b (cross c a)
  volume_cyclic = subst (λ z. pos 0 <ℤ z) (sym (own_edge a b c)) vol
