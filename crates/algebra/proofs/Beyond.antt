-- Beyond a bound no squares need to be compared: r² ≥ S, r ≤ E and M ≥ 2²¹ r give p S < M² for p up to 3·2⁴⁰, and S G ≤ M E for G up to 2²¹.
-- Assumes nothing.
use mathlib.Core.Path.{refl}
use mathlib.Core.List.{[], ◌∷◌}
use lib.IntN.{ℤ, pos, ◌*ℤ◌}
use lib.Signed.{◌≤ℤ◌, ◌<ℤ◌}
use Rattle.algebra.proofs.Ring.{con, ◌:*◌}
use Rattle.algebra.proofs.Claim.{◌:≤◌, ◌:<◌, nat, hyp, ◌⊕◌, ◌⊗◌, prove}
use Rattle.algebra.proofs.Inequalities.{`0}

pub beyond_square : (M S r p : ℤ) → (pos 2097152 *ℤ r) ≤ℤ M → S ≤ℤ (r *ℤ r) → p ≤ℤ pos 3298534883328 → pos 0 <ℤ S → pos 0 ≤ℤ r → (p *ℤ S) <ℤ (M *ℤ M)
beyond_square = prove 4
    (λ M S r p. record {
      given = (con (pos 2097152) :* r :≤ M) ∷ (S :≤ r :* r) ∷ (p :≤ con (pos 3298534883328)) ∷ (`0 :< S) ∷ (`0 :≤ r) ∷ [];
      goal = p :* S :< M :* M;
      cert = hyp 0 ⊗ (hyp 0 ⊕ nat 4194304 ⊗ hyp 4) ⊕ nat 4398046511104 ⊗ hyp 1 ⊕ hyp 2 ⊗ hyp 3 ⊕ hyp 2 ⊕ nat 1099511627776 ⊗ hyp 3 ⊕ nat 1099511627775;
    })
    refl

pub beyond_edges : (M S r E G : ℤ) → (pos 2097152 *ℤ r) ≤ℤ M → S ≤ℤ (r *ℤ r) → r ≤ℤ E → G ≤ℤ pos 2097152 → pos 0 <ℤ S → pos 0 ≤ℤ r → (S *ℤ G) ≤ℤ (M *ℤ E)
beyond_edges = prove 5
    (λ M S r E G. record {
      given = (con (pos 2097152) :* r :≤ M) ∷ (S :≤ r :* r) ∷ (r :≤ E) ∷ (G :≤ con (pos 2097152)) ∷ (`0 :< S) ∷ (`0 :≤ r) ∷ [];
      goal = S :* G :≤ M :* E;
      cert = hyp 0 ⊗ (hyp 2 ⊕ hyp 5) ⊕ nat 2097152 ⊗ hyp 5 ⊗ hyp 2 ⊕ nat 2097152 ⊗ hyp 1 ⊕ (hyp 4 ⊕ nat 1) ⊗ hyp 3;
    })
    refl

pub beyond_front : (M S r : ℤ) → (pos 2097152 *ℤ r) ≤ℤ M → S ≤ℤ (r *ℤ r) → pos 0 <ℤ S → pos 0 <ℤ r → pos 0 <ℤ M
beyond_front = prove 3
    (λ M S r. record {
      given = (con (pos 2097152) :* r :≤ M) ∷ (S :≤ r :* r) ∷ (`0 :< S) ∷ (`0 :< r) ∷ [];
      goal = `0 :< M;
      cert = hyp 0 ⊕ nat 2097152 ⊗ hyp 3 ⊕ nat 2097151;
    })
    refl
