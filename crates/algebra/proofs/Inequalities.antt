-- Order facts over ℤ, each by a certificate. Assumes nothing.
use mathlib.Core.Path.{refl}
use mathlib.Core.List.{[], ◌∷◌}
use lib.IntN.{ℤ, pos, neg_ℤ, ◌*ℤ◌}
use lib.Signed.{◌≤ℤ◌, ◌<ℤ◌}
use Rattle.algebra.proofs.Ring.{Expr, con, ◌:*◌, :neg}
use Rattle.algebra.proofs.Order.{by_order}
use Rattle.algebra.proofs.Claim.{◌:≤◌, ◌:<◌, nat, hyp, ◌⊕◌, ◌⊗◌, prove}

abbrev pub `0 : Expr
`0 = con (pos 0)

abbrev pub `1 : Expr
`1 = con (pos 1)

-- 1 ≤ 0, which a refutation proves
pub false_le : pos 1 ≤ℤ pos 0 → ⊥
false_le h = h.le

-- by contradiction: what is not above is at most
pub ≤ℤ-by-no : {a b : ℤ} → (b <ℤ a → pos 1 ≤ℤ pos 0) → a ≤ℤ b
≤ℤ-by-no {a} {b} f = by_order b a (λ l. absurd (false_le (f l))) (λ g. g)

pub <ℤ-by-no : {a b : ℤ} → (b ≤ℤ a → pos 1 ≤ℤ pos 0) → a <ℤ b
<ℤ-by-no {a} {b} f = by_order a b (λ l. l) (λ g. absurd (false_le (f g)))

-- ---- signs
pub ≤ℤ-neg : {a b : ℤ} → a ≤ℤ b → neg_ℤ b ≤ℤ neg_ℤ a
≤ℤ-neg {a} {b} = prove 2 (λ a b. record { given = (a :≤ b) ∷ []; goal = :neg b :≤ :neg a; cert = hyp 0 }) refl a b

-- a sign goes to the other side
pub <ℤ-turn : {a b : ℤ} → a <ℤ neg_ℤ b → b <ℤ neg_ℤ a
<ℤ-turn {a} {b} = prove 2 (λ a b. record { given = (a :< :neg b) ∷ []; goal = b :< :neg a; cert = hyp 0 }) refl a b

pub <ℤ-turn-back : {a b : ℤ} → neg_ℤ b <ℤ a → neg_ℤ a <ℤ b
<ℤ-turn-back {a} {b} = prove 2 (λ a b. record { given = (:neg b :< a) ∷ []; goal = :neg a :< b; cert = hyp 0 }) refl a b

pub <ℤ→≤ℤ : {a b : ℤ} → a <ℤ b → a ≤ℤ b
<ℤ→≤ℤ {a} {b} = prove 2 (λ a b. record { given = (a :< b) ∷ []; goal = a :≤ b; cert = hyp 0 ⊕ nat 1 }) refl a b

-- ---- products
pub <ℤ-mul : {a b : ℤ} → pos 0 <ℤ a → pos 0 <ℤ b → pos 0 <ℤ (a *ℤ b)
<ℤ-mul {a} {b} = prove 2 (λ a b. record { given = (`0 :< a) ∷ (`0 :< b) ∷ []; goal = `0 :< a :* b; cert = hyp 0 ⊗ hyp 1 ⊕ hyp 0 ⊕ hyp 1 }) refl a b

pub ≤ℤ-mul : {a b c d : ℤ} → pos 0 ≤ℤ a → a ≤ℤ b → pos 0 ≤ℤ c → c ≤ℤ d → (a *ℤ c) ≤ℤ (b *ℤ d)
≤ℤ-mul {a} {b} {c} {d} = prove 4
    (λ a b c d. record {
      given = (`0 :≤ a) ∷ (a :≤ b) ∷ (`0 :≤ c) ∷ (c :≤ d) ∷ [];
      goal = a :* c :≤ b :* d;
      cert = hyp 1 ⊗ (hyp 2 ⊕ hyp 3) ⊕ hyp 0 ⊗ hyp 3;
    })
    refl a b c d

-- ---- squares
pub sq_mono : {a b : ℤ} → pos 0 ≤ℤ a → a ≤ℤ b → (a *ℤ a) ≤ℤ (b *ℤ b)
sq_mono h k = ≤ℤ-mul h k h k

pub sq-≤ℤ : {a b : ℤ} → pos 0 ≤ℤ b → (a *ℤ a) ≤ℤ (b *ℤ b) → a ≤ℤ b
sq-≤ℤ {a} {b} h k = ≤ℤ-by-no
    (prove 2
    (λ a b. record {
      given = (`0 :≤ b) ∷ (a :* a :≤ b :* b) ∷ (b :< a) ∷ [];
      goal = `1 :≤ `0;
      cert = hyp 1 ⊕ hyp 2 ⊗ hyp 2 ⊕ nat 2 ⊗ hyp 2 ⊕ nat 2 ⊗ hyp 0 ⊗ hyp 2 ⊕ nat 2 ⊗ hyp 0;
    })
    refl a b h k)

-- ---- a positive factor goes
pub cancel-≤ℤ : {a b c : ℤ} → pos 0 <ℤ c → (c *ℤ a) ≤ℤ (c *ℤ b) → a ≤ℤ b
cancel-≤ℤ {a} {b} {c} h k = ≤ℤ-by-no
    (prove 3
    (λ a b c. record {
      given = (`0 :< c) ∷ (c :* a :≤ c :* b) ∷ (b :< a) ∷ [];
      goal = `1 :≤ `0;
      cert = hyp 1 ⊕ hyp 0 ⊗ hyp 2 ⊕ hyp 0 ⊕ hyp 2;
    })
    refl a b c h k)

pub cancel_nn : {a c : ℤ} → pos 0 <ℤ c → pos 0 ≤ℤ (c *ℤ a) → pos 0 ≤ℤ a
cancel_nn {a} {c} h k = ≤ℤ-by-no
    (prove 2
    (λ a c. record {
      given = (`0 :< c) ∷ (`0 :≤ c :* a) ∷ (a :< `0) ∷ [];
      goal = `1 :≤ `0;
      cert = hyp 1 ⊕ hyp 0 ⊗ hyp 2 ⊕ hyp 0 ⊕ hyp 2;
    })
    refl a c h k)

-- s is positive and s² ≤ n m: m is positive
pub factor_positive : (s n m : ℤ) → pos 0 <ℤ s → (s *ℤ s) ≤ℤ (n *ℤ m) → pos 0 ≤ℤ n → pos 0 <ℤ m
factor_positive s n m h k l = <ℤ-by-no
    (prove 3
    (λ s n m. record {
      given = (`0 :< s) ∷ (s :* s :≤ n :* m) ∷ (`0 :≤ n) ∷ (m :≤ `0) ∷ [];
      goal = `1 :≤ `0;
      cert = hyp 1 ⊕ hyp 2 ⊗ hyp 3 ⊕ hyp 0 ⊗ hyp 0 ⊕ nat 2 ⊗ hyp 0;
    })
    refl s n m h k l)
