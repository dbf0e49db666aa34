-- Claims: a polynomial inequality or equation over ℤ from hypotheses, by a certificate. A number that is built from the
-- slacks of the hypotheses, squares and naturals by sums and products is not negative; `prove` checks by computing that the
-- goal's slack is that number. There is no search: the certificate is written. Assumes nothing.
use mathlib.Core.Path.{◌≡◌, refl, sym, ◌∙◌, ap, ap₂, subst}
use mathlib.Core.List.{List, [], ◌∷◌, ◌++◌}
use Prim.Native.Nat.{ℕ, zero, suc}
use lib.IntN.{ℤ, pos, ◌+ℤ◌, ◌-ℤ◌, ◌*ℤ◌, +ℤ_idl, +ℤ_invr, zero-*ℤ, -ℤ-+ℤ_cancel}
use lib.Signed.{◌≤ℤ◌}
use Rattle.algebra.proofs.Ring.{Expr, var, con, ◌:+◌, ◌:-◌, ◌:*◌, eval, nil, norm, solve}
use Rattle.algebra.proofs.Order.{nn_pos, nn_mul, nn_add, nn_sq, gap_nn, gap_le, suc_le, lt_of_suc_le, ≡→≤ℤ}
pub use Rattle.algebra.proofs.Facts.{Fact, ◌:≤◌, ◌:<◌, ◌:≡◌, Holds, slack, null, nth, Cert, nat, hyp, sq, ◌⊕◌, ◌⊗◌, eqn, value, zeros, Claim, leftover, leftover_of}

-- ---- soundness

abbrev Hold : List ℤ → List Fact → Type 0
Hold ρ [] = Unit {0}
Hold ρ (f ∷ fs) = Holds ρ f × Hold ρ fs

zero_diff : (x y : ℤ) → x ≡ y → y -ℤ x ≡ pos 0
zero_diff x y e = ap (λ z. y -ℤ z) e ∙ +ℤ_invr y

diff_zero : (x y : ℤ) → y -ℤ x ≡ pos 0 → x ≡ y
diff_zero x y e = sym (sym (-ℤ-+ℤ_cancel y x) ∙ ap (λ z. z +ℤ x) e ∙ +ℤ_idl x)

module _ (ρ : List ℤ) where
  slack_nn : (f : Fact) → Holds ρ f → pos 0 ≤ℤ eval ρ (slack f)
  slack_nn (a :≤ b) h = gap_nn h
  slack_nn (a :< b) h = gap_nn (suc_le h)
  slack_nn (a :≡ b) h = gap_nn (≡→≤ℤ h)

  null_zero : (f : Fact) → Holds ρ f → eval ρ (null f) ≡ pos 0
  null_zero (a :≤ b) h = refl
  null_zero (a :< b) h = refl
  null_zero (a :≡ b) h = zero_diff (eval ρ a) (eval ρ b) h

  nth_holds : (fs : List Fact) → Hold ρ fs → (i : ℕ) → Holds ρ (nth fs i)
  nth_holds [] h i = refl
  nth_holds (f ∷ fs) h zero = h.0
  nth_holds (f ∷ fs) h (suc i) = nth_holds fs h.1 i

  multiple_zero : (fs : List Fact) → Hold ρ fs → (i : ℕ) (e : Expr) → eval ρ (null (nth fs i) :* e) ≡ pos 0
  multiple_zero fs h i e = ap (λ z. z *ℤ eval ρ e) (null_zero (nth fs i) (nth_holds fs h i)) ∙ zero-*ℤ (eval ρ e)

  value_nn : (fs : List Fact) → Hold ρ fs → (c : Cert) → pos 0 ≤ℤ eval ρ (value fs c)
  value_nn fs h (nat n) = nn_pos n
  value_nn fs h (hyp i) = slack_nn (nth fs i) (nth_holds fs h i)
  value_nn fs h (sq e) = nn_sq (eval ρ e)
  value_nn fs h (c ⊕ d) = nn_add (value_nn fs h c) (value_nn fs h d)
  value_nn fs h (c ⊗ d) = nn_mul (value_nn fs h c) (value_nn fs h d)
  value_nn fs h (eqn i e) = ≡→≤ℤ (sym (multiple_zero fs h i e))

  zeros_zero : (fs : List Fact) → Hold ρ fs → (c : Cert) → eval ρ (zeros fs c) ≡ pos 0
  zeros_zero fs h (nat n) = refl
  zeros_zero fs h (hyp i) = refl
  zeros_zero fs h (sq e) = refl
  zeros_zero fs h (c ⊕ d) = ap₂ ◌+ℤ◌ (zeros_zero fs h c) (zeros_zero fs h d)
  zeros_zero fs h (c ⊗ d) = refl
  zeros_zero fs h (eqn i e) = multiple_zero fs h i e

  le_by : (fs : List Fact) → Hold ρ fs → (a b : Expr) (c : Cert) → norm (b :- a :- value fs c) ≡ nil → eval ρ a ≤ℤ eval ρ b
  le_by fs h a b c e = gap_le (subst (λ z. pos 0 ≤ℤ z) (sym (solve (b :- a) (value fs c) e ρ)) (value_nn fs h c))

  goal_holds : (fs : List Fact) → Hold ρ fs → (g : Fact) (c : Cert) → leftover fs g c ≡ nil → Holds ρ g
  goal_holds fs h (a :≤ b) c e = le_by fs h a b c e
  goal_holds fs h (a :< b) c e = lt_of_suc_le (le_by fs h (a :+ con (pos 1)) b c e)
  goal_holds fs h (a :≡ b) c e = diff_zero (eval ρ a) (eval ρ b) (solve (b :- a) (zeros fs c) e ρ ∙ zeros_zero fs h c)

-- ---- the two provers, with the variables as arguments and the hypotheses as arguments behind them

-- functions of n variables; at the variables i, i + 1, ..
abbrev pub Fun : ℕ → Type 0 → Type 0
Fun zero X = X
Fun (suc n) X = Expr → Fun n X

module _ {X : Type 0} where
  abbrev pub open_at : (n i : ℕ) → Fun n X → X
  open_at zero i k = k
  open_at (suc n) i k = open_at n (suc i) (k (var i))

-- for all values of n more variables
abbrev pub All : ℕ → (List ℤ → Type 0) → List ℤ → Type 0
All zero P ρ = P ρ
All (suc n) P ρ = (a : ℤ) → All n P (ρ ++ (a ∷ []))

-- from the facts fs
abbrev pub Given : List ℤ → List Fact → Type 0 → Type 0
Given ρ [] X = X
Given ρ (f ∷ fs) X = Holds ρ f → Given ρ fs X

all : (n : ℕ) (P : List ℤ → Type 0) → ((ρ : List ℤ) → P ρ) → (ρ : List ℤ) → All n P ρ
all zero P h ρ = h ρ
all (suc n) P h ρ = λ a. all n P h (ρ ++ (a ∷ []))

given : (ρ : List ℤ) (fs : List Fact) (X : Type 0) → (Hold ρ fs → X) → Given ρ fs X
given ρ [] X k = k tt
given ρ (f ∷ fs) X k = λ h. given ρ fs X (λ hs. k (h, hs))

abbrev pub Proves : Claim → List ℤ → Type 0
Proves k ρ = Given ρ k.given (Holds ρ k.goal)

-- `ring 2 (λ a b. a :* b :≡ b :* a) refl`
pub ring : (n : ℕ) (k : Fun n Fact) → leftover [] (open_at n 0 k) (nat 0) ≡ nil → All n (λ ρ. Holds ρ (open_at n 0 k)) []
ring n k e = all n (λ ρ. Holds ρ (open_at n 0 k)) (λ ρ. goal_holds ρ [] tt (open_at n 0 k) (nat 0) e) []

-- `prove 2 (λ a b. record { given = (a :≤ b) ∷ []; goal = a :≤ b :+ con (pos 1); cert = hyp 0 ⊕ nat 1 }) refl`
pub prove : (n : ℕ) (k : Fun n Claim) → leftover_of (open_at n 0 k) ≡ nil → All n (Proves (open_at n 0 k)) []
prove n k e =
    let c : Claim = open_at n 0 k in
    all n (Proves c) (λ ρ. given ρ c.given (Holds ρ c.goal) (λ h. goal_holds ρ c.given h c.goal c.cert e)) []

-- the same at an environment that is written: for vectors, and where the variables are many
pub prove_at : (k : Claim) → leftover_of k ≡ nil → (ρ : List ℤ) → Proves k ρ
prove_at k e ρ = given ρ k.given (Holds ρ k.goal) (λ h. goal_holds ρ k.given h k.goal k.cert e)
