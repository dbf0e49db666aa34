-- Facts of expressions over ℤ, certificates, and claims: what proofs/Claim proves. Definitions only.
--   Holds ρ f     what a fact says of an environment
--   slack, null   what a fact says is not negative, and what it says is zero
--   value, zeros  the number that a certificate builds, and the part of it that is zero
--   leftover      what is left of the goal's slack when the certificate is taken from it
use mathlib.Core.Path.{◌≡◌}
use mathlib.Core.List.{List, [], ◌∷◌}
use Prim.Native.Nat.{ℕ, zero, suc}
use lib.IntN.{ℤ, pos}
use lib.Signed.{◌≤ℤ◌, ◌<ℤ◌}
use Rattle.algebra.proofs.Ring.{Expr, con, ◌:+◌, ◌:-◌, ◌:*◌, eval, Poly, norm}

-- ---- facts of expressions, and what they say of an environment

infix 5 ◌:≤◌ ◌:<◌ ◌:≡◌
pub data Fact : Type 0 where
  ◌:≤◌ ◌:<◌ ◌:≡◌ : Expr → Expr → Fact

abbrev pub Holds : List ℤ → Fact → Type 0
Holds ρ (a :≤ b) = eval ρ a ≤ℤ eval ρ b
Holds ρ (a :< b) = eval ρ a <ℤ eval ρ b
Holds ρ (a :≡ b) = eval ρ a ≡ eval ρ b

-- what a fact says is not negative, and what it says is zero
abbrev pub slack : Fact → Expr
slack (a :≤ b) = b :- a
slack (a :< b) = b :- (a :+ con (pos 1))
slack (a :≡ b) = b :- a

abbrev pub null : Fact → Expr
null (a :≤ b) = con (pos 0)
null (a :< b) = con (pos 0)
null (a :≡ b) = b :- a

abbrev pub nth : List Fact → ℕ → Fact
nth [] i = con (pos 0) :≡ con (pos 0)
nth (f ∷ fs) zero = f
nth (f ∷ fs) (suc i) = nth fs i

-- ---- certificates: a natural number, the slack of the hypothesis i, a square, a sum, a product, a multiple of the equation i

infixl 6 ◌⊕◌
infixl 7 ◌⊗◌
pub data Cert : Type 0 where
  nat hyp : ℕ → Cert
  sq : Expr → Cert
  ◌⊕◌ ◌⊗◌ : Cert → Cert → Cert
  eqn : ℕ → Expr → Cert

abbrev pub value : List Fact → Cert → Expr
value fs (nat n) = con (pos n)
value fs (hyp i) = slack (nth fs i)
value fs (sq e) = e :* e
value fs (c ⊕ d) = value fs c :+ value fs d
value fs (c ⊗ d) = value fs c :* value fs d
value fs (eqn i e) = null (nth fs i) :* e

-- the part that is zero: sums of multiples of equations
abbrev pub zeros : List Fact → Cert → Expr
zeros fs (nat n) = con (pos 0)
zeros fs (hyp i) = con (pos 0)
zeros fs (sq e) = con (pos 0)
zeros fs (c ⊕ d) = zeros fs c :+ zeros fs d
zeros fs (c ⊗ d) = con (pos 0)
zeros fs (eqn i e) = null (nth fs i) :* e

-- a claim; with the goal `1 ≤ 0` it says that the hypotheses do not hold together
pub record Claim : Type 0 where
  pub given : List Fact
  pub goal : Fact
  pub cert : Cert

-- what is left of the goal's slack when the certificate is taken from it
abbrev pub leftover : List Fact → Fact → Cert → Poly
leftover fs (a :≤ b) c = norm (b :- a :- value fs c)
leftover fs (a :< b) c = norm (b :- (a :+ con (pos 1)) :- value fs c)
leftover fs (a :≡ b) c = norm (b :- a :- zeros fs c)

abbrev pub leftover_of : Claim → Poly
leftover_of k = leftover k.given k.goal k.cert
