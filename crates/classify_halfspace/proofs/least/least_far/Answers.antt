-- `classify_halfspace::least::least_far`: f is not far at the number that is left, and far at the next one. Assumes nothing.
use Prim.Native.Nat.{ℕ, ◌+◌, ◌≤◌, ◌<◌}
use native.Mathlib.Omega.{arith}
use mathlib.Core.Path.{◌≡◌, refl, sym, subst}
use mathlib.Core.Bool.{true, false, not}
use borrow.Author.Tests.{eqb-true, eqb-false, not-true, not-false}
use lib.Dec.{eqb}
use lib.IntN.{ℤ}
use Rattle.std.proofs.Common.{rules}
use Rattle.algebra.proofs.Tests.{split}
use Rattle.vector.specs.Numbers.{Kℕ}
use Rattle.classify_halfspace.specs.LeastFar.{far_by, FarBounds, LeastFar}
use Rattle.classify_halfspace.proofs.LeastFarLaws.{rest_sign, least_far}
use Rattle.classify_halfspace.proofs.least.least_far.Goals as goal

-- what was asked at the two ends
module _ {D p c B : ℤ} (b : FarBounds D p c B) {low high : ℕ} (k : high ≤ Kℕ) (f : far_by D p c B low ≡ false) (g : far_by D p c B high ≡ true) (n : ℕ) (l : n < high) where
  closed : ((n ≡ low → ⊥) → true ≡ not (far_by D p c B n)) → ((n + 1 ≡ high → ⊥) → false ≡ not (far_by D p c B (n + 1))) → LeastFar D p c B (n + 1)
  closed x y =
      least_far c B b.sign (rest_sign b.rest) n (n + 1) refl (omega arith)
      (split (eqb n low) (λ e. subst (λ k. far_by D p c B k ≡ false) (sym (eqb-true n low e)) f) (λ e. not-true _ (sym (x (eqb-false n low e)))))
      (split (eqb (n + 1) high) (λ e. subst (λ k. far_by D p c B k ≡ true) (sym (eqb-true (n + 1) high e)) g) (λ e. not-false _ (sym (y (eqb-false (n + 1) high e)))))

pub returns : goal.returns
returns c =
    let b = c.bisect.ensures in
    closed c.args.h.now.bounded c.requires.order.1 c.requires.near c.requires.far c.bisect.result b.within.1 (λ n. search (rules, b.holds n)) (λ n. search (rules, b.ends n))
