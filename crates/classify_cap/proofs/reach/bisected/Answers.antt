-- `classify_cap::reach::bisected` is E: what is left of the span is its low end, which is reached, and the next number is not. Assumes nothing.
use Prim.Native.Nat.{ℕ, ◌+◌, ◌<◌}
use native.Mathlib.Omega.{arith}
use mathlib.Core.Path.{◌≡◌, refl, sym, subst}
use mathlib.Core.Bool.{true, false}
use lib.Dec.{eqb}
use borrow.Author.Tests.{eqb-true, eqb-false}
use Rattle.std.proofs.Common.{rules}
use Rattle.algebra.proofs.Tests.{split}
use Rattle.classify_prepared.specs.declared.TrixelRays.{TrixelRays}
use Rattle.classify_cap.specs.Reach.{reach_all, greatest_reach, Spanned}
use Rattle.classify_cap.proofs.ReachLaws.{none_from, spanned_is}
use Rattle.classify_cap.proofs.reach.bisected.Goals as goal

-- what was asked at the ends of a span
module _ (x0 x1 x2 : ℕ) (s : TrixelRays) {low high : ℕ} (p : Spanned x0 x1 x2 s low high) (n : ℕ) (l : n < high) where
  closed : ((n ≡ low → ⊥) → true ≡ reach_all x0 x1 x2 s n) → ((n + 1 ≡ high → ⊥) → false ≡ reach_all x0 x1 x2 s (n + 1)) → n ≡ greatest_reach x0 x1 x2 s
  closed a b = spanned_is x0 x1 x2 s n
      (record {
        order = omega arith;
        most = omega (arith, p.most);
        passes = split (eqb n low) (λ e. subst (λ k. reach_all x0 x1 x2 s k ≡ true) (sym (eqb-true n low e)) p.passes) (λ e. sym (a (eqb-false n low e)));
        above = λ k h m.
            split (eqb (n + 1) high)
            (λ e. p.above k (omega (arith, eqb-true (n + 1) high e)) m)
            (λ e. none_from x0 x1 x2 s (n + 1) (b (eqb-false (n + 1) high e)) refl k h m);
      })

pub returns-clause-value : goal.returns-clause-value
returns-clause-value c =
    let p = c.args.p.now in
    let b = c.bisect.ensures in
    closed p.x0 p.x1 p.x2 p.s.now c.requires c.bisect.result b.within.1 (λ n. search (rules, b.holds n)) (λ n. search (rules, b.ends n))
