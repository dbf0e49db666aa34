use Prim.Native.Nat.{ℕ, suc, ◌+◌, ◌*◌, ◌-◌}
use mathlib.Core.Path.{◌≡◌, refl, sym, ap, ◌∙◌}
use mathlib.Core.Bool.{Bool, false}
use native.Mathlib.Omega.{arith}
use borrow.Author.Tests.{eqb-true, eqb-false}
use lib.Dec.{eqb}
use Rattle.algebra.proofs.Tests.{split}
use Rattle.answer.specs.Lent.{put}
use Rattle.index.specs.Entries.{precedes, Width, numbers, entry_at}
use Rattle.index_entries.specs.Steps.{raised}
use Rattle.index_entries.proofs.ShiftLaws.{raised_start, raised_entry, raised_step}
use Rattle.index_entries.proofs.SearchLaws.{stay_ends}
use Rattle.index_entries.proofs.make_gap.Goals as goal
use Rattle.index_entries.proofs.make_gap.Goals.{After-nth_entry-x, After-precedes}

-- the entry at hand has not moved, and is tested
unmoved : (c : After-nth_entry-x) → c.nth_entry-x.result ≡ entry_at c.args.index.now (1 + Width * (c.loop-i.i - 1))
unmoved c =
    c.nth_entry-x.ensures ∙ raised_entry c.args.n c.loop-i.i c.args.index.now c.loop-i.index c.loop-i.invariant.1 (omega arith) (omega arith) (omega arith)

abbrev hand : After-precedes → Bool
hand c =
    precedes c.args.e (entry_at c.args.index.now (1 + Width * (c.loop-i.i - 1)))

tested : (c : After-precedes) → hand c ≡ c.precedes.result
tested c = ap (precedes c.args.e) (sym (unmoved c.before)) ∙ sym c.precedes.ensures

pub loop-i-init : goal.loop-i-init
loop-i-init c = (omega arith, raised_start _ _ _ (omega arith), refl, λ j p q. absurd (omega arith))

pub shape_of-index-then-not-precedes : goal.shape_of-index-then-not-precedes
shape_of-index-then-not-precedes c = c.loop-i.invariant.2

pub returns-then-not-precedes : goal.returns-then-not-precedes
returns-then-not-precedes c =
    let v = c.args in
    let no : (j : ℕ) → c.loop-i.i ≡ suc j → precedes v.e (entry_at v.index.now (1 + Width * j)) ≡ false =
    λ j p.
    (let e : j ≡ c.loop-i.i - 1 = omega arith in ap (λ k. precedes v.e (entry_at v.index.now (1 + Width * k))) e)
    ∙ tested (goal.at.returns-then-not-precedes c).After-precedes ∙ c.if-not-precedes.true in
    let e : c.loop-i.i ≡ c.loop-i.i - 1 + 1 = omega arith in
    record {
      value = (sym e ∙ stay_ends (precedes v.e) v.n v.index.now 1 c.loop-i.i (omega arith) c.loop-i.invariant.3 no, omega arith);
      index_after = c.loop-i.invariant.1 ∙ ap (λ k. raised (1 + Width * k) v.index.now (Width * (v.n - k))) e;
    }

pub loop-i-preserved : goal.loop-i-preserved
loop-i-preserved c =
    let v = c.args in
    let yes = tested (goal.at.loop-i-preserved c).After-precedes ∙ c.if-not-precedes.false in
    let e : 1 + Width * (c.loop-i.i - 1 + 1) ≡ 1 + Width * c.loop-i.i = omega arith in (
      omega arith,
      c.store_entry.ensures
          ∙ ap (λ k. put k (numbers c.nth_entry-x.result) c.loop-i.index) (c.element_of.ensures ∙ e)
          ∙ ap (λ x. put (1 + Width * c.loop-i.i) (numbers x) c.loop-i.index) (unmoved (goal.at.loop-i-preserved c).After-nth_entry-x)
          ∙ raised_step v.n c.loop-i.i v.index.now c.loop-i.index c.loop-i.invariant.1 (omega arith) (omega arith) (omega arith),
      c.store_entry.auto.index ∙ c.loop-i.invariant.2,
      λ j a b. split (eqb j (c.loop-i.i - 1))
          (λ t. ap (λ k. precedes v.e (entry_at v.index.now (1 + Width * k))) (eqb-true j (c.loop-i.i - 1) t) ∙ yes)
          (λ t. c.loop-i.invariant.3 j (omega (arith, eqb-false j (c.loop-i.i - 1) t)) b),
    )

pub shape_of-index : goal.shape_of-index
shape_of-index c = c.loop-i.invariant.2

pub returns : goal.returns
returns c =
    let v = c.args in
    let e : c.loop-i.i ≡ 0 = omega arith in
    record {
      value = (sym e ∙ stay_ends (precedes v.e) v.n v.index.now 1 c.loop-i.i (omega arith) c.loop-i.invariant.3 (λ j p. absurd (omega arith)), omega arith);
      index_after = c.loop-i.invariant.1 ∙ ap (λ k. raised (1 + Width * k) v.index.now (Width * (v.n - k))) e;
    }
