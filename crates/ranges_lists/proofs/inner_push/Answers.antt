-- `ranges_lists::inner_push` is the three cases of `inner_push`: the first range, a touching one, and a new one. Assumes nothing.
use mathlib.Core.Path.{◌≡◌, sym, ap, subst, ◌∙◌}
use Rattle.std.specs.Prelude.{Some}
use Rattle.ranges.proofs.Pushing.{inner_push}
use Rattle.ranges_stored.specs.Stored.{none_stored, state_of, Stores}
use native.Mathlib.Omega.{arith}
use Rattle.ranges_stored.proofs.HintLaws.{hinted_any}
use Rattle.ranges_lists.proofs.InnerStored.{pending_first, pending_grows, pending_closes}
use Rattle.ranges_lists.proofs.inner_push.Goals as goal

pub returns-in_default : goal.returns-in_default
returns-in_default c =
    let a = c.args in
    let e : c.default.result.stored ≡ none_stored =
    λ i. record { n = c.default.ensures.0.0 i; hint = record { from = c.default.ensures.0.1.0 i; floor = c.default.ensures.0.1.1 i } } in
    record {
      stores = subst (λ m. Stores (inner_push a.budget (state_of a.p a.list.now) a.r) a.list.now a.list.now (record { stored = m; last = Some a.r })) (sym e)
          (pending_first a.budget a.p a.list.now a.r c.in_default.is);
      n_le_budget = omega (arith, ap (λ m. m.n) e);
      hinted_2 = hinted_any (ap (λ m. m.hint) e) _;
    }

pub returns-then-touches : goal.returns-then-touches
returns-then-touches c =
    let a = c.args in
    record {
      stores = pending_grows a.budget a.p a.list.now a.r c.in-Some.last c.in-Some.is (omega arith) (sym c.touches.ensures ∙ c.if-touches.true);
      n_le_budget = omega arith;
      hinted_2 = c.requires.hinted;
    }

pub returns : goal.returns
returns c =
    let a = c.args in
    let m = c.inner_close.ensures in
    record {
      stores = pending_closes a.budget a.p a.list.now a.r c.in-Some.last c.in-Some.is _ _ (sym c.touches.ensures ∙ c.if-touches.false) m.writes;
      n_le_budget = m.n_le_budget;
      hinted_2 = m.hinted_2;
    }
