-- `frames_calls::search` covers the rows, and walks beside the lists that the cover leaves. Assumes nothing.
use Prim.Native.Nat.{ℕ, ◌-◌, ◌^◌, ◌≤◌}
use native.Mathlib.Omega.{arith}
use native.Mathlib.Nat.{one-le-pow, pow-le-pow_right}
use mathlib.Core.Path.{◌≡◌, sym, subst, ◌∙◌}
use lib.Dec.{lit<}
use Rattle.frames_calls.proofs.SearchLaws.{lent, searched}
use Rattle.frames_calls.proofs.search.Goals as goal

some_span : (n : ℕ) {p : ℕ} → p ≡ 4 ^ n → 1 ≤ p
some_span n {p} e = subst (λ k. 1 ≤ k) (sym e) (one-le-pow n 4 (lit< tt))

pub pow-requires : goal.pow-requires
pow-requires c = omega (arith, pow-le-pow_right {n = 4} (lit< tt) {i = 12 - c.args.depth} {j = 12} (omega arith))

pub lent-lists-requires : goal.lent-lists-requires
lent-lists-requires c =
    let a = c.args in
    let g = c.requires.le_depth.2.0 in
    let k = c.requires.le_depth.2.1 in
    let r = c.cover-counts.ensures g k in
    lent a.depth a.budget g c.requires.le_budget.0 a.ranges.now c.cover-counts.new.out c.requires.le_budget.1 c.cover-counts.result r.0 r.1 c.pow.result (some_span (12 - a.depth) c.pow.ensures) c.cover-counts.auto.out

pub returns : goal.returns
returns c g k =
    let a = c.args in
    let r = c.cover-counts.ensures g k in
    let l = c.lent-lists.ensures in
    searched a.depth a.budget g c.requires.le_budget.0 a.ranges.now c.cover-counts.new.out c.requires.le_budget.1 c.cover-counts.result r.0 r.1 a.entries a.region k c.lent-lists.result l.outer_value l.inner_value (l.span_value ∙ c.pow.ensures) a.numbers.now _ c.walk-dispositions.result c.walk-dispositions.ensures
