use Prim.Native.Nat.{◌+◌}
use mathlib.Core.Path.{◌≡◌, sym, ap, ◌∙◌}
use mathlib.Core.Bool.{true, not}
use native.Mathlib.Omega.{arith}
use borrow.Author.Count.{below_none}
use Rattle.index.specs.Entries.{is_keyed}
use Rattle.index_entries.proofs.find.Invariants.{Others, all_owned, at, ends, none, none_owned, one_more, one_owned, two_more, two_owned}
use Rattle.index_entries.proofs.find.Goals as goal
use Rattle.index_entries.proofs.find.Goals.{After-is_keyed, After-is_keyed-2, After-is_keyed-in-loop-i, Else-is_keyed}

-- ---- the tests: of the entry at hand, of the next one, and of the last one

first : (c : After-is_keyed) → at c.args.index.now c.args.key c.loop-i.i ≡ c.is_keyed.result
first c = ap (is_keyed c.args.key) (sym c.nth_entry-e.ensures) ∙ sym c.is_keyed.ensures

second : (c : After-is_keyed-in-loop-i) → at c.args.index.now c.args.key (c.loop-i.i + 1) ≡ c.is_keyed-in-loop-i.result
second c = ap (is_keyed c.args.key) (sym c.nth_entry-f.ensures) ∙ sym c.is_keyed-in-loop-i.ensures

last : (c : After-is_keyed-2) → at c.args.index.now c.args.key c.loop-i.i ≡ c.is_keyed-2.result
last c = ap (is_keyed c.args.key) (sym c.nth_entry-e-2.ensures) ∙ sym c.is_keyed-2.ensures

-- past the first of the two
passed : (c : Else-is_keyed) → Others c.args.index.now c.args.key (c.loop-i.i + 1)
passed c = one_more c.args.index.now c.args.key c.loop-i.i c.loop-i.invariant.1 (first c.before ∙ c.if-is_keyed.false)

-- ---- the goals

pub loop-i-init : goal.loop-i-init
loop-i-init c = (omega arith, below_none (λ j. not (at c.args.index.now c.args.key j) ≡ true), none_owned c.args.index.now c.args.key)

pub returns-then-is_keyed : goal.returns-then-is_keyed
returns-then-is_keyed c =
    let v = c.args in
    let x = goal.at.returns-then-is_keyed c in
    (ends v.index.now v.key v.n c.loop-i.i (omega arith) c.loop-i.invariant.1 (λ b. first x.After-is_keyed ∙ c.if-is_keyed.true), omega arith)

pub returns-then-is_keyed-2 : goal.returns-then-is_keyed-2
returns-then-is_keyed-2 c =
    let v = c.args in
    let x = goal.at.returns-then-is_keyed-2 c in
    (ends v.index.now v.key v.n (c.loop-i.i + 1) (omega arith) (passed x.Else-is_keyed) (λ b. second x.After-is_keyed-in-loop-i ∙ c.if-is_keyed-2.true), omega arith)

pub loop-i-preserved : goal.loop-i-preserved
loop-i-preserved c =
    let l = c.args.index.now in
    let k = c.args.key in
    let x = goal.at.loop-i-preserved c in
    let i = c.loop-i.i in
    let one = one_owned l k i c.loop-i.owned c.count_if_owned.result c.nth_entry-e.result c.nth_entry-e.ensures c.count_if_owned.ensures c.loop-i.invariant.2 in (
      omega arith,
      two_more l k i (passed x.Else-is_keyed) (second x.After-is_keyed-in-loop-i ∙ c.if-is_keyed-2.false),
      two_owned l k i c.count_if_owned.result c.count_if_owned-owned.result c.nth_entry-f.result c.nth_entry-f.ensures c.count_if_owned-owned.ensures one,
    )

pub returns-then-n-i : goal.returns-then-n-i
returns-then-n-i c =
    let v = c.args in
    let k = v.key in
    let e : v.n ≡ c.loop-i.i = omega arith in
    (none v.index.now k v.n c.loop-i.i e c.loop-i.invariant.1, all_owned v.index.now k v.n c.loop-i.i c.loop-i.owned e c.loop-i.invariant.2)

pub returns-then-is_keyed-3 : goal.returns-then-is_keyed-3
returns-then-is_keyed-3 c =
    let v = c.args in
    let x = goal.at.returns-then-is_keyed-3 c in
    (ends v.index.now v.key v.n c.loop-i.i (omega arith) c.loop-i.invariant.1 (λ b. last x.After-is_keyed-2 ∙ c.if-is_keyed-3.true), omega arith)

pub returns : goal.returns
returns c =
    let v = c.args in
    let l = v.index.now in
    let k = v.key in
    let i = c.loop-i.i in
    let e : v.n ≡ i + 1 = omega arith in
    let one = one_owned l k i c.loop-i.owned c.count_if_owned-2.result c.nth_entry-e-2.result c.nth_entry-e-2.ensures c.count_if_owned-2.ensures c.loop-i.invariant.2 in (none l k v.n (i + 1) e (one_more l k i c.loop-i.invariant.1 (last (goal.at.returns c).After-is_keyed-2 ∙ c.if-is_keyed-3.false)), all_owned l k v.n (i + 1) c.count_if_owned-2.result e one)
