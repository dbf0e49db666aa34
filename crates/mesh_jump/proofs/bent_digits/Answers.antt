use Prim.Native.Nat.{◌+◌, ◌*◌, ◌^◌, ◌≤◌, ◌<◌}
use native.Mathlib.Omega.{arith}
use mathlib.Core.Path.{◌≡◌, sym, ap, subst, ◌∙◌}
use lib.Dec.{eqb}
use Rattle.mesh_trixels.specs.Corners.{bare}
use Rattle.mesh_bends.specs.Bends.{SmallBends, bends_below}
use Rattle.mesh_bends.proofs.Known.{Known, small_bends}
use Rattle.mesh_jump.specs.Jumps.{along, volume_of, Following, Reached}
use Rattle.mesh_jump.proofs.JumpLoop.{Jumping, starting, known_at, within, not_negative, advance_bent, jumped, far_below, none}
use Rattle.mesh_jump.proofs.GivenLaws.{given_low}
use Rattle.mesh_jump.proofs.bent_digits.Goals as goal
use Rattle.mesh_jump.proofs.bent_digits.Goals.{At-loop-k}

all : (l : At-loop-k) → Jumping l.args.p l.args.c l.args.n l.args.id l.loop-k.sure.id l.loop-k.sure.count l.loop-k.numbers
    × Known l.loop-k.sure.count l.loop-k.bends (volume_of l.args.c) (along l.loop-k.sure.count l.loop-k.sure.id (bare l.args.c))
all l =
    l.loop-k.invariant.5 l.args.p l.args.c l.requires.small l.requires.entry l.begin-numbers.ensures
    (l.can_start.ensures l.if-not-can_start.false) l.bends_of-bends.ensures

at_most : (l : At-loop-k) → l.loop-k.sure.id < 2 ^ 58
at_most l = far_below l.args.p l.args.c l.requires.small _ _ _ _ _ (all l).0 l.loop-k.invariant.0 l.loop-k.invariant.1

four : (l : At-loop-k) → l.loop-k.sure.count ≤ 4
four l = let v = l.loop-k.invariant in omega (arith, v.3, v.4, l.loop-k.auto.k-end)

small : (l : At-loop-k) → SmallBends l.loop-k.bends
small l = small_bends (all l).1 (four l)

nine : (l : At-loop-k) → l.loop-k.sure.count ≤ 9
nine l = omega (arith, four l)

-- so far, with as many digits as there are bent levels at the end
so_far : (l : At-loop-k) → Reached l.args.p l.args.c l.args.id l.args.n (record { sure = l.loop-k.sure; numbers = l.loop-k.numbers })
so_far l = record {
  most = four l;
  jumped = jumped l.args.p l.args.c l.requires.small _ _ _ _ _ (all l).0 l.loop-k.invariant.0;
  following = λ e. subst (λ k. Following l.args.p l.args.c k l.loop-k.sure.id l.loop-k.numbers) e (all l).0.following;
}

pub returns-then-not-can_start : goal.returns-then-not-can_start
returns-then-not-can_start c =
    let s = c.args in
    record { most = omega arith; jumped = none s.p s.c s.id s.n; following = λ e. absurd (omega (arith, e)) }

pub loop-k-init : goal.loop-k-init
loop-k-init c = (
  c.requires.id_bound.1,
  c.requires.id_bound.0,
  omega arith,
  omega arith,
  omega arith,
  λ p q small entry is start bent.
      (starting p q entry _ is start c.args.n c.args.id, subst (λ a. Known 0 a (volume_of q) (along 0 c.args.id (bare q))) (sym bent) (known_at q c.args.id entry)),
)

pub sure_digit-requires : goal.sure_digit-requires
sure_digit-requires c = let l = (goal.at.sure_digit-requires c).At-loop-k in record {
  within = within (all l).0.following (nine l);
  not_negative = not_negative (all l).0.following (nine l);
}

pub child_numbers-numbers-requires-clause-within : goal.child_numbers-numbers-requires-clause-within
child_numbers-numbers-requires-clause-within c =
    let l = (goal.at.child_numbers-numbers-requires-clause-within c).At-loop-k in
    within (all l).0.following (nine l)

pub child_numbers-numbers-requires-clause-not_negative : goal.child_numbers-numbers-requires-clause-not_negative
child_numbers-numbers-requires-clause-not_negative c =
    let l = (goal.at.child_numbers-numbers-requires-clause-not_negative c).At-loop-k in
    not_negative (all l).0.following (nine l)

pub child_numbers-numbers-requires-clause-small_bends : goal.child_numbers-numbers-requires-clause-small_bends
child_numbers-numbers-requires-clause-small_bends c = small (goal.at.child_numbers-numbers-requires-clause-small_bends c).At-loop-k

pub bends_below-bends-requires : goal.bends_below-bends-requires
bends_below-bends-requires c = small (goal.at.bends_below-bends-requires c).At-loop-k

pub with-sure-requires-clause-id_bound : goal.with-sure-requires-clause-id_bound
with-sure-requires-clause-id_bound c = (at_most (goal.at.with-sure-requires-clause-id_bound c).At-loop-k, given_low c.in-Some.ensures)

pub returns-in_default : goal.returns-in_default
returns-in_default c = so_far (goal.at.returns-in_default c).At-loop-k

pub loop-k-preserved : goal.loop-k-preserved
loop-k-preserved c =
    let l = c.loop-k in
    let v = l.invariant in
    let d = c.in-Some.digit in
    let m = c.child_numbers-numbers in
    let e = c.with-sure.ensures in
    let bent : c.bends_below-bends.result ≡ bends_below (eqb l.sure.count 0) d l.bends =
    c.bends_below-bends.ensures ∙ ap (λ k. bends_below (eqb k 0) d l.bends) (sym v.4) in (
      v.0,
      v.1,
      v.2,
      v.3,
      ap (λ s. s.count) e ∙ ap (λ k. k + 1) v.4,
      λ p q small entry is start from.
          let w = v.5 p q small entry is start from in
          let a = advance_bent p q small _ _ _ _ _ w.0 v.0 (omega (arith, v.2, v.4)) (omega (arith, v.3, v.4)) _ w.1 d m.result m.ensures in
          subst (λ s. Jumping p q c.args.n c.args.id s.id s.count m.result × Known s.count c.bends_below-bends.result (volume_of q) (along s.count s.id (bare q))) (sym e)
          (a.0, subst (λ b. Known (l.sure.count + 1) b (volume_of q) (along (l.sure.count + 1) (4 * l.sure.id + d) (bare q))) (sym bent) a.1),
    )

pub returns : goal.returns
returns c = so_far (goal.at.returns c).At-loop-k
