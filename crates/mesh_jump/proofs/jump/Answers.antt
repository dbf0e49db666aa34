use Prim.Native.Nat.{◌+◌, ◌^◌, ◌≤◌, ◌<◌}
use native.Mathlib.Omega.{arith}
use mathlib.Core.Path.{sym, ap, subst, ◌∙◌}
use Rattle.mesh_jump.specs.Jumps.{Jumped}
use Rattle.mesh_jump.proofs.JumpLoop.{Jumping, within, not_negative, advance_flat, jumped, far_below, reached}
use Rattle.mesh_jump.proofs.GivenLaws.{given_low}
use Rattle.mesh_jump.proofs.jump.Goals as goal
use Rattle.mesh_jump.proofs.jump.Goals.{At-loop-level}

jumping : (l : At-loop-level) → Jumping l.args.p l.args.c l.args.n l.args.id l.loop-level.sure.id l.loop-level.sure.count l.loop-level.numbers
jumping l = l.loop-level.invariant.3 l.args.p l.args.c l.requires.small l.bent_digits-bent.ensures

at_most : (l : At-loop-level) → l.loop-level.sure.id < 2 ^ 58
at_most l = far_below l.args.p l.args.c l.requires.small _ _ _ _ _ (jumping l) l.loop-level.invariant.0 l.loop-level.invariant.1

so_far : (l : At-loop-level) → Jumped l.args.p l.args.c l.args.id l.args.n l.loop-level.sure
so_far l = jumped l.args.p l.args.c l.requires.small _ _ _ _ _ (jumping l) l.loop-level.invariant.0

nine : (l : At-loop-level) → l.loop-level.sure.count ≤ 9
nine l = omega (arith, (jumping l).upto, l.loop-level.invariant.0)

pub loop-level-init : goal.loop-level-init
loop-level-init c =
    let r = c.bent_digits-bent.ensures in
    (c.requires.id_bound.1, c.requires.id_bound.0, omega (arith, r.most), λ p q small r. reached _ r (omega arith))

pub sure_digit-requires : goal.sure_digit-requires
sure_digit-requires c = let l = (goal.at.sure_digit-requires c).At-loop-level in let f = (jumping l).following in record {
  within = within f (nine l);
  not_negative = not_negative f (nine l);
}

pub returns-in_default : goal.returns-in_default
returns-in_default c = so_far (goal.at.returns-in_default c).At-loop-level

pub child_numbers-numbers-requires-clause-within : goal.child_numbers-numbers-requires-clause-within
child_numbers-numbers-requires-clause-within c = let l = (goal.at.child_numbers-numbers-requires-clause-within c).At-loop-level in within (jumping l).following (nine l)

pub child_numbers-numbers-requires-clause-not_negative : goal.child_numbers-numbers-requires-clause-not_negative
child_numbers-numbers-requires-clause-not_negative c =
    let l = (goal.at.child_numbers-numbers-requires-clause-not_negative c).At-loop-level in
    not_negative (jumping l).following (nine l)

pub with-sure-requires : goal.with-sure-requires
with-sure-requires c = record {
  count_bound = omega (arith, c.loop-level.invariant.0, c.loop-level.invariant.2);
  id_bound = (at_most (goal.at.with-sure-requires c).At-loop-level, given_low c.in-Some.ensures);
}

pub loop-level-preserved : goal.loop-level-preserved
loop-level-preserved c =
    let d = c.in-Some.digit in
    let m = c.child_numbers-numbers in
    let v = c.loop-level.invariant in
    let e = c.with-sure.ensures in (
      v.0,
      v.1,
      ap (λ s. s.count) e ∙ ap (λ k. k + 1) v.2,
      λ p q small t.
          subst (λ s. Jumping p q c.args.n c.args.id s.id s.count m.result) (sym e)
          (advance_flat p q small _ _ _ _ _ (v.3 p q small t) v.0 (omega (arith, v.2)) (omega (arith, v.2)) d m.result m.ensures),
    )

pub returns : goal.returns
returns c = so_far (goal.at.returns c).At-loop-level
