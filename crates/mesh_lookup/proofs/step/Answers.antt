-- `mesh_lookup::step` gives the digit of p and the corners of that child: the tests are made in their order, each of the normal of its cut. Assumes nothing.
use Prim.Native.Nat.{ℕ}
use mathlib.Core.Path.{◌≡◌, sym, subst, ◌∙◌}
use Rattle.vector.specs.declared.Vec3.{Vec3}
use Rattle.mesh.specs.declared.Corners.{Corners}
use Rattle.mesh_lookup.specs.LookupSteps.{child_at, ChildStep}
use Rattle.mesh_lookup.proofs.StepLaws.{child_step_0, child_step_1, child_step_2, child_step_3}
use Rattle.mesh_lookup.proofs.step.Goals as goal

-- a child with the corners t, which are u
done : (p : Vec3) (c : Corners) (d : ℕ) {t u : Corners} → t ≡ u → ChildStep p c (child_at d u) → ChildStep p c (child_at d t)
done p c d e s = subst (λ t. ChildStep p c (child_at d t)) (sym e) s

pub returns-then-on_side : goal.returns-then-on_side
returns-then-on_side c =
    done c.args.p c.args.c 0 c.triple.ensures
    (child_step_0 c.args.p c.args.c c.requires.small_corners c.midpoint-w1.ensures.0 c.midpoint-w2.ensures.0 c.midpoint-w1.ensures.1 c.midpoint-w2.ensures.1
    (sym c.on_side.ensures ∙ c.if-on_side.true))

pub returns-then-on_side-2 : goal.returns-then-on_side-2
returns-then-on_side-2 c =
    let w = c.midpoint-w0.ensures in
    done c.args.p c.args.c 1 c.triple-then-on_side-2.ensures
    (child_step_1 c.args.p c.args.c c.requires.small_corners c.midpoint-w1.ensures.0 c.midpoint-w2.ensures.0 c.midpoint-w1.ensures.1 c.midpoint-w2.ensures.1
    (sym c.on_side.ensures ∙ c.if-on_side.false) w.0 w.1 (sym c.on_side-2.ensures ∙ c.if-on_side-2.true))

pub returns-then-on_side-3 : goal.returns-then-on_side-3
returns-then-on_side-3 c =
    let w = c.midpoint-w0.ensures in
    done c.args.p c.args.c 2 c.triple-then-on_side-3.ensures
    (child_step_2 c.args.p c.args.c c.requires.small_corners c.midpoint-w1.ensures.0 c.midpoint-w2.ensures.0 c.midpoint-w1.ensures.1 c.midpoint-w2.ensures.1
    (sym c.on_side.ensures ∙ c.if-on_side.false) w.0 w.1 (sym c.on_side-2.ensures ∙ c.if-on_side-2.false) (sym c.on_side-3.ensures ∙ c.if-on_side-3.true))

pub returns : goal.returns
returns c =
    let w = c.midpoint-w0.ensures in
    done c.args.p c.args.c 3 c.triple-2.ensures
    (child_step_3 c.args.p c.args.c c.requires.small_corners c.midpoint-w1.ensures.0 c.midpoint-w2.ensures.0 c.midpoint-w1.ensures.1 c.midpoint-w2.ensures.1
    (sym c.on_side.ensures ∙ c.if-on_side.false) w.0 w.1 (sym c.on_side-2.ensures ∙ c.if-on_side-2.false) (sym c.on_side-3.ensures ∙ c.if-on_side-3.false))
