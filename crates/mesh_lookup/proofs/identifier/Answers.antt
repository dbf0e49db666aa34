-- `mesh_lookup::identifier` is the identifier at a depth: to depth 2 from the root, deeper from the table. Assumes nothing.
use Prim.Native.Nat.{◌+◌, ◌-◌}
use native.Mathlib.Omega.{arith}
use mathlib.Core.Path.{◌≡◌, ap, ◌∙◌}
use Rattle.mesh.specs.Lookup as rule
use Rattle.mesh_trixels.specs.Corners.{bare}
use Rattle.mesh_lookup.proofs.AnswerLaws.{at_root, from_root, at_three, from_table_start}
use Rattle.mesh_lookup.proofs.identifier.Goals as goal

pub returns-in-1 : goal.returns-in-1
returns-in-1 c = at_root c.args.p c.args.depth _ c.root_number-root.ensures.0 c.in-1.is

pub returns-in-2 : goal.returns-in-2
returns-in-2 c =
    let r = c.root_number-root in
    let z : 1 ≡ c.args.depth - 1 = omega (arith, c.in-2.is) in
    c.descend.ensures.is
    ∙ ap (λ m. rule.descend c.args.p m (bare c.root_corners.result) (8 + r.result)) z
    ∙ from_root c.args.p c.args.depth _ r.ensures.0 _ c.root_corners.ensures.0

pub returns-then-depth-eq3 : goal.returns-then-depth-eq3
returns-then-depth-eq3 c = at_three c.args.p c.args.depth _ c.root_number-root.ensures.0 c.from_table-start.result c.if-depth-eq3.true c.from_table-start.ensures

pub returns-else-depth-eq3 : goal.returns-else-depth-eq3
returns-else-depth-eq3 c =
    c.identifier_below.ensures
    ∙ from_table_start c.args.p c.args.depth _ c.root_number-root.ensures.0 c.from_table-start.result (omega (arith, c.requires.le_depth)) c.from_table-start.ensures
