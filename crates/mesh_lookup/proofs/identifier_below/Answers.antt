-- `mesh_lookup::identifier_below` goes on behind the digits of the jump, from the corners along them. Assumes nothing.
use mathlib.Core.Path.{◌≡◌, ap, ◌∙◌}
use Prim.Native.Nat.{◌-◌}
use Rattle.mesh.specs.Lookup.{descend}
use Rattle.mesh.specs.Rotations.{turned_by}
use Rattle.mesh_trixels.specs.Corners.{triple_of, bare}
use Rattle.mesh_jump.specs.Jumps.{along}
use Rattle.mesh_lookup.specs.LookupSteps.{turned_corners}
use Rattle.mesh_lookup.proofs.DescentLaws.{all_sure, some_left, sure_below}
use Rattle.mesh_lookup.proofs.identifier_below.Goals as goal

pub returns-then-sure-n : goal.returns-then-sure-n
returns-then-sure-n c =
    let t = c.args.t in
    all_sure c.args.root c.requires.root_bound c.args.p t.pointing c.requires.table_start.back t.entry t.id c.args.n c.jump-sure.result c.jump-sure.ensures c.if-sure-n.true

pub rest_of-requires-clause-id_bound : goal.rest_of-requires-clause-id_bound
rest_of-requires-clause-id_bound c =
    let t = c.args.t in
    let q = c.requires in
    let j = c.jump-sure.ensures in
    (sure_below c.args.root q.root_bound c.args.p t.pointing q.table_start.back t.entry t.id c.args.n c.jump-sure.result j q.table_start.low q.n_bound, j.upto, q.n_bound)

pub returns : goal.returns
returns c =
    let t = c.args.t in
    let r = c.jump-sure.result in
    -- the corners of the entry, turned by the rotation of the root
    let turned_entry : c.turned_corners.result ≡ turned_corners c.args.root t.entry =
    c.turned_corners.ensures.value ∙ ap (λ k. triple_of (turned_by k t.entry.v0) (turned_by k t.entry.v1) (turned_by k t.entry.v2)) c.rotation.ensures in
    c.rest_of.ensures
    ∙ ap (λ e. descend c.args.p (c.args.n - r.count) (along r.count r.id (bare e)) r.id) turned_entry
    ∙ some_left c.args.root c.requires.root_bound c.args.p t.pointing c.requires.table_start.back t.entry t.id c.args.n r c.jump-sure.ensures
