-- `mesh_trixels::child3` is the row 3 of the table of children. Assumes nothing.
use Rattle.mesh_trixels.proofs.child3.Goals as goal

pub returns : goal.returns
returns c =
    let s = c in
    let p0 = c.negated.ensures in
    let p1 = c.negated-2.ensures in
    let p2 = c.negated-3.ensures in
    let k = s.args.c in (
      λ i. record { v0 = k.w0; v1 = k.w1; v2 = k.w2; p0 = p0.value i; p1 = p1.value i; p2 = p2.value i },
      record { v0 = s.requires.w0; v1 = s.requires.w1; v2 = s.requires.w2; p0 = p0.small; p1 = p1.small; p2 = p2.small },
    )
