-- `classify_halfspace::class_by_edges` is the class by the edges: apart at the first that f is beyond. Assumes nothing.
use mathlib.Core.Path.{◌≡◌, sym, ap, ◌∙◌}
use Rattle.algebra.proofs.Sized.{held}
use Rattle.classify_prepared.proofs.PreparedLaws.{sound_offset}
use Rattle.classify_halfspace.specs.Halfspaces.{class_apart, edges_class}
use Rattle.classify_halfspace.proofs.EdgeLaws.{first_beyond, second_beyond, third_beyond, none_beyond}
use Rattle.classify_halfspace.proofs.class_by_edges.Goals as goal
use Rattle.classify_halfspace.proofs.class_by_edges.Goals.{then-beyond_edge-via-then-beyond_edge, then-beyond_edge-via-else-beyond_edge+then-beyond_edge-2, then-beyond_edge-via-else-beyond_edge+else-beyond_edge-2+then-beyond_edge-3}

pub returns-then-beyond_edge : goal.returns-then-beyond_edge
returns-then-beyond_edge c =
    let q = c.args.q in
    let t = c.args.t.now in
    let e : edges_class q t ≡ class_apart q.d = elim c.then-beyond_edge.branch [
      | then-beyond_edge-via-then-beyond_edge w ↦ first_beyond q t (sym c.beyond_edge.ensures ∙ w.if-beyond_edge.true)
      | then-beyond_edge-via-else-beyond_edge+then-beyond_edge-2 w ↦ second_beyond q t (sym w.beyond_edge-else-beyond_edge.ensures ∙ w.if-beyond_edge-2.true)
      | then-beyond_edge-via-else-beyond_edge+else-beyond_edge-2+then-beyond_edge-3 w ↦ third_beyond q t (sym w.beyond_edge-else-beyond_edge-2.ensures ∙ w.if-beyond_edge-3.true)
    ] in
    c.class_apart.ensures ∙ ap class_apart (held (sound_offset c.requires.sound_halfspace) tt).eq ∙ sym e

pub returns : goal.returns
returns c =
    sym (none_beyond c.args.q c.args.t.now
    (sym c.beyond_edge.ensures ∙ c.if-beyond_edge.false)
    (sym c.beyond_edge-else-beyond_edge.ensures ∙ c.if-beyond_edge-2.false)
    (sym c.beyond_edge-else-beyond_edge-2.ensures ∙ c.if-beyond_edge-3.false))
