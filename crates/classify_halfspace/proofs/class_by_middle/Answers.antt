-- `classify_halfspace::class_by_middle` is the class where within does not hold: apart where f is far, and else by the edges. Assumes nothing.
use mathlib.Core.Path.{sym, ap, ◌∙◌}
use Rattle.algebra.proofs.Sized.{held}
use Rattle.classify_halfspace.specs.Halfspaces.{class_apart}
use Rattle.classify_prepared.proofs.PreparedLaws.{sound_offset}
use Rattle.classify_halfspace.proofs.ClassLaws.{apart_far, apart_near}
use Rattle.classify_halfspace.proofs.class_by_middle.Goals as goal

pub returns-then-apart : goal.returns-then-apart
returns-then-apart c =
    c.class_apart.ensures ∙ ap class_apart (held (sound_offset c.requires.sound_halfspace) tt).eq
    ∙ sym (apart_far c.args.q c.args.t.now c.requires.t_value (sym c.far_from-apart.ensures ∙ c.if-apart.true))

pub returns-else-apart : goal.returns-else-apart
returns-else-apart c = c.class_by_edges.ensures ∙ sym (apart_near c.args.q c.args.t.now (sym c.far_from-apart.ensures ∙ c.if-apart.false))
