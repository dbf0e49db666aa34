-- `classify_halfspace::classify_one` is the class: by the edges where V is not positive, apart where f is far, within where the cap is enclosed, else
-- by the rays. Assumes nothing.
use mathlib.Core.Path.{sym, ap, ◌∙◌}
use borrow.Author.Tests.{not-true, not-false}
use Rattle.algebra.proofs.Sized.{held}
use Rattle.classify_halfspace.specs.Halfspaces.{class_within, class_apart}
use Rattle.classify_prepared.proofs.PreparedLaws.{sound_offset}
use Rattle.classify_halfspace.proofs.ClassLaws.{not_oriented, when_enclosed, when_far, when_near}
use Rattle.classify_halfspace.proofs.classify_one.Goals as goal

pub class_by_edges-requires : goal.class_by_edges-requires
class_by_edges-requires c = record {
  small_trixel = c.requires.small_trixel;
  sound_halfspace = c.requires.sound_halfspace;
}

pub returns-then-not-s : goal.returns-then-not-s
returns-then-not-s c = c.class_by_edges.ensures ∙ sym (not_oriented c.args.q c.args.t.now (sym c.requires.rays_of.oriented ∙ not-true _ c.if-not-s.true))

pub far-requires : goal.far-requires
far-requires c = record {
  sound_halfspace = c.requires.sound_halfspace;
  bounding_cap = c.requires.bounding_cap;
}

pub returns-then-far : goal.returns-then-far
returns-then-far c =
    c.class_apart.ensures ∙ ap class_apart (held (sound_offset c.requires.sound_halfspace) tt).eq
    ∙ sym (when_far c.args.q c.args.t.now (sym c.requires.rays_of.oriented ∙ not-false _ c.if-not-s.false) c.requires.sound_halfspace (sym c.far.ensures ∙ c.if-far.true))

pub encloses-requires : goal.encloses-requires
encloses-requires c = record {
  sound_halfspace = c.requires.sound_halfspace;
  bounding_cap = c.requires.bounding_cap;
}

pub returns-then-encloses : goal.returns-then-encloses
returns-then-encloses c =
    c.class_within.ensures ∙ ap class_within (held (sound_offset c.requires.sound_halfspace) tt).eq
    ∙ sym (when_enclosed c.args.q c.args.t.now (sym c.requires.rays_of.oriented ∙ not-false _ c.if-not-s.false) c.requires.sound_halfspace (sym c.encloses.ensures ∙ c.if-encloses.true))

pub class_by_rays-requires : goal.class_by_rays-requires
class_by_rays-requires c = record {
  rays_of = (c.requires.rays_of, not-false _ c.if-not-s.false);
  small_trixel = c.requires.small_trixel;
  sound_halfspace = c.requires.sound_halfspace;
}

pub returns : goal.returns
returns c = c.class_by_rays.ensures ∙ sym (when_near c.args.q c.args.t.now (sym c.far.ensures ∙ c.if-far.false))
