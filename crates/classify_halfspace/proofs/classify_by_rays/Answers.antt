-- `classify_halfspace::classify_by_rays` is the class of the halfspace: by the rays, by the middle where none passes, or by the edges where V is not
-- positive. Assumes nothing.
use mathlib.Core.Path.{◌≡◌, sym, ap, ◌∙◌}
use borrow.Author.Tests.{not-true, not-false}
use Rattle.algebra.proofs.Sized.{held, upto_held}
use Rattle.classify_rays.specs.Rays.{rays_passed}
use Rattle.classify_prepared.proofs.PreparedLaws.{sound_small, sound_offset, sound_high}
use Rattle.classify_rays.proofs.RayLaws.{own_rays, rays_passed_law}
use Rattle.classify_halfspace.specs.Halfspaces.{class_within}
use Rattle.classify_halfspace.proofs.ClassLaws.{not_oriented, when_all, when_some, when_none}
use Rattle.classify_halfspace.proofs.classify_by_rays.Goals as goal
use Rattle.classify_halfspace.proofs.classify_by_rays.Goals.{After-count_passed-passed}

-- how many rays of the trixel pass
rays : (c : After-count_passed-passed) → c.count_passed-passed.result ≡ rays_passed c.args.q.f c.args.q.high c.args.t.now
rays c = rays_passed_law c.args.q.f c.requires.rays_of (held (sound_high c.requires.sound_halfspace) tt).eq c.count_passed-passed.ensures

pub class_by_edges-requires : goal.class_by_edges-requires
class_by_edges-requires c = record {
  small_trixel = c.requires.small_trixel;
  sound_halfspace = c.requires.sound_halfspace;
}

pub returns-then-not-s : goal.returns-then-not-s
returns-then-not-s c = c.class_by_edges.ensures ∙ sym (not_oriented c.args.q c.args.t.now (sym c.requires.rays_of.oriented ∙ not-true _ c.if-not-s.true))

pub count_passed-passed-requires : goal.count_passed-passed-requires
count_passed-passed-requires c = record {
  small = sound_small c.requires.sound_halfspace;
  upto = upto_held (sound_high c.requires.sound_halfspace) tt;
  own_rays = own_rays c.requires.rays_of;
}

pub class_by_middle-requires : goal.class_by_middle-requires
class_by_middle-requires c = record {
  t_value = sym c.requires.rays_of.oriented ∙ not-false _ c.if-not-s.false;
  rays_of = c.requires.rays_of;
  small_trixel = c.requires.small_trixel;
  sound_halfspace = c.requires.sound_halfspace;
}

pub returns-in-All : goal.returns-in-All
returns-in-All c =
    let a = rays (goal.at.returns-in-All c).After-count_passed-passed in
    c.class_within.ensures ∙ ap class_within (held (sound_offset c.requires.sound_halfspace) tt).eq
    ∙ sym (when_all c.args.q c.args.t.now (sym c.requires.rays_of.oriented ∙ not-false _ c.if-not-s.false) (sym a ∙ c.in-All.is))

pub returns-in-Some : goal.returns-in-Some
returns-in-Some c =
    let a = rays (goal.at.returns-in-Some c).After-count_passed-passed in
    sym (when_some c.args.q c.args.t.now (sym c.requires.rays_of.oriented ∙ not-false _ c.if-not-s.false) c.requires.sound_halfspace (sym a ∙ c.in-Some.is))

pub returns-in-None : goal.returns-in-None
returns-in-None c =
    let a = rays (goal.at.returns-in-None c).After-count_passed-passed in
    c.class_by_middle.ensures ∙ sym (when_none c.args.q c.args.t.now (sym c.requires.rays_of.oriented ∙ not-false _ c.if-not-s.false) (sym a ∙ c.in-None.is))
