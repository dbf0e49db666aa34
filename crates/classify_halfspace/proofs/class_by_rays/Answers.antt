-- `classify_halfspace::class_by_rays` is the class where apart does not hold by the bounding cap: within where all rays pass, else by the edges, of which
-- f is beyond none where D is 0. Assumes nothing.
use mathlib.Core.Path.{◌≡◌, sym, ap, ◌∙◌}
use mathlib.Core.Bool.{true}
use lib.IntN.{pos}
use lib.Signed.{le_z}
use Rattle.algebra.proofs.Sized.{held, upto_held}
use Rattle.mesh.specs.declared.Trixel.{Trixel}
use Rattle.classify_prepared.specs.declared.TrixelRays.{TrixelRays}
use Rattle.classify_prepared.specs.Measures.{RaysOf}
use Rattle.classify.specs.Shape.{positive, volume}
use Rattle.classify.proofs.RaysFirst.{all_pass}
use Rattle.classify_halfspace.specs.Halfspaces.{class_within, edges_class, rays_class}
use Rattle.classify_prepared.proofs.PreparedLaws.{sound_small, sound_offset, sound_high}
use Rattle.classify_cap.proofs.CapLaws.{sound_beside}
use Rattle.classify_rays.proofs.RayLaws.{own_rays, rays_all}
use Rattle.classify_halfspace.proofs.ClassLaws.{rays_within, rays_edges}
use Rattle.classify_halfspace.proofs.EdgeLaws.{flat}
use Rattle.classify_halfspace.proofs.class_by_rays.Goals as goal
use Rattle.classify_halfspace.proofs.class_by_rays.Goals.{After-all_pass-all, Else-all}

oriented : {t : Trixel} {s : TrixelRays} → RaysOf t s → s.oriented ≡ true → positive (volume t) ≡ true
oriented h e = sym h.oriented ∙ e

-- whether all rays of the trixel pass
rays : (c : After-all_pass-all) → c.all_pass-all.result ≡ all_pass c.args.q.f c.args.q.high c.args.t.now
rays c = rays_all c.args.q.f c.requires.rays_of.0 (held (sound_high c.requires.sound_halfspace) tt).eq c.all_pass-all.ensures

-- where not all pass, the class is that by the edges
edges : (c : Else-all) → rays_class c.args.q c.args.t.now ≡ edges_class c.args.q c.args.t.now
edges c =
    let passed = rays_all c.args.q.f c.requires.rays_of.0 (held (sound_high c.requires.sound_halfspace) tt).eq c.all_pass-all.ensures in
    rays_edges c.args.q c.args.t.now (oriented c.requires.rays_of.0 c.requires.rays_of.1) (sym passed ∙ c.if-all.false)

pub all_pass-all-requires : goal.all_pass-all-requires
all_pass-all-requires c = record {
  small = sound_small c.requires.sound_halfspace;
  upto = upto_held (sound_high c.requires.sound_halfspace) tt;
  own_rays = own_rays c.requires.rays_of.0;
}

pub returns-then-all : goal.returns-then-all
returns-then-all c =
    let r = rays (goal.at.returns-then-all c).After-all_pass-all in
    c.class_within.ensures ∙ ap class_within (held (sound_offset c.requires.sound_halfspace) tt).eq
    ∙ sym (rays_within c.args.q c.args.t.now (oriented c.requires.rays_of.0 c.requires.rays_of.1) (sym r ∙ c.if-all.true))

pub returns-then-q-le0 : goal.returns-then-q-le0
returns-then-q-le0 c =
    let h = c.requires.sound_halfspace in
    sym (edges (goal.at.returns-then-q-le0 c).Else-all ∙ flat c.args.q c.args.t.now h (ap (λ z. le_z z (pos 0)) (sym (held (sound_beside h).size tt).eq) ∙ c.if-q-le0.true))

pub class_by_edges-requires : goal.class_by_edges-requires
class_by_edges-requires c = record {
  small_trixel = c.requires.small_trixel;
  sound_halfspace = c.requires.sound_halfspace;
}

pub returns : goal.returns
returns c = c.class_by_edges.ensures ∙ sym (edges (goal.at.returns c).Else-all)
