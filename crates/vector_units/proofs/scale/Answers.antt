-- `vector_units::scale` is Scale: K times the components, divided by the largest of them. Assumes nothing.
use mathlib.Core.Path.{sym, ap, subst, ◌∙◌}
use Rattle.vector.specs.Vectors.{divided_by, scale}
use Rattle.vector.proofs.Sizes.{Small}
use Rattle.vector.proofs.SizeLaws.{scale_small}
use Rattle.vector_units.proofs.scale.Goals as goal

pub returns : goal.returns
unfolding scale
returns c =
    let v = c.args.c in
    let e = c.divided.ensures ∙ ap (λ n. divided_by n v) c.largest.ensures in
    record {
      value = e;
      small = subst Small (sym e) (scale_small v);
    }
