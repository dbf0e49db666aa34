-- `mesh_jump::twice_less` calls `less` with twice the number. Assumes nothing.
use mathlib.Core.Path.{◌∙◌}
use Rattle.algebra.proofs.Sized.{held, lit, is_mul, upto_held}
use Rattle.mesh_jump.specs.Jumps.{less_of}
use Rattle.mesh_jump.proofs.twice_less.Goals as goal

pub returns : goal.returns
returns g c =
    let r = c.less.ensures in (
      (held r.1 tt).eq ∙ r.0 ∙ (λ i. less_of ((is_mul (lit 2 tt) (held c.requires.pos_bound.1 tt) tt).eq i) ((held c.requires.upto tt).eq i)),
      upto_held r.1 tt,
    )
