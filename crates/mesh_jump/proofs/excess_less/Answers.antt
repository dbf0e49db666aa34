-- `mesh_jump::excess_less` calls `less` with what two numbers have beyond a third. Assumes nothing.
use mathlib.Core.Path.{◌∙◌}
use Rattle.algebra.proofs.Sized.{held, is_add, is_sub, upto_held}
use Rattle.mesh_jump.specs.Jumps.{less_of}
use Rattle.mesh_jump.proofs.excess_less.Goals as goal

pub returns : goal.returns
returns g c =
    let w = c.requires.upto in
    let r = c.less.ensures in (
      (held r.1 tt).eq ∙ r.0 ∙ (λ i. less_of ((is_sub (is_add (held w.0 tt) (held w.1 tt) tt) (held w.2 tt) tt).eq i) ((held c.requires.upto_2 tt).eq i)),
      upto_held r.1 tt,
    )
