-- `mesh_jump::is_above` compares what is left of the first number with the margin. Assumes nothing.
use mathlib.Core.Path.{sym, ◌∙◌}
use Rattle.algebra.proofs.Sized.{held, is_sub, same_lt}
use Rattle.algebra.proofs.Tests.{lt_yes}
use Rattle.mesh_jump.proofs.is_above.Goals as goal

pub returns : goal.returns
returns c =
    let w = c.requires in
    λ e. lt_yes (sym (same_lt (held w.margin tt) (is_sub (is_sub (held w.d0 tt) (held w.d1 tt) tt) (held w.d2 tt) tt)) ∙ e)
