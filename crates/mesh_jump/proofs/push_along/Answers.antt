-- `mesh_jump::push_along` is five times the sum of the components as S0 has them. Assumes nothing.
use Prim.Native.Nat.{◌*◌, ◌^◌}
use mathlib.Core.Path.{sym, subst}
use Rattle.algebra.proofs.Sizes.{Upto}
use Rattle.algebra.proofs.Sized.{held, lit, is_add, is_sub, is_mul}
use Rattle.mesh_jump.proofs.push_along.Goals as goal

pub returns : goal.returns
returns c =
    let w = c.requires in
    let r = is_mul (lit 5 tt) (is_sub (is_add (held w.x tt) (held w.y tt) tt) (held w.z tt) tt) tt in
    (r.eq, subst (Upto (15 * 2 ^ 41)) (sym r.eq) r.size)
