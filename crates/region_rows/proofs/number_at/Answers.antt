-- `region_rows::number_at` is the number, which is the same in 64 bits as in 32. Assumes nothing.
use Prim.Native.Nat.{◌^◌}
use mathlib.Core.Path.{sym, subst}
use native.Mathlib.Omega.{arith}
use lib.ListN.{get_or}
use lib.IntN.{pos}
use lib.Signed.{nat_abs-le}
use mir.Syntax.{w32}
use mir.Val.{SFits}
use Rattle.algebra.proofs.Sizes.{Upto}
use Rattle.algebra.proofs.Sized.{fits_wider, same_wider}
use Rattle.region_rows.proofs.number_at.Goals as goal

pub overflow_cast-result : goal.overflow_cast-result
overflow_cast-result c = fits_wider {z = get_or c.args.rows.now c.args.k (pos 0)} (record { sfits = omega arith })

pub returns : goal.returns
returns c =
    let n = get_or c.args.rows.now c.args.k (pos 0) in
    let f : SFits w32 n = record { sfits = omega arith } in
    (same_wider f, subst (Upto (2 ^ 31)) (sym (same_wider f)) (record { le = nat_abs-le n f.sfits }))
