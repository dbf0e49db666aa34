-- `classify_prepared::high_of` is G of e, which is at most K. Assumes nothing.
use Prim.Native.Nat.{◌^◌}
use native.Mathlib.Omega.{arith}
use mathlib.Core.Path.{sym, subst}
use Rattle.algebra.proofs.Sizes.{Upto}
use Rattle.algebra.proofs.Sized.{nat}
use Rattle.classify_prepared.proofs.PreparedLaws.{high_most}
use Rattle.classify_prepared.proofs.high_of.Goals as goal

pub overflow_cast-result : goal.overflow_cast-result
overflow_cast-result c = record { sfits = omega arith }

pub returns : goal.returns
returns c = let e = (nat (high_most c.requires).le tt).eq in (e, subst (Upto (2 ^ 21)) (sym e) (high_most c.requires))
