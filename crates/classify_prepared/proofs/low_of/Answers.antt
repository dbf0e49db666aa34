-- `classify_prepared::low_of` is D of e, which is at most K. Assumes nothing.
use native.Mathlib.Omega.{arith}
use mathlib.Core.Path.{sym, subst}
use Rattle.algebra.proofs.Sizes.{Upto}
use Rattle.algebra.proofs.Sized.{nat}
use Rattle.vector.specs.Numbers.{Kℕ}
use Rattle.classify_prepared.proofs.PreparedLaws.{low_most}
use Rattle.classify_prepared.proofs.low_of.Goals as goal

pub overflow_cast-result : goal.overflow_cast-result
overflow_cast-result c = record { sfits = omega arith }

pub returns : goal.returns
returns c = let e = (nat (low_most c.requires).le tt).eq in (e, subst (Upto Kℕ) (sym e) (low_most c.requires))
