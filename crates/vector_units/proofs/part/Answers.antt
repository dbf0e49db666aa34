-- `vector_units::part` is the rule's quotient: K a is at most 2⁶¹ in size, and no quotient by n > 0 is larger. Assumes nothing.
use Rattle.algebra.proofs.Sized.{held, nat, lit, is_mul, is_div}
use Rattle.vector_units.proofs.part.Goals as goal

pub returns : goal.returns
returns c = (is_div (is_mul (lit 1048576 tt) (held c.requires.upto tt) tt) (nat c.requires.n_nonzero.1 tt) tt).eq
