-- `htm::index_from_c::htm_index_count` is the count, which is at most 2048, or minus the refusal. Assumes nothing.
use native.Mathlib.Omega.{arith}
use mathlib.Core.Path.{sym, ◌∙◌}
use Rattle.index.proofs.WrittenLaws.{count_few}
use Rattle.htm.proofs.index_from_c.htm_index_count.Goals as goal

pub number_or_minus-requires : goal.number_or_minus-requires
number_or_minus-requires c n e = omega (arith, count_few _ n (sym c.index_count.ensures ∙ e))
