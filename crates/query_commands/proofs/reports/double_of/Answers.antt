-- 0 / 0 stands for the patterns of a NaN, which are those above an infinity's.
use lib.Ieee.{binary64, div, of_bits}
use Rattle.query_commands.proofs.PatternLaws.{above_infinity, no_nan}
use Rattle.query_commands.proofs.reports.double_of.Goals as goal

pub returns-then-bits-gt-DOUBLE_INFINITY : goal.returns-then-bits-gt-DOUBLE_INFINITY
unfolding div of_bits
returns-then-bits-gt-DOUBLE_INFINITY c = above_infinity binary64 c.args.bits c.if-bits-gt-DOUBLE_INFINITY.true

pub float_from_bits-result : goal.float_from_bits-result
float_from_bits-result c = no_nan binary64 c.args.bits c.if-bits-gt-DOUBLE_INFINITY.false
