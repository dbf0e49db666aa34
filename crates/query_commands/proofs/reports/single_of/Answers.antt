-- As for doubles, with the lower 32 bits.
use Rattle.std.proofs.Common.{◌%◌, ◌^◌}
use lib.Ieee.{binary32, div, of_bits}
use Rattle.query_commands.proofs.PatternLaws.{above_infinity, no_nan}
use Rattle.query_commands.proofs.reports.single_of.Goals as goal

pub returns-then-pattern-gt-SINGLE_INFINITY : goal.returns-then-pattern-gt-SINGLE_INFINITY
unfolding div of_bits
returns-then-pattern-gt-SINGLE_INFINITY c =
    above_infinity binary32 (c.args.bits % 2 ^ 32) c.if-pattern-gt-SINGLE_INFINITY.true

pub float_from_bits-result : goal.float_from_bits-result
float_from_bits-result c = no_nan binary32 (c.args.bits % 2 ^ 32) c.if-pattern-gt-SINGLE_INFINITY.false
