-- A minus is passed, where there is one. Assumes nothing.
use Prim.Native.Nat.{◌<◌}
use native.Mathlib.Omega.{arith}
use Rattle.std.proofs.Common.{rules}
use mathlib.Core.Path.{ap, ◌∙◌}
use lib.ListN.{length}
use Rattle.catalogue_line.specs.Reading.{valued}
use Rattle.catalogue_line.proofs.ReadingLaws.{minus_there, no_minus_there, past}
use Rattle.catalogue_line.proofs.decimal_in.Goals as goal
use Rattle.catalogue_line.proofs.decimal_in.Goals.{in_default-via-then-bytes-lt1, in_default-via-else-bytes-lt1+in_default-1}

pub returns-in-45 : goal.returns-in-45
returns-in-45 c = c.unsigned_in.ensures ∙ ap valued (minus_there c.args.bytes.now (omega arith))

pub returns-in_default : goal.returns-in_default
returns-in_default c =
    let s = c.args.bytes.now in
    elim c.in_default.branch [
      | in_default-via-then-bytes-lt1 w ↦ let short : length s < 1 = search rules in c.unsigned_in-in_default.ensures ∙ ap valued (no_minus_there s (λ q. omega (arith, past s 0)))
      | in_default-via-else-bytes-lt1+in_default-1 w ↦ c.unsigned_in-in_default.ensures ∙ ap valued (no_minus_there s (λ q. omega arith))
    ]
