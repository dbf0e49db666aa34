-- A blank is passed, and without one there is no decimal. Assumes nothing.
use Prim.Native.Nat.{◌<◌}
use native.Mathlib.Omega.{arith}
use Rattle.std.proofs.Common.{rules}
use lib.ListN.{length}
use mathlib.Core.Path.{ap, ◌∙◌}
use Rattle.catalogue_line.specs.Reading.{valued}
use Rattle.catalogue_line.proofs.ReadingLaws.{blank_there, no_blank_there, past}
use Rattle.catalogue_line.proofs.next_in.Goals as goal
use Rattle.catalogue_line.proofs.next_in.Goals.{in_default-via-then-bytes-lt1, in_default-via-else-bytes-lt1+in_default-1}

pub returns-in-32 : goal.returns-in-32
returns-in-32 c = c.decimal_in.ensures ∙ ap valued (blank_there c.args.bytes.now (omega arith))

pub returns-in_default : goal.returns-in_default
returns-in_default c =
    let s = c.args.bytes.now in
    elim c.in_default.branch [
      | in_default-via-then-bytes-lt1 w ↦ let short : length s < 1 = search rules in ap valued (no_blank_there s (λ q. omega (arith, past s 0)))
      | in_default-via-else-bytes-lt1+in_default-1 w ↦ ap valued (no_blank_there s (λ q. omega arith))
    ]
