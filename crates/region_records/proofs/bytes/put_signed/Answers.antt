-- The four bytes are those of the number, in their order. Assumes nothing.
use native.Mathlib.Omega.{arith}
use mathlib.Core.Path.{◌≡◌}
use Rattle.std.proofs.lemmas.Grind.{common_steps}
use Rattle.region_records.proofs.bytes.put_signed.Goals as goal

pub returns : goal.returns
returns c =
    let all : c.copy_from_slice.new.self ≡ c.to_le_bytes-bytes.result = c.copy_from_slice.ensures.after in
    grind (arith, common_steps)
