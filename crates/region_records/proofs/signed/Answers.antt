-- The four bytes, read as a number with a sign. Assumes nothing.
use Prim.Native.Nat.{◌+◌, ◌*◌}
use mathlib.Core.Path.{◌≡◌}
use lib.ListN.{get_or}
use mir.Syntax.{w32}
use mir.Val.{to_z}
use Rattle.std.proofs.Common.{rules}
use Rattle.region_records.proofs.signed.Goals as goal

pub returns : goal.returns
returns c =
    let s = c.args.s.now in
    let k = c.args.k in
    let all : c.from_le_bytes.result ≡ to_z w32 (get_or s k 0 + get_or s (k + 1) 0 * 256 + get_or s (k + 2) 0 * 65536 + get_or s (k + 3) 0 * 16777216) = c.from_le_bytes.ensures in
    search rules
