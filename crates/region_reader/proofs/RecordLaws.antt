-- The payload of a group has 16 bytes for each of its halfspaces. Assumes nothing.
use Prim.Native.Nat.{ℕ, ◌-◌, ◌/◌}
use native.Mathlib.Omega.{arith}
use mathlib.Core.Path.{◌≡◌, ap}
use mathlib.Core.List.{List}
use lib.ListN.{length, drop, length-take, length-drop}
use Rattle.region.specs.declared.Record.{Record}
use Rattle.region.specs.Reader.{length_of, payload, halfspaces_of}
use Rattle.region.proofs.ReaderLaws.{Begins}
use Rattle.region_payloads.specs.Payloads.{group_of}

pub group_of_law : (rest : List ℕ) (n : ℕ) → Begins rest (Record.Group n) → group_of (payload rest) ≡ halfspaces_of n (payload rest)
group_of_law rest n b =
    let e : length (payload rest) / 16 ≡ n = omega (arith, b.most, b.its_size, length-take (length_of rest - 4) (drop 4 rest), length-drop 4 rest) in
    ap (λ m. halfspaces_of m (payload rest)) e
