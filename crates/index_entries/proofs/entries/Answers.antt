-- `index_entries::entries` takes the first parts of six numbers behind the count. Assumes nothing.
use native.Mathlib.Omega.{arith}
use Prim.Native.Nat.{◌/◌}
use mathlib.Core.Path.{ap, ◌∙◌}
use mathlib.Core.List.{map}
use lib.ListN.{length, take, drop, length-drop}
use lib.Seq.{take_all}
use Rattle.std.specs.Simd.{first_chunks}
use Rattle.index.specs.Entries.{Width, entry_at, entries_in, entries_from}
use Rattle.index_entries.proofs.EntryLaws.{first_entries}
use Rattle.index_entries.proofs.entries.Goals as goal

pub returns : goal.returns
unfolding entries_in
returns c =
    let l = c.args.index.now in
    let all = take_all _ _ (omega (arith, length-drop 1 l)) in
    ap (λ es. map (λ e. entry_at e 0) (take c.count_in.result es)) (c.as_chunks.ensures.front ∙ ap (λ xs. first_chunks Width (length xs / Width) xs) all)
    ∙ first_entries c.count_in.result (length (drop 1 l) / Width) (drop 1 l) (omega (arith, length-drop 1 l, c.requires, c.count_in.ensures.1))
    ∙ ap (λ n. entries_from n (drop 1 l)) c.count_in.ensures.0
