-- `classify_cap::root_above` is the number of the rule: at 2 to the k, as many steps are left as there are numbers from k on. Assumes nothing.
use Prim.Native.Nat.{ℕ, ◌-◌, ◌^◌}
use mathlib.Core.Path.{◌≡◌}
use Rattle.classify_cap.specs.Middle.{first_above, root_above}
use Rattle.classify_cap.proofs.root_above.Given as goal

-- the numbers that are tried end below 2 to this
abbrev pub end : ℕ
end = 21

abbrev pub invariant-loop-k : goal.invariant-loop-k
invariant-loop-k l = first_above (end - l.k) (2 ^ l.k) l.s ≡ root_above l.s
