-- What some things cost at least, and where none is cheaper. Assumes nothing.
use Prim.Native.Nat.{ℕ, zero, suc, ◌-◌, ◌≤◌}
use mathlib.Core.List.{List, [], ◌∷◌}

-- any n of xs cost v or more: the first is one of them, or it is not
abbrev pub Costs : ℕ → ℕ → List ℕ → Type 0
Costs v zero xs = v ≤ 0
Costs v (suc n) [] = Unit {0}
Costs v (suc n) (x ∷ xs) = Costs (v - x) n xs × Costs v (suc n) xs

-- none of xs costs less than c
abbrev pub NoneBelow : ℕ → List ℕ → Type 0
NoneBelow c [] = Unit {0}
NoneBelow c (x ∷ xs) = (c ≤ x) × NoneBelow c xs
