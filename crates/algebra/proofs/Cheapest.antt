-- The cheapest way to take n of some things is to take a cheapest one again and again. Only their costs matter: any n + 1 of them cost at
-- least what a cheapest one costs and what any n of the others do. If the cheapest one is among them, the rest are n of the others; if it is not, any
-- one of them costs as much or more. Which one is taken among equals plays no part. Assumes nothing.
use Prim.Native.Nat.{ℕ, zero, suc, ◌+◌, ◌-◌, ◌≤◌}
use mathlib.Core.Path.{◌≡◌}
use mathlib.Core.List.{List, [], ◌∷◌, ◌++◌}
use native.Mathlib.Omega.{arith}
use Rattle.algebra.proofs.Costs.{Costs, NoneBelow}

pub none_below_less : (b c : ℕ) (xs : List ℕ) → b ≤ c → NoneBelow c xs → NoneBelow b xs
none_below_less b c [] h l = tt
none_below_less b c (x ∷ xs) h l = (omega arith, none_below_less b c xs h l.1)

costs_less : (v u n : ℕ) (xs : List ℕ) → u ≤ v → Costs v n xs → Costs u n xs
costs_less v u zero xs h s = omega arith
costs_less v u (suc n) [] h s = tt
costs_less v u (suc n) (x ∷ xs) h s = (costs_less (v - x) (u - x) n xs (omega arith) s.0, costs_less v u (suc n) xs h s.1)

-- the first of them is taken, or it is not
pub costs_taken : (v n x : ℕ) (xs : List ℕ) → Costs v n (x ∷ xs) → Costs (v - x) (n - 1) xs
costs_taken v zero x xs s = omega arith
costs_taken v (suc n) x xs s = let e : suc n - 1 ≡ n = omega arith in rw e s.0

pub costs_left : (v n x : ℕ) (xs : List ℕ) → Costs v n (x ∷ xs) → Costs v n xs
costs_left v zero x xs s = s
costs_left v (suc n) x xs s = s.1

-- where none costs less than c, any n + 1 cost at least c more than any n
costs_more : (c v n : ℕ) (xs : List ℕ) → NoneBelow c xs → Costs v n xs → Costs (c + v) (suc n) xs
costs_more c v n [] l s = tt
costs_more c v zero (x ∷ xs) l s = (omega arith, costs_more c v zero xs l.1 s)
costs_more c v (suc n) (x ∷ xs) l s = (
  costs_less (c + (v - x)) (c + v - x) (suc n) xs (omega arith) (costs_more c (v - x) n xs l.1 s.0),
  costs_more c v (suc n) xs l.1 s.1,
)

-- m is a cheapest one, wherever it stands
pub cheapest_first : (m : ℕ) (xs ys : List ℕ) (v n : ℕ) → NoneBelow m (xs ++ m ∷ ys) → Costs v n (xs ++ ys) → Costs (m + v) (suc n) (xs ++ m ∷ ys)
cheapest_first m [] ys v n l s = (costs_less v (m + v - m) n ys (omega arith) s, costs_more m v n ys l.1 s)
cheapest_first m (x ∷ xs) ys v zero l s = (omega arith, cheapest_first m xs ys v zero l.1 s)
cheapest_first m (x ∷ xs) ys v (suc n) l s = (
  costs_less (m + (v - x)) (m + v - x) (suc n) (xs ++ m ∷ ys) (omega arith) (cheapest_first m xs ys (v - x) n l.1 s.0),
  cheapest_first m xs ys v (suc n) l.1 s.1,
)
