-- Ranges as they are lent, from one of them on. Assumes nothing.
use Prim.Native.Nat.{ℕ, zero, suc, ◌+◌, ◌≤◌}
use mathlib.Core.Path.{◌≡◌, refl, ap, ◌∙◌}
use mathlib.Core.List.{List, [], ◌∷◌}
use native.Mathlib.Omega.{arith}
use lib.Dec.{ltb}
use lib.ListN.{get_or, take, drop}
use Rattle.algebra.proofs.Tests.{split}
use Rattle.std.specs.List.{prefix_len}
use Rattle.std.specs.Simd.{first_chunks}
use Rattle.ranges.specs.Ranges.{range, ranges_in}
use Rattle.frames.specs.Walk.{ahead}
use Rattle.frames_walk.specs.Lent.{ranges_of}

-- the first n pairs are the first n ranges
pub first_pairs : (n m : ℕ) (l : List ℕ) → n ≤ m → ranges_of (take n (first_chunks 2 m l)) ≡ ranges_in n l
unfolding ranges_in
first_pairs zero m l h = refl
first_pairs (suc n) zero l h = absurd (omega arith)
first_pairs (suc n) (suc m) [] h = ap (λ rs. range 0 0 ∷ rs) (first_pairs n m [] (omega arith))
first_pairs (suc n) (suc m) (x ∷ []) h = ap (λ rs. range x 0 ∷ rs) (first_pairs n m [] (omega arith))
first_pairs (suc n) (suc m) (x ∷ y ∷ l) h = ap (λ rs. range x y ∷ rs) (first_pairs n m l (omega arith))

-- past those that end below an identifier
pub ahead_of : (id : ℕ) (ps : List (List ℕ)) → ranges_of (drop (prefix_len (λ r. ltb (get_or r 1 0) id) ps) ps) ≡ ahead id (ranges_of ps)
unfolding ahead
ahead_of id [] = refl
ahead_of id (p ∷ ps) =
    let n = prefix_len (λ r. ltb (get_or r 1 0) id) ps in
    let one : 1 + n ≡ suc n = omega arith in
    split (ltb (get_or p 1 0) id) (λ e. rw e (ap (λ k. ranges_of (drop k (p ∷ ps))) one ∙ ahead_of id ps)) (λ e. rw e)
