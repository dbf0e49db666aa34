-- How many ranges a list has after a push: never fewer than before, since a list that is full keeps its count. Assumes nothing.
use Prim.Native.Nat.{ℕ, ◌+◌, ◌≤◌}
use mathlib.Core.Path.{◌≡◌, refl}
use mathlib.Core.Bool.{Bool, true, false}
use mathlib.Core.List.{List, [], ◌∷◌}
use native.Mathlib.Omega.{arith}
use lib.Dec.{ltb, eqb}
use lib.ListN.{length}
use Rattle.algebra.proofs.Tests.{split}
use Rattle.ranges.specs.declared.Range.{Range}
use Rattle.ranges.specs.Lists.{touch}
use Rattle.ranges.proofs.Pushing.{last_high, outer_new, outer_push, inner_close, Inner, empty, growing, inner_push, inner_end}
use Rattle.ranges_stored.specs.Stored.{closed}
use Rattle.ranges.proofs.Loop.{length_snoc}
use Rattle.ranges.proofs.OuterPass.{length_extend, length_full, push_some}
use Rattle.ranges.proofs.InnerPass.{length_inner_full}

-- ---- outer

pub push_grows : (B : ℕ) (xs : List Range) (r : Range) → length xs ≤ length (outer_push B xs r)
push_grows B [] r = omega arith
push_grows B (a ∷ xs) r =
    rw (push_some B (a ∷ xs) r (omega arith))
    (split (eqb (last_high (a ∷ xs) + 1) r.low)
    (λ t. rw t (omega (arith, length_extend (a ∷ xs) r)))
    (λ t. rw t (new (ltb (length (a ∷ xs)) B) refl)))
  where
    new : (t : Bool) → ltb (length (a ∷ xs)) B ≡ t → length (a ∷ xs) ≤ length (outer_new B (a ∷ xs) r)
    new true e = unfold outer_new in rw e (omega (arith, length_snoc (a ∷ xs) r))
    new false e = unfold outer_new in rw e (omega (arith, length_full (a ∷ xs) r (omega arith)))

-- ---- inner

close_grows : (B : ℕ) (xs : List Range) (r : Range) → length xs ≤ length (inner_close B xs r)
close_grows B [] r = omega arith
close_grows B (a ∷ xs) r = go (ltb (length (a ∷ xs)) B) refl
  where
    go : (t : Bool) → ltb (length (a ∷ xs)) B ≡ t → length (a ∷ xs) ≤ length (inner_close B (a ∷ xs) r)
    go true e = unfold inner_close in rw e (omega (arith, length_snoc (a ∷ xs) r))
    go false e = unfold inner_close in rw e (omega (arith, length_inner_full (a ∷ xs) r (omega arith)))

pub inner_push_grows : (B : ℕ) (s : Inner) (r : Range) → length (closed s) ≤ length (closed (inner_push B s r))
inner_push_grows B empty r = omega arith
inner_push_grows B (growing xs p) r = unfold inner_push in split (touch p r) (λ t. rw t (omega arith)) (λ t. rw t (close_grows B xs p))

pub inner_end_grows : (B : ℕ) (s : Inner) → length (closed s) ≤ length (inner_end B s)
inner_end_grows B empty = omega arith
inner_end_grows B (growing xs p) = unfold inner_end in close_grows B xs p
