-- One push after another, in a caller's loop: what was written before the last push is written over, since the ranges do not get fewer, so the list
-- is the first one with the ranges at its front. Assumes nothing.
use Prim.Native.Nat.{ℕ, ◌≤◌}
use mathlib.Core.Path.{◌≡◌, refl, ap, ap₂, ◌∙◌, subst}
use mathlib.Core.List.{List, []}
use lib.ListN.{length}
use Rattle.ranges_stored.specs.declared.Pending.{Pending}
use Rattle.ranges.specs.declared.Range.{Range}
use Rattle.ranges.specs.Ranges.{pairs, ranges_in}
use Rattle.ranges.proofs.Pushing.{outer_push, Inner, empty, inner_push, inner_end}
use Rattle.ranges_stored.specs.Stored.{written, Writes, nothing_yet, closed, state_of, Stores}
use Rattle.ranges_stored.proofs.StoredLaws.{in_written, written_over}
use Rattle.ranges_lists.proofs.Counts.{push_grows, inner_push_grows, inner_end_grows}
use Rattle.ranges_lists.proofs.InnerStored.{state_none}

pub writes_none : (l : List ℕ) → Writes [] l l 0
unfolding pairs
writes_none l = record { count = refl; list = refl }

pub writes_in : (xs : List Range) (l₀ l : List ℕ) (n : ℕ) → Writes xs l₀ l n → ranges_in n l ≡ xs
writes_in xs l₀ l n w = ap₂ ranges_in w.count w.list ∙ in_written xs l₀

writes_over : (xs ys : List Range) (l₀ : List ℕ) {l l' : List ℕ} {n : ℕ} → length xs ≤ length ys → l ≡ written xs l₀ → Writes ys l l' n → Writes ys l₀ l' n
writes_over xs ys l₀ h e w = record { count = w.count; list = w.list ∙ ap (written ys) e ∙ written_over xs ys l₀ h }

pub writes_push : (B : ℕ) (xs : List Range) (r : Range) (l₀ l l' : List ℕ) (n n' : ℕ)
    → Writes xs l₀ l n → Writes (outer_push B (ranges_in n l) r) l l' n' → Writes (outer_push B xs r) l₀ l' n'
writes_push B xs r l₀ l l' n n' w v =
    writes_over xs (outer_push B xs r) l₀ (push_grows B xs r) w.list (subst (λ ys. Writes (outer_push B ys r) l l' n') (writes_in xs l₀ l n w) v)

pub stores_none : (l : List ℕ) → Stores empty l l nothing_yet
stores_none l = record { state = state_none nothing_yet l refl; stored = writes_none l }

module _ (B : ℕ) (s : Inner) (l₀ l l' : List ℕ) (p : Pending) (k : Stores s l₀ l p) where
  pub stores_push : (r : Range) (p' : Pending) → Stores (inner_push B (state_of p l) r) l l' p' → Stores (inner_push B s r) l₀ l' p'
  stores_push r p' v =
      let u = subst (λ t. Stores (inner_push B t r) l l' p') k.state v in
      record { state = u.state; stored = writes_over (closed s) (closed (inner_push B s r)) l₀ (inner_push_grows B s r) k.stored.list u.stored }

  pub stores_end : (n : ℕ) → Writes (inner_end B (state_of p l)) l l' n → Writes (inner_end B s) l₀ l' n
  stores_end n v =
      writes_over (closed s) (inner_end B s) l₀ (inner_end_grows B s) k.stored.list (subst (λ t. Writes (inner_end B t) l l' n) k.state v)
