-- An entry and its numbers: those at the front of a list, and those from a place on. Assumes nothing.
use Prim.Native.Nat.{ℕ, zero, suc, ◌+◌, ◌≤◌, ◌<◌}
use mathlib.Core.Path.{◌≡◌, sym, ap, ◌∙◌, refl}
use mathlib.Core.List.{List, [], ◌∷◌, map}
use native.Mathlib.Omega.{arith}
use lib.ListN.{length, get_or, take, drop, length-drop}
use lib.IntN.{ℤ, pos}
use lib.Seq.{get_or-drop, get_or-take}
use Rattle.std.specs.Simd.{first_chunks}
use Rattle.vector.specs.Vectors.{vec}
use Rattle.index.specs.Entries.{entry, Width, numbers, entry_at, entries_from}

pub first : (l : List ℤ) → Width ≤ length l → take Width l ≡ numbers (entry_at l 0)
first [] h = absurd (omega arith)
first (a ∷ []) h = absurd (omega arith)
first (a ∷ b ∷ []) h = absurd (omega arith)
first (a ∷ b ∷ x ∷ []) h = absurd (omega arith)
first (a ∷ b ∷ x ∷ y ∷ []) h = absurd (omega arith)
first (a ∷ b ∷ o ∷ x ∷ y ∷ []) h = absurd (omega arith)
first (a ∷ b ∷ o ∷ x ∷ y ∷ z ∷ l) h = refl

pub entry_drop : (a : ℕ) (l : List ℤ) → entry_at (drop a l) 0 ≡ entry_at l a
entry_drop a l =
    let e : a + 0 ≡ a = omega arith in
    let at : (k : ℕ) → get_or (drop a l) k (pos 0) ≡ get_or l (a + k) (pos 0) = λ k. get_or-drop a l k (pos 0) in
    let id = at 0 ∙ ap (λ m. get_or l m (pos 0)) e in
    λ i. entry (id i) (at 1 i) (at 2 i) (vec (at 3 i) (at 4 i) (at 5 i))

pub numbers_at : (a : ℕ) (l : List ℤ) → a + Width ≤ length l → numbers (entry_at l a) ≡ take Width (drop a l)
numbers_at a l h = ap numbers (sym (entry_drop a l)) ∙ sym (first (drop a l) (omega (arith, length-drop a l)))

-- the first n of a list's parts of six numbers
pub first_entries : (n m : ℕ) (l : List ℤ) → n ≤ m → map (λ e. entry_at e 0) (take n (first_chunks Width m l)) ≡ entries_from n l
unfolding entries_from
first_entries zero m l h = refl
first_entries (suc n) zero l h = absurd (omega arith)
first_entries (suc n) (suc m) l h =
    let at : (k : ℕ) → k < Width → get_or (take Width l) k (pos 0) ≡ get_or l k (pos 0) = λ k p. get_or-take Width l k (pos 0) p in
    λ i.
    entry (at 0 (omega arith) i) (at 1 (omega arith) i) (at 2 (omega arith) i) (vec (at 3 (omega arith) i) (at 4 (omega arith) i) (at 5 (omega arith) i))
    ∷ first_entries n m (drop Width l) (omega arith) i
