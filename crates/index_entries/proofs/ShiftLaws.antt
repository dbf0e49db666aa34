-- Entries that move up, the last one first: with i left, the list is `raised` from there on. Assumes nothing.
use Prim.Native.Nat.{ℕ, ◌+◌, ◌*◌, ◌-◌, ◌≤◌, ◌<◌}
use mathlib.Core.Path.{◌≡◌, sym, ap, ap₂, ◌∙◌}
use mathlib.Core.List.{List, ◌++◌, append_assoc}
use native.Mathlib.Omega.{arith}
use lib.ListN.{length, get_or, take, drop, length-append, get_or-append}
use lib.IntN.{ℤ, pos}
use lib.Seq.{paste, paste-zero, length-take-le, get_or-take, take-append-le, take-take, take-add, drop_at, drop-drop}
use Rattle.answer.specs.Lent.{put}
use Rattle.index.specs.declared.Entry.{Entry}
use Rattle.vector.specs.Vectors.{vec}
use Rattle.index.specs.Entries.{entry, Width, numbers, entry_at}
use Rattle.index_entries.specs.Steps.{raised}
use Rattle.index_entries.proofs.EntryLaws.{numbers_at}

pub raised_start : (at : ℕ) (l : List ℤ) (k : ℕ) → k ≡ 0 → l ≡ raised at l k
unfolding raised
raised_start at l k e = paste-zero l (at + Width) (drop at l) ∙ ap (paste l (at + Width) (drop at l)) (sym e)

-- an entry put where elements were raised from: the elements before it and after it
module _ (k m : ℕ) (e : Entry) (l : List ℤ) (fits : k + m + Width ≤ length l) where
  pub put_raised : put k (numbers e) (raised k l m) ≡ take k l ++ (numbers e ++ (take m (drop k l) ++ drop (k + Width + m) l))
  unfolding raised
  put_raised =
      let a : List ℤ = take (k + Width) l in
      let b : List ℤ = take m (drop k l) in
      let r : List ℤ = drop (k + Width + m) l in
      let n : length a ≡ k + Width = length-take-le (k + Width) l (omega arith) in
      ap₂ (λ u v. u ++ (numbers e ++ v))
      (ap (take k) (append_assoc a b r) ∙ take-append-le k a (b ++ r) (omega arith) ∙ take-take k (k + Width) l (omega arith))
      (ap (drop (k + Width)) (append_assoc a b r) ∙ drop_at a (b ++ r) (k + Width) n)

-- the elements from number k + Width on have moved, and then the entry of number k
module _ (k : ℕ) (l : List ℤ) (m : ℕ) (fits : k + Width + m + Width ≤ length l) where
  raised_read : (j : ℕ) → j < k + Width → get_or (raised (k + Width) l m) j (pos 0) ≡ get_or l j (pos 0)
  unfolding raised
  raised_read j h =
      let a : List ℤ = take (k + Width + Width) l in
      let b : List ℤ = take m (drop (k + Width) l) in
      let n : length a ≡ k + Width + Width = length-take-le (k + Width + Width) l (omega arith) in
      get_or-append (a ++ b) (drop (k + Width + Width + m) l) (pos 0) j (omega (arith, length-append a b))
      ∙ get_or-append a b (pos 0) j (omega arith)
      ∙ get_or-take (k + Width + Width) l j (pos 0) (omega arith)

  entry_read : entry_at (raised (k + Width) l m) k ≡ entry_at l k
  entry_read =
      let at : (j : ℕ) → j < k + Width → get_or (raised (k + Width) l m) j (pos 0) ≡ get_or l j (pos 0) = raised_read in
      λ i. entry (at k (omega arith) i) (at (k + 1) (omega arith) i) (at (k + 2) (omega arith) i) (vec (at (k + 3) (omega arith) i) (at (k + 4) (omega arith) i) (at (k + 5) (omega arith) i))

  entry_raised : put (k + Width) (numbers (entry_at l k)) (raised (k + Width) l m) ≡ raised k l (Width + m)
  unfolding raised
  entry_raised =
      let a : List ℤ = take (k + Width) l in
      let n : List ℤ = take Width (drop k l) in
      let d : k + Width + Width + m ≡ k + Width + (Width + m) = omega arith in
      put_raised (k + Width) m (entry_at l k) l fits
      ∙ (λ i. a ++ (numbers_at k l (omega arith) i ++ (take m (sym (drop-drop Width k l) i) ++ drop (d i) l)))
      ∙ ap (λ x. a ++ x) (sym (append_assoc n (take m (drop Width (drop k l))) (drop (k + Width + (Width + m)) l)))
      ∙ ap (λ x. a ++ (x ++ drop (k + Width + (Width + m)) l)) (sym (take-add Width m (drop k l)))
      ∙ sym (append_assoc a (take (Width + m) (drop k l)) (drop (k + Width + (Width + m)) l))

-- as above, for a loop: of n entries i are left, and then one fewer
module _ (n i : ℕ) (l m : List ℤ) (is : m ≡ raised (1 + Width * i) l (Width * (n - i))) (some : 0 < i) (few : i ≤ n) (fits : 1 + Width + Width * n ≤ length l) where
  k : ℕ
  k = 1 + Width * (i - 1)

  here : 1 + Width * i ≡ k + Width
  unfolding k
  here = omega arith

  moved : m ≡ raised (k + Width) l (Width * (n - i))
  moved = is ∙ ap (λ j. raised j l (Width * (n - i))) here

  room : k + Width + Width * (n - i) + Width ≤ length l
  unfolding k
  room = omega arith

  pub raised_entry : entry_at m (1 + Width * (i - 1)) ≡ entry_at l (1 + Width * (i - 1))
  unfolding k
  raised_entry = ap (λ x. entry_at x k) moved ∙ entry_read k l (Width * (n - i)) room

  pub raised_step : put (1 + Width * i) (numbers (entry_at l (1 + Width * (i - 1)))) m ≡ raised (1 + Width * (i - 1)) l (Width * (n - (i - 1)))
  unfolding k
  raised_step =
      let s : Width + Width * (n - i) ≡ Width * (n - (i - 1)) = omega arith in
      (λ j. put (here j) (numbers (entry_at l k)) (moved j)) ∙ entry_raised k l (Width * (n - i)) room ∙ ap (raised k l) s
