-- Elements that move up by the width of an entry make room for one, and elements that move down take one away: by recursion over the entries before that
-- place. Assumes nothing.
use Prim.Native.Nat.{ℕ, zero, suc, ◌+◌, ◌*◌, ◌-◌, ◌≤◌, ◌<◌}
use mathlib.Core.Path.{◌≡◌, sym, ap, ap₂, ◌∙◌, refl}
use mathlib.Core.List.{List, [], ◌∷◌, ◌++◌, append_assoc}
use native.Mathlib.Omega.{arith}
use lib.ListN.{length, take, drop, set, length-drop}
use lib.IntN.{ℤ}
use lib.Seq.{take-add, drop-drop}
use Rattle.answer.specs.Lent.{put}
use Rattle.index.specs.declared.Entry.{Entry}
use Rattle.index.specs.Entries.{Width, numbers, entry_at, entries_from, written}
use Rattle.algebra.specs.Moves.{shifted_down}
use Rattle.index_entries.specs.Steps.{raised}
use Rattle.index_entries.proofs.EntryLaws.{first}
use Rattle.index_entries.proofs.ShiftLaws.{put_raised}

-- ---- the first entry, and the others

module _ (n : ℕ) (l : List ℤ) where
  one : Width * suc n ≡ Width + Width * n
  one = omega arith

  take_first : Width ≤ length l → take (Width * suc n) l ≡ numbers (entry_at l 0) ++ take (Width * n) (drop Width l)
  take_first h = ap (λ k. take k l) one ∙ take-add Width (Width * n) l ∙ ap (λ x. x ++ take (Width * n) (drop Width l)) (first l h)

  drop_first : drop (Width * suc n) l ≡ drop (Width * n) (drop Width l)
  drop_first = ap (λ k. drop k l) one ∙ sym (drop-drop (Width * n) Width l)

-- ---- the numbers of the first p entries, and then those of another list

front : (p : ℕ) (l m : List ℤ) → Width * p ≤ length l → take (Width * p) l ++ drop (Width * p) m ≡ written (entries_from p l) m
unfolding entries_from written
front zero l m h = refl
front (suc p) l m h =
    let e = numbers (entry_at l 0) in
    let a = take (Width * p) (drop Width l) in
    ap₂ (λ x y. x ++ y) (take_first p l (omega arith)) (drop_first p m)
    ∙ append_assoc e a (drop (Width * p) (drop Width m))
    ∙ ap (λ x. e ++ x) (front p (drop Width l) (drop Width m) (omega (arith, length-drop Width l)))

-- ---- an entry inserted

more' : (i q n : ℕ) (e : Entry) (l : List ℤ) → n ≡ i + q → Width * n ≤ length l
    → take (Width * i) l ++ (numbers e ++ (take (Width * q) (drop (Width * i) l) ++ drop (Width * suc n) l)) ≡ written (take i (entries_from n l) ++ e ∷ drop i (entries_from n l)) l
unfolding entries_from written
more' zero q n e l s h =
    let t : q ≡ n = omega arith in
    ap₂ (λ k x. numbers e ++ (take (Width * k) l ++ x)) t (drop_first n l) ∙ ap (λ x. numbers e ++ x) (front n l (drop Width l) h)
more' (suc i) q zero e l s h = absurd (omega arith)
more' (suc i) q (suc n) e l s h =
    let f = numbers (entry_at l 0) in
    let m = drop Width l in
    (λ j. take_first i l (omega arith) j ++ (numbers e ++ (take (Width * q) (drop_first i l j) ++ drop_first (suc n) l j)))
    ∙ append_assoc f (take (Width * i) m) (numbers e ++ (take (Width * q) (drop (Width * i) m) ++ drop (Width * suc n) m))
    ∙ ap (λ x. f ++ x) (more' i q n e m (omega arith) (omega (arith, length-drop Width l)))

-- as above, in an index of n entries, whose count stands before them
pub one_more : (n i m : ℕ) (e : Entry) (l : List ℤ) (v : ℤ) → i ≤ n → m ≡ Width * (n - i) → 1 + Width + Width * n ≤ length l
    → set (put (1 + Width * i) (numbers e) (raised (1 + Width * i) l m)) 0 v ≡ v ∷ written (take i (entries_from n (drop 1 l)) ++ e ∷ drop i (entries_from n (drop 1 l))) (drop 1 l)
one_more n i m e [] v h s f = absurd (omega arith)
one_more n i m e (c ∷ l) v h s f =
    let a : 1 + Width * i ≡ suc (Width * i) = omega arith in
    let d : 1 + Width * i + Width + m ≡ suc (Width * suc n) = omega arith in
    ap (λ x. set x 0 v) (put_raised (1 + Width * i) m e (c ∷ l) (omega arith)
    ∙ (λ j. take (a j) (c ∷ l) ++ (numbers e ++ (take (s j) (drop (a j) (c ∷ l)) ++ drop (d j) (c ∷ l)))))
    ∙ ap (λ x. v ∷ x) (more' i (n - i) n e l (omega arith) (omega arith))

-- ---- an entry removed

less' : (i q n : ℕ) (l : List ℤ) → n ≡ i + q → Width * suc n ≤ length l
    → take (Width * i) l ++ (take (Width * q) (drop (Width * suc i) l) ++ drop (Width * n) l) ≡ written (take i (entries_from (suc n) l) ++ drop (suc i) (entries_from (suc n) l)) l
unfolding entries_from written
less' zero q n l s h =
    let t : q ≡ n = omega arith in
    (λ j. take (Width * t j) (drop_first 0 l j) ++ drop (Width * n) l) ∙ front n (drop Width l) l (omega (arith, length-drop Width l))
less' (suc i) q zero l s h = absurd (omega arith)
less' (suc i) q (suc n) l s h =
    let f = numbers (entry_at l 0) in
    let m = drop Width l in
    (λ j. take_first i l (omega arith) j ++ (take (Width * q) (drop_first (suc i) l j) ++ drop_first n l j))
    ∙ append_assoc f (take (Width * i) m) (take (Width * q) (drop (Width * suc i) m) ++ drop (Width * n) m)
    ∙ ap (λ x. f ++ x) (less' i q n m (omega arith) (omega (arith, length-drop Width l)))

pub one_less : (n i m : ℕ) (l : List ℤ) (v : ℤ) → i < n → m ≡ Width * (n - 1 - i) → 1 + Width * n ≤ length l
    → set (shifted_down Width (1 + Width * i) l m) 0 v ≡ v ∷ written (take i (entries_from n (drop 1 l)) ++ drop (suc i) (entries_from n (drop 1 l))) (drop 1 l)
unfolding shifted_down
one_less zero i m l v h s f = absurd (omega arith)
one_less (suc n) i m [] v h s f = absurd (omega arith)
one_less (suc n) i m (c ∷ l) v h s f =
    let a : 1 + Width * i ≡ suc (Width * i) = omega arith in
    let b : m ≡ Width * (n - i) = omega arith in
    let d : 1 + Width * i + Width ≡ suc (Width * suc i) = omega arith in
    let g : 1 + Width * i + m ≡ suc (Width * n) = omega arith in
    ap (λ x. set x 0 v)
    (append_assoc (take (1 + Width * i) (c ∷ l)) (take m (drop (1 + Width * i + Width) (c ∷ l))) (drop (1 + Width * i + m) (c ∷ l))
    ∙ (λ j. take (a j) (c ∷ l) ++ (take (b j) (drop (d j) (c ∷ l)) ++ drop (g j) (c ∷ l))))
    ∙ ap (λ x. v ∷ x) (less' i (n - i) n l (omega arith) (omega arith))
