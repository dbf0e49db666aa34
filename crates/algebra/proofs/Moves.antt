-- Elements of any kind move down by w positions, one after the other: after k of them the list is `shifted_down` by k, of specs/Moves. The element z is what a
-- read past the end gives; no read is past it. Assumes nothing.
use Prim.Native.Nat.{ℕ, ◌+◌, ◌<◌}
use mathlib.Core.Path.{◌≡◌, sym, ap, ◌∙◌}
use mathlib.Core.List.{List, ◌++◌}
use native.Mathlib.Omega.{arith}
use native.Mathlib.Numerals.{add-one}
use lib.ListN.{length, get_or, take, drop, set, length-drop}
use lib.Seq.{paste, paste-zero, paste-suc, length_paste_head, get_or-append-add, get_or-drop}
use Rattle.algebra.specs.Moves.{shifted_down}

module _ {A : Type 0} (w at : ℕ) (l : List A) where
  pub shifted_down_start : l ≡ shifted_down w at l 0
  unfolding shifted_down
  shifted_down_start = paste-zero l at (drop (at + w) l)

  pub shifted_down_end : (k count : ℕ) (m : List A) → m ≡ shifted_down w at l k → k ≡ count → m ≡ shifted_down w at l count
  shifted_down_end k count m e f = e ∙ ap (shifted_down w at l) f

module _ {A : Type 0} (z : A) (w at : ℕ) (l : List A) (k : ℕ) (fits : at + k + w < length l) where
  shifted_down_read : get_or (shifted_down w at l k) (at + k + w) z ≡ get_or (drop (at + w) l) k z
  unfolding shifted_down
  shifted_down_read =
      let s : List A = drop (at + w) l in
      let e : length (take at l ++ take k s) ≡ at + k = length_paste_head l at s k (omega arith) (omega (arith, length-drop (at + w) l)) in
      let f : at + k + w ≡ at + w + k = omega arith in
      ap (λ m. get_or (shifted_down w at l k) (m + w) z) (sym e)
      ∙ get_or-append-add (take at l ++ take k s) (drop (at + k) l) w z
      ∙ get_or-drop (at + k) l w z
      ∙ ap (λ m. get_or l m z) f
      ∙ sym (get_or-drop (at + w) l k z)

  shifted_down_more : set (shifted_down w at l k) (at + k) (get_or (shifted_down w at l k) (at + k + w) z) ≡ shifted_down w at l (k + 1)
  unfolding shifted_down
  shifted_down_more =
      ap (set (shifted_down w at l k) (at + k)) shifted_down_read
      ∙ paste-suc l at (drop (at + w) l) k z (omega arith) (omega (arith, length-drop (at + w) l))
      ∙ ap (paste l at (drop (at + w) l)) (sym (add-one k))

  pub shifted_down_step : (m : List A) → m ≡ shifted_down w at l k → set m (at + k) (get_or m (at + k + w) z) ≡ shifted_down w at l (k + 1)
  shifted_down_step m e = ap (λ x. set x (at + k) (get_or x (at + k + w) z)) e ∙ shifted_down_more
