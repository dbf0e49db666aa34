-- A part `&mut s[a..]` that was lent and has come back: what the callee was lent, and the whole list afterwards. Assumes nothing.
use Prim.Native.Nat.{ℕ, ◌+◌, ◌-◌, ◌≤◌}
use native.Mathlib.Omega.{arith}
use mathlib.Core.Path.{◌≡◌, ap, ◌∙◌}
use mathlib.Core.List.{List, [], ◌++◌, append-nil}
use lib.ListN.{length, take, drop, length-drop}
use lib.Seq.{take_all, drop-drop, drop-length, drop_at, length-take-le}
use borrow.Rule.Slice.PartMut.{mid_of, post_of, put_mid}

module _ (a : ℕ) (xs : List ℕ) (h : a ≤ length xs) where
  pub tail_lent : mid_of a (length xs - a) xs ≡ drop a xs
  tail_lent = take_all (length xs - a) (drop a xs) (omega (arith, length-drop a xs))

  none_after : post_of a (length xs - a) xs ≡ []
  none_after =
      let all : a + (length xs - a) ≡ length xs = omega arith in
      drop-drop (length xs - a) a xs ∙ ap (λ n. drop n xs) all ∙ drop-length xs

  pub tail_back : (ys : List ℕ) → put_mid a (length xs - a) xs ys ≡ take a xs ++ ys
  tail_back ys = ap (λ l. take a xs ++ (ys ++ l)) none_after ∙ ap (λ l. take a xs ++ l) (append-nil ys)

  pub tail_after : (ys : List ℕ) → drop a (put_mid a (length xs - a) xs ys) ≡ ys
  tail_after ys = ap (drop a) (tail_back ys) ∙ drop_at (take a xs) ys a (length-take-le a xs h)
