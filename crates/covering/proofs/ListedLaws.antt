-- The two lists of a cover in a lent list, read back as they were written: the outer list is not over-written by the inner one, since it has at most the
-- budget of ranges. Assumes nothing.
use Prim.Native.Nat.{ℕ, ◌+◌, ◌-◌, ◌*◌, ◌≤◌}
use native.Mathlib.Omega.{arith}
use mathlib.Core.Path.{◌≡◌, refl, ap, ◌∙◌}
use mathlib.Core.List.{List, [], ◌∷◌, ◌++◌, append_assoc}
use lib.ListN.{length, take, drop, length-append, length-drop}
use lib.Seq.{take-append-add, take_at, drop_at, length-take-le}
use Rattle.answer.specs.Lent.{put}
use Rattle.ranges.specs.declared.Range.{Range}
use Rattle.ranges.specs.Ranges.{pairs, ranges_in}
use Rattle.covering.specs.Cover.{Cover, both_listed}

length_pairs : (rs : List Range) → length (pairs rs) ≡ 2 * length rs
unfolding pairs
length_pairs [] = refl
length_pairs (r ∷ rs) = omega (arith, length_pairs rs)

read_back : (rs : List Range) (more : List ℕ) → ranges_in (length rs) (pairs rs ++ more) ≡ rs
unfolding ranges_in pairs
read_back [] more = refl
read_back (r ∷ rs) more = ap (λ l. r ∷ l) (read_back rs more)

-- ---- two lists in one: xs at the beginning, ys from element k on

module _ (k : ℕ) (xs ys before : List ℕ) (small : length xs ≤ k) (long : k ≤ length before) where
  outer_part : put k ys (put 0 xs before) ≡ xs ++ (take (k - length xs) (drop (0 + length xs) before) ++ (ys ++ drop (k + length ys) (put 0 xs before)))
  outer_part =
      let e : k ≡ length xs + (k - length xs) = omega arith in
      ap (λ n. take n (xs ++ drop (0 + length xs) before) ++ (ys ++ drop (k + length ys) (put 0 xs before))) e
      ∙ ap (λ l. l ++ (ys ++ drop (k + length ys) (put 0 xs before))) (take-append-add xs (drop (0 + length xs) before) (k - length xs))
      ∙ append_assoc xs (take (k - length xs) (drop (0 + length xs) before)) (ys ++ drop (k + length ys) (put 0 xs before))

  inner_part : drop k (put k ys (put 0 xs before)) ≡ ys ++ drop (k + length ys) (put 0 xs before)
  inner_part = drop_at (take k (put 0 xs before)) (ys ++ drop (k + length ys) (put 0 xs before)) k
      (length-take-le k (put 0 xs before) (omega (arith, length-append xs (drop (0 + length xs) before), length-drop (0 + length xs) before)))

-- ---- the lists of a cover c under the budget b

module _ (b : ℕ) (c : Cover) (before : List ℕ) (space : 4 * b ≤ length before) (small : length c.outer ≤ b) where
  few : length (pairs c.outer) ≤ 2 * b
  few = omega (arith, length_pairs c.outer)

  half : 2 * b ≤ length before
  half = omega arith

  pub outer_back : ranges_in (length c.outer) (both_listed b c before) ≡ c.outer
  outer_back = ap (ranges_in (length c.outer)) (outer_part (2 * b) (pairs c.outer) (pairs c.inner) before few half) ∙ read_back c.outer _

  pub inner_back : ranges_in (length c.inner) (drop (2 * b) (both_listed b c before)) ≡ c.inner
  inner_back = ap (ranges_in (length c.inner)) (inner_part (2 * b) (pairs c.outer) (pairs c.inner) before few half) ∙ read_back c.inner _

  -- the pairs of the outer list, at the front
  pub outer_front : (2 * length c.outer ≤ length (both_listed b c before)) × (take (2 * length c.outer) (both_listed b c before) ≡ pairs c.outer)
  outer_front =
      let n = length_pairs c.outer in
      let more = take (2 * b - length (pairs c.outer)) (drop (0 + length (pairs c.outer)) before) ++ (pairs c.inner ++ drop (2 * b + length (pairs c.inner)) (put 0 (pairs c.outer) before)) in
      let e : both_listed b c before ≡ pairs c.outer ++ more = outer_part (2 * b) (pairs c.outer) (pairs c.inner) before few half in (
        omega (arith, ap length e, length-append (pairs c.outer) more),
        ap (take (2 * length c.outer)) e ∙ take_at (pairs c.outer) more (2 * length c.outer) n,
      )
