-- Ranges in a list of numbers: what is written is read back, what is written over is gone, and the elements behind it stay, so the list keeps its
-- length. And how single elements change the ranges: two behind the last are a new range, and a new number in the place
-- of the last high extends the last range. By recursion over the ranges, two elements each. Assumes nothing.
use Prim.Native.Nat.{ℕ, zero, suc, ◌+◌, ◌*◌, ◌≤◌}
use mathlib.Core.Path.{◌≡◌, refl, sym, ap, ap₂, ◌∙◌}
use mathlib.Core.List.{List, [], ◌∷◌, ◌++◌}
use native.Mathlib.Omega.{arith}
use lib.ListN.{length, get_or, drop, set}
use lib.Seq.{drop-nil}
use Rattle.answer.specs.Lent.{put}
use Rattle.ranges.specs.declared.Range.{Range}
use Rattle.ranges.specs.Ranges.{pairs, range, ranges_in}
use Rattle.ranges.proofs.Pushing.{last_high, extend}
use Rattle.ranges_stored.specs.Stored.{written}
use Rattle.ranges.proofs.OuterPass.{last_high_snoc}

-- ---- twice a number, so that it computes

unfoldable pub double : ℕ → ℕ
double zero = zero
double (suc n) = suc (suc (double n))

pub double_is : (n : ℕ) → double n ≡ 2 * n
unfolding double
double_is zero = refl
double_is (suc n) = omega (arith, double_is n)

-- ---- reading

pub length_in : (n : ℕ) (l : List ℕ) → length (ranges_in n l) ≡ n
unfolding ranges_in
length_in zero l = refl
length_in (suc n) l = ap suc (length_in n (drop 2 l))

in_snoc : (n : ℕ) (l : List ℕ) → 2 * n + 2 ≤ length l → ranges_in (suc n) l ≡ ranges_in n l ++ range (get_or l (double n) 0) (get_or l (suc (double n)) 0) ∷ []
unfolding ranges_in double
in_snoc n [] h = absurd (omega arith)
in_snoc n (x ∷ []) h = absurd (omega arith)
in_snoc zero (x ∷ y ∷ l) h = refl
in_snoc (suc n) (x ∷ y ∷ l) h = ap (λ m. range x y ∷ m) (in_snoc n l (omega arith))

pub last_in : (n : ℕ) (l : List ℕ) (k : ℕ) → k + 1 ≡ 2 * n → 2 * n ≤ length l → last_high (ranges_in n l) ≡ get_or l k 0
last_in zero l k e h = absurd (omega arith)
last_in (suc n) l k e h =
    let q : suc (double n) ≡ k = omega (arith, double_is n) in
    ap last_high (in_snoc n l (omega arith)) ∙ last_high_snoc (ranges_in n l) (range (get_or l (double n) 0) (get_or l (suc (double n)) 0)) ∙ ap (λ m. get_or l m 0) q

-- ---- writing, range by range

unfoldable pub laid : List Range → List ℕ → List ℕ
laid [] l = l
laid (a ∷ xs) l = a.low ∷ a.high ∷ laid xs (drop 2 l)

laid_in : (n : ℕ) (l : List ℕ) → 2 * n ≤ length l → laid (ranges_in n l) l ≡ l
unfolding ranges_in laid
laid_in zero l h = refl
laid_in (suc n) [] h = absurd (omega arith)
laid_in (suc n) (x ∷ []) h = absurd (omega arith)
laid_in (suc n) (x ∷ y ∷ l) h = ap (λ m. x ∷ y ∷ m) (laid_in n l (omega arith))

in_laid : (xs : List Range) (l : List ℕ) → ranges_in (length xs) (laid xs l) ≡ xs
unfolding ranges_in laid
in_laid [] l = refl
in_laid (a ∷ xs) l = ap (λ m. a ∷ m) (in_laid xs (drop 2 l))

laid_over : (xs ys : List Range) (l : List ℕ) → length xs ≤ length ys → laid ys (laid xs l) ≡ laid ys l
unfolding laid
laid_over [] ys l h = refl
laid_over (a ∷ xs) [] l h = absurd (omega arith)
laid_over (a ∷ xs) (b ∷ ys) l h = ap (λ m. b.low ∷ b.high ∷ m) (laid_over xs ys (drop 2 l) (omega arith))

length_laid : (xs : List Range) (l : List ℕ) → 2 * length xs ≤ length l → length (laid xs l) ≡ length l
unfolding laid
length_laid [] l h = refl
length_laid (a ∷ xs) [] h = absurd (omega arith)
length_laid (a ∷ xs) (x ∷ []) h = absurd (omega arith)
length_laid (a ∷ xs) (x ∷ y ∷ l) h = ap (λ n. suc (suc n)) (length_laid xs l (omega arith))

pub drop_two : (n : ℕ) (l : List ℕ) → drop (suc (suc n)) l ≡ drop n (drop 2 l)
drop_two n [] = sym (drop-nil n)
drop_two n (x ∷ []) = sym (drop-nil n)
drop_two n (x ∷ y ∷ l) = refl

behind : (xs : List Range) (l : List ℕ) → laid xs l ≡ pairs xs ++ drop (length (pairs xs)) l
unfolding laid pairs
behind [] l = refl
behind (a ∷ xs) l = ap (λ m. a.low ∷ a.high ∷ m) (behind xs (drop 2 l) ∙ ap (λ m. pairs xs ++ m) (sym (drop_two (length (pairs xs)) l)))

pub laid_put : (xs : List Range) (l : List ℕ) → laid xs l ≡ put 0 (pairs xs) l
laid_put xs l = let e : length (pairs xs) ≡ 0 + length (pairs xs) = omega arith in behind xs l ∙ ap (λ k. pairs xs ++ drop k l) e

-- ---- single elements

append' : (xs : List Range) (l : List ℕ) (lo hi : ℕ) → 2 * length xs + 2 ≤ length l → set (set (laid xs l) (double (length xs)) lo) (suc (double (length xs))) hi ≡ laid (xs ++ range lo hi ∷ []) l
unfolding laid double
append' xs [] lo hi h = absurd (omega arith)
append' xs (x ∷ []) lo hi h = absurd (omega arith)
append' [] (x ∷ y ∷ l) lo hi h = refl
append' (a ∷ xs) (x ∷ y ∷ l) lo hi h = ap (λ m. a.low ∷ a.high ∷ m) (append' xs l lo hi (omega arith))

laid_append : (xs : List Range) (l : List ℕ) (lo hi j k : ℕ) → j ≡ 2 * length xs → k ≡ 2 * length xs + 1 → 2 * length xs + 2 ≤ length l
    → set (set (laid xs l) j lo) k hi ≡ laid (xs ++ range lo hi ∷ []) l
laid_append xs l lo hi j k e f h =
    let p : j ≡ double (length xs) = omega (arith, double_is (length xs)) in
    let q : k ≡ suc (double (length xs)) = omega (arith, double_is (length xs)) in
    ap₂ (λ a b. set (set (laid xs l) a lo) b hi) p q ∙ append' xs l lo hi h

extend' : (a : Range) (xs : List Range) (l : List ℕ) (r : Range) → set (laid (a ∷ xs) l) (suc (double (length xs))) r.high ≡ laid (extend (a ∷ xs) r) l
unfolding laid double extend
extend' a [] l r = refl
extend' a (b ∷ xs) l r = ap (λ m. a.low ∷ a.high ∷ m) (extend' b xs (drop 2 l) r)

laid_extend : (xs : List Range) (l : List ℕ) (r : Range) (k : ℕ) → k + 1 ≡ 2 * length xs → set (laid xs l) k r.high ≡ laid (extend xs r) l
laid_extend [] l r k e = absurd (omega arith)
laid_extend (a ∷ xs) l r k e =
    let p : k ≡ suc (double (length xs)) = omega (arith, double_is (length xs)) in
    ap (λ m. set (laid (a ∷ xs) l) m r.high) p ∙ extend' a xs l r

-- ---- what is written is laid range by range

pub written_in : (n : ℕ) (l : List ℕ) → 2 * n ≤ length l → written (ranges_in n l) l ≡ l
written_in n l h = sym (laid_put (ranges_in n l) l) ∙ laid_in n l h

pub in_written : (xs : List Range) (l : List ℕ) → ranges_in (length xs) (written xs l) ≡ xs
in_written xs l = ap (ranges_in (length xs)) (sym (laid_put xs l)) ∙ in_laid xs l

pub written_over : (xs ys : List Range) (l : List ℕ) → length xs ≤ length ys → written ys (written xs l) ≡ written ys l
written_over xs ys l h = ap (written ys) (sym (laid_put xs l)) ∙ sym (laid_put ys (laid xs l)) ∙ laid_over xs ys l h ∙ laid_put ys l

pub length_written : (xs : List Range) (l : List ℕ) → 2 * length xs ≤ length l → length (written xs l) ≡ length l
length_written xs l h = ap length (sym (laid_put xs l)) ∙ length_laid xs l h

pub write_append : (xs : List Range) (l : List ℕ) (lo hi j k : ℕ) → j ≡ 2 * length xs → k ≡ 2 * length xs + 1 → 2 * length xs + 2 ≤ length l
    → set (set (written xs l) j lo) k hi ≡ written (xs ++ range lo hi ∷ []) l
write_append xs l lo hi j k e f h =
    ap (λ m. set (set m j lo) k hi) (sym (laid_put xs l)) ∙ laid_append xs l lo hi j k e f h ∙ laid_put (xs ++ range lo hi ∷ []) l

pub write_extend : (xs : List Range) (l : List ℕ) (r : Range) (k : ℕ) → k + 1 ≡ 2 * length xs → set (written xs l) k r.high ≡ written (extend xs r) l
write_extend xs l r k e = ap (λ m. set m k r.high) (sym (laid_put xs l)) ∙ laid_extend xs l r k e ∙ laid_put (extend xs r) l
