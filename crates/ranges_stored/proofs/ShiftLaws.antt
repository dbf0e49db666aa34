-- Elements that are `shifted_down` by two places: from a high on, they join two ranges into one, and from a low on, they take a range away. By recursion over the ranges before that place. Assumes nothing.
use Prim.Native.Nat.{ℕ, zero, suc, ◌+◌, ◌*◌, ◌-◌, ◌≤◌, ◌<◌}
use mathlib.Core.Path.{◌≡◌, ap, ◌∙◌, refl}
use mathlib.Core.List.{List, [], ◌∷◌, ◌++◌}
use native.Mathlib.Omega.{arith}
use lib.ListN.{length, take, drop}
use Rattle.algebra.specs.Moves.{shifted_down}
use Rattle.ranges.specs.Lists.{join_at, without}
use Rattle.ranges.specs.Ranges.{ranges_in}
use Rattle.ranges_stored.specs.Stored.{written}
use Rattle.ranges_stored.proofs.StoredLaws.{double, double_is, drop_two, laid, laid_put}

front : (p : ℕ) (l m : List ℕ) → 2 * p ≤ length l → take (double p) l ++ drop (double p) m ≡ laid (ranges_in p l) m
unfolding double ranges_in laid
front zero l m h = refl
front (suc p) [] m h = absurd (omega arith)
front (suc p) (x ∷ []) m h = absurd (omega arith)
front (suc p) (x ∷ y ∷ l) m h = ap (λ k. x ∷ y ∷ (take (double p) l ++ k)) (drop_two (double p) m) ∙ ap (λ k. x ∷ y ∷ k) (front p l (drop 2 m) (omega arith))

-- from the high of range i on
join' : (i q p : ℕ) (l : List ℕ) → p ≡ i + q → 2 * p + 4 ≤ length l
    → take (suc (double i)) l ++ take (suc (double q)) (drop (suc (suc (suc (double i)))) l) ++ drop (double (suc p)) l ≡ laid (join_at i (ranges_in (suc (suc p)) l)) l
unfolding double ranges_in laid join_at
join' i q p [] e h = absurd (omega arith)
join' i q p (x ∷ []) e h = absurd (omega arith)
join' i q p (x ∷ y ∷ []) e h = absurd (omega arith)
join' i q p (x ∷ y ∷ z ∷ []) e h = absurd (omega arith)
join' zero q p (x ∷ y ∷ z ∷ w ∷ l) e h =
    let s : q ≡ p = omega arith in
    ap (λ k. x ∷ w ∷ (take (double k) l ++ drop (double p) (z ∷ w ∷ l))) s ∙ ap (λ k. x ∷ w ∷ k) (front p l (z ∷ w ∷ l) (omega arith))
join' (suc i) q zero (x ∷ y ∷ z ∷ w ∷ l) e h = absurd (omega arith)
join' (suc i) q (suc p) (x ∷ y ∷ z ∷ w ∷ l) e h = ap (λ k. x ∷ y ∷ k) (join' i q p (z ∷ w ∷ l) (omega arith) (omega arith))

pub shifted_down_joins : (n i at m : ℕ) (l : List ℕ) → i + 1 < n → 2 * n ≤ length l → at ≡ 2 * i + 1 → m + at + 2 ≡ 2 * n → shifted_down 2 at l m ≡ written (join_at i (ranges_in n l)) l
unfolding shifted_down
shifted_down_joins zero i at m l h k e f = absurd (omega arith)
shifted_down_joins (suc zero) i at m l h k e f = absurd (omega arith)
shifted_down_joins (suc (suc p)) i at m l h k e f =
    let a : at ≡ suc (double i) = omega (arith, double_is i) in
    let b : m ≡ suc (double (p - i)) = omega (arith, double_is (p - i)) in
    let c : at + 2 ≡ suc (suc (suc (double i))) = omega arith in
    let d : at + m ≡ double (suc p) = omega (arith, double_is (suc p)) in
    cc (join' i (p - i) p l (omega arith) (omega arith)) ∙ laid_put (join_at i (ranges_in (suc (suc p)) l)) l

-- from the low of range i on
remove' : (i q p : ℕ) (l : List ℕ) → p ≡ i + q → 2 * p + 2 ≤ length l
    → take (double i) l ++ take (double q) (drop (suc (suc (double i))) l) ++ drop (double p) l ≡ laid (without i (ranges_in (suc p) l)) l
unfolding double ranges_in laid without
remove' i q p [] e h = absurd (omega arith)
remove' i q p (x ∷ []) e h = absurd (omega arith)
remove' zero q p (x ∷ y ∷ l) e h =
    let s : q ≡ p = omega arith in
    ap (λ k. take (double k) l ++ drop (double p) (x ∷ y ∷ l)) s ∙ front p l (x ∷ y ∷ l) (omega arith)
remove' (suc i) q zero (x ∷ y ∷ l) e h = absurd (omega arith)
remove' (suc i) q (suc p) (x ∷ y ∷ l) e h = ap (λ k. x ∷ y ∷ k) (remove' i q p l (omega arith) (omega arith))

pub shifted_down_removes : (n i m : ℕ) (l : List ℕ) → i < n → 2 * n ≤ length l → m + 2 * i + 2 ≡ 2 * n → shifted_down 2 (2 * i) l m ≡ written (without i (ranges_in n l)) l
unfolding shifted_down
shifted_down_removes zero i m l h k f = absurd (omega arith)
shifted_down_removes (suc p) i m l h k f =
    let a : 2 * i ≡ double i = omega (arith, double_is i) in
    let b : m ≡ double (p - i) = omega (arith, double_is (p - i)) in
    let c : 2 * i + 2 ≡ suc (suc (double i)) = omega arith in
    let d : 2 * i + m ≡ double p = omega (arith, double_is p) in
    cc (remove' i (p - i) p l (omega arith) (omega arith)) ∙ laid_put (without i (ranges_in (suc p) l)) l
