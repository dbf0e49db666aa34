-- What a walk leaves behind in a list of ranges does not matter to the identifiers that come: a range that ends below i has none from i on. In a list that
-- ascends the first range that does not end below i has i, or none has. Assumes nothing.
use Prim.Native.Nat.{ℕ, ◌≤◌, ◌<◌}
use mathlib.Core.Path.{◌≡◌, refl, sym, ap, ◌∙◌}
use mathlib.Core.Bool.{Bool, true, false, cond, ◌||◌}
use mathlib.Core.List.{List, [], ◌∷◌}
use native.Mathlib.Omega.{arith}
use lib.Dec.{leb, ltb}
use borrow.Author.Tests.{leb-true, leb-false, ltb-true, ltb-false, le-leb}
use Rattle.algebra.specs.Lists.{some}
use Rattle.algebra.proofs.Tests.{split}
use Rattle.ranges.specs.declared.Range.{Range}
use Rattle.ranges.specs.Ranges.{is_in, in_some, Ascends}
use Rattle.ranges.proofs.ListLaws.{is_in_law, not_below, not_above}
use Rattle.frames.specs.Walk.{ahead, begins}

-- the head of a list that ascends, and what is behind it
pub head_rises : (r : Range) (rs : List Range) → Ascends (r ∷ rs) → r.low ≤ r.high
head_rises r [] a = a
head_rises r (s ∷ rs) a = a.0

pub tail_ascends : (r : Range) (rs : List Range) → Ascends (r ∷ rs) → Ascends rs
tail_ascends r [] a = tt
tail_ascends r (s ∷ rs) a = a.2

-- identifiers below a range are in none behind it
none_behind : (i : ℕ) (r : Range) (rs : List Range) → Ascends (r ∷ rs) → i < r.low → in_some i rs ≡ false
unfolding some
none_behind i r [] a h = refl
none_behind i r (s ∷ rs) a h =
    let low = head_rises r (s ∷ rs) a in
    let b : i < s.low = omega (arith, a.1) in
    ap (λ t. t || some (is_in i) rs) (not_above i s b) ∙ none_behind i s rs a.2 b

module _ (i : ℕ) where
  pub ahead_ascends : (rs : List Range) → Ascends rs → Ascends (ahead i rs)
  unfolding ahead
  ahead_ascends [] a = tt
  ahead_ascends (r ∷ rs) a = by_test (ltb r.high i) (ahead_ascends rs (tail_ascends r rs a))
    where
      by_test : (t : Bool) → Ascends (ahead i rs) → Ascends (cond t (ahead i rs) (r ∷ rs))
      by_test true b = b
      by_test false b = a

  -- of an identifier from i on
  pub ahead_same : (j : ℕ) → i ≤ j → (rs : List Range) → in_some j (ahead i rs) ≡ in_some j rs
  unfolding ahead some
  ahead_same j h [] = refl
  ahead_same j h (r ∷ rs) = by_test (ltb r.high i) refl (ahead_same j h rs)
    where
      by_test : (t : Bool) → ltb r.high i ≡ t → in_some j (ahead i rs) ≡ in_some j rs → in_some j (cond t (ahead i rs) (r ∷ rs)) ≡ (is_in j r || in_some j rs)
      by_test true e b = b ∙ sym (ap (λ t. t || in_some j rs) (not_below j r (omega (arith, ltb-true r.high i e))))
      by_test false e b = refl

  pub ahead_begins : (rs : List Range) → Ascends rs → begins i (ahead i rs) ≡ in_some i rs
  unfolding ahead some
  ahead_begins [] a = refl
  ahead_begins (r ∷ rs) a = by_test (ltb r.high i) refl (ahead_begins rs (tail_ascends r rs a))
    where
      here : leb i r.high ≡ true → leb r.low i ≡ (is_in i r || in_some i rs)
      here h =
          split (leb r.low i)
          (λ e. e ∙ sym (ap (λ t. t || in_some i rs) (is_in_law i r (leb-true r.low i e) (leb-true i r.high h))))
          (λ e.
          let b : i < r.low = omega (arith, leb-false r.low i e) in
          e ∙ sym (ap (λ t. t || in_some i rs) (not_above i r b) ∙ none_behind i r rs a b))

      by_test : (t : Bool) → ltb r.high i ≡ t → begins i (ahead i rs) ≡ in_some i rs → begins i (cond t (ahead i rs) (r ∷ rs)) ≡ (is_in i r || in_some i rs)
      by_test true e b = b ∙ sym (ap (λ t. t || in_some i rs) (not_below i r (omega (arith, ltb-true r.high i e))))
      by_test false e b = here (le-leb i r.high (omega (arith, ltb-false r.high i e)))
