-- A group, halfspace by halfspace: size and rows stand for what has been taken of it, and the halfspaces left give what all of them do (`Passing`).
-- Before the first of them a convex has begun, and all are within the limit. Assumes nothing.
use Prim.Native.Nat.{ℕ, suc, ◌+◌, ◌-◌, ◌*◌, ◌≤◌, ◌<◌}
use native.Mathlib.Omega.{arith}
use mathlib.Core.Path.{◌≡◌, sym, ap, ◌∙◌}
use mathlib.Core.Bool.{Bool}
use mathlib.Core.List.{List, ◌∷◌}
use lib.Dec.{leb}
use lib.ListN.{length, take, drop}
use lib.Seq.{drop-drop}
use lib.IntN.{ℤ}
use borrow.Author.Tests.{le-leb, lt-leb}
use Rattle.std.proofs.lemmas.List.{get_or-take}
use Rattle.vector.specs.Vectors.{vec}
use Rattle.region.specs.Bytes.{word, signed_of, signed}
use Rattle.answer.specs.Answer.{Answer, refused, gives, check, then, Crowd}
use Rattle.region.specs.declared.Halfspace.{Halfspace}
use Rattle.region.specs.Regions.{Convex}
use Rattle.region.specs.Building.{most_in_all, total}
use Rattle.region.specs.Reader.{File, convex_in, halfspace_of, halfspace_in, halfspaces_of, halfspaces_in, group_in}
use Rattle.region_rows.specs.declared.counts.RegionSize.{RegionSize}
use Rattle.region_rows.specs.RegionSizes.{region_size}
use Rattle.region_payloads.specs.Payloads.{region_size_after, StandsFor, SizeAfterBy}
use Rattle.region_payloads.proofs.StepLaws.{counted_refused, counted_gives, counted_as, counted_gave, counted_refuses, convex_counted}

-- ---- a halfspace stands in 16 bytes

word_first : (s : List ℕ) (k : ℕ) → k + 2 ≤ 16 → word (take 16 s) k ≡ word s k
word_first s k h = λ i. get_or-take 16 s k 0 (omega arith) i + 256 * get_or-take 16 s (k + 1) 0 (omega arith) i

signed_first : (s : List ℕ) (k : ℕ) → k + 4 ≤ 16 → signed (take 16 s) k ≡ signed s k
signed_first s k h = λ i. signed_of (word_first s k (omega arith) i + 65536 * word_first s (k + 2) (omega arith) i)

halfspace_first : (s : List ℕ) → halfspace_of (take 16 s) ≡ halfspace_of s
halfspace_first s =
    λ i. record {
      n = vec (signed_first s 0 (omega arith) i) (signed_first s 4 (omega arith) i) (signed_first s 8 (omega arith) i);
      d = signed_first s 12 (omega arith) i;
    }

-- ---- i of n halfspaces are taken

pub record Passing (p : List ℕ) (n : ℕ) (rs₀ : List ℤ) (k₀ : RegionSize) (rs : List ℤ) (k : RegionSize) (i : ℕ) : Type 0 where
  pub within : i ≤ n
  pub reached : (x : File) (before : List ℤ) → StandsFor before x.region k₀ rs₀
      → (y : File) × StandsFor before y.region k rs × (halfspaces_in x (halfspaces_of n p) ≡ halfspaces_in y (halfspaces_of (n - i) (drop (16 * i) p)))

pub passing_none : (p : List ℕ) (n : ℕ) (rs : List ℤ) (k : RegionSize) → Passing p n rs k rs k 0
passing_none p n rs k = record {
  within = omega arith;
  reached = λ x before st. let e : n ≡ n - 0 = omega arith in (x, st, ap (λ m. halfspaces_in x (halfspaces_of m p)) e);
}

-- the first of those left
opened : (p : List ℕ) (n i : ℕ) → i < n
    → halfspaces_of (n - i) (drop (16 * i) p) ≡ halfspace_of (drop (16 * i) p) ∷ halfspaces_of (n - (i + 1)) (drop (16 * (i + 1)) p)
unfolding halfspaces_of
opened p n i l =
    let m : n - i ≡ suc (n - (i + 1)) = omega arith in
    let e : 16 * i + 16 ≡ 16 * (i + 1) = omega arith in
    ap (λ m. halfspaces_of m (drop (16 * i) p)) m
    ∙ ap (λ q. halfspace_of (drop (16 * i) p) ∷ halfspaces_of (n - (i + 1)) q) (drop-drop 16 (16 * i) p ∙ ap (λ j. drop j p) e)

first_taken : (y : File) (h : Halfspace) (hs : Convex) (a : Answer File) → halfspace_in y h ≡ a → halfspaces_in y (h ∷ hs) ≡ then a (λ z. halfspaces_in z hs)
unfolding halfspaces_in
first_taken y h hs a q = ap (λ a. then a (λ z. halfspaces_in z hs)) q

module _ (p : List ℕ) (n : ℕ) (rs₀ : List ℤ) (k₀ : RegionSize) (rs : List ℤ) (k : RegionSize) (i : ℕ) (d : Passing p n rs₀ k₀ rs k i) where
  -- h is the next halfspace, read from the bytes left
  module _ (h : Halfspace) (e : h ≡ halfspace_of (take 16 (drop (16 * i) p))) (l : i < n) where
    abbrev left : Convex
    left = halfspaces_of (n - (i + 1)) (drop (16 * (i + 1)) p)

    next : halfspaces_of (n - i) (drop (16 * i) p) ≡ h ∷ left
    next = opened p n i l ∙ ap (λ h. h ∷ left) (sym (e ∙ halfspace_first (drop (16 * i) p)))

    goes_on : (x y : File) (a : Answer File) → halfspaces_in x (halfspaces_of n p) ≡ halfspaces_in y (halfspaces_of (n - i) (drop (16 * i) p)) → halfspace_in y h ≡ a
        → halfspaces_in x (halfspaces_of n p) ≡ then a (λ z. halfspaces_in z left)
    goes_on x y a w q = w ∙ ap (halfspaces_in y) next ∙ first_taken y h left a q

    module _ (c : Answer RegionSize) (rs' : List ℤ) (t : SizeAfterBy (λ y. halfspace_in y h) k rs c rs') where
      pub passing_more : (m : RegionSize) → c ≡ gives m → Passing p n rs₀ k₀ rs' m (i + 1)
      passing_more m q = record {
        within = omega arith;
        reached = λ x before st.
            let w = d.reached x before st in
            let v = counted_gave m q (t w.0 before w.1) in
            (v.0, v.2, goes_on x w.0 (gives v.0) w.2 v.1);
      }

      pub passing_refused : (m : ℕ) → c ≡ refused m → SizeAfterBy (λ x. halfspaces_in x (halfspaces_of n p)) k₀ rs₀ (refused m) rs'
      passing_refused m q x before st =
          let w = d.reached x before st in
          counted_refused m (goes_on x w.0 (refused m) w.2 (counted_refuses m q (t w.0 before w.1)))

  pub passing_end : n ≤ i → SizeAfterBy (λ x. halfspaces_in x (halfspaces_of n p)) k₀ rs₀ (gives k) rs
  unfolding halfspaces_of halfspaces_in
  passing_end l x before st =
      let w = d.reached x before st in
      let m : n - i ≡ 0 = omega arith in
      counted_gives w.0 k (w.2 ∙ ap (λ m. halfspaces_in w.0 (halfspaces_of m (drop (16 * i) p))) m) w.1

-- ---- the group: c is the size with the convex that begins

module _ (k₀ : RegionSize) (hs : Convex) (rs : List ℤ) (c : Answer RegionSize) (o : (x : File) → k₀ ≡ region_size x.region → c ≡ region_size_after (convex_in x)) where
  abbrev fit : File → Bool
  fit y = leb (total y.region + length hs) most_in_all

  by_convex : (x : File) (a : Answer File) → convex_in x ≡ a → group_in x hs ≡ then a (λ y. check Crowd (fit y) (halfspaces_in y hs))
  by_convex x a e = ap (λ a. then a (λ y. check Crowd (fit y) (halfspaces_in y hs))) e

  pub group_refused : (m : ℕ) → c ≡ refused m → SizeAfterBy (λ x. group_in x hs) k₀ rs (refused m) rs
  group_refused m e x before st = counted_refused m (by_convex x (refused m) (counted_refuses m e (convex_counted x st (o x st.counts))))

  module _ (k : RegionSize) (e : c ≡ gives k) where
    begun : (x : File) (before : List ℤ) → StandsFor before x.region k₀ rs → (y : File) × (convex_in x ≡ gives y) × StandsFor before y.region k rs
    begun x before st = counted_gave k e (convex_counted x st (o x st.counts))

    by_limit : (x y : File) (t : Bool) → convex_in x ≡ gives y → fit y ≡ t → group_in x hs ≡ check Crowd t (halfspaces_in y hs)
    by_limit x y t q f = by_convex x (gives y) q ∙ ap (λ t. check Crowd t (halfspaces_in y hs)) f

    pub group_crowd : 512 < k.all + length hs → SizeAfterBy (λ x. group_in x hs) k₀ rs (refused Crowd) rs
    group_crowd l x before st =
        let w = begun x before st in
        let y = w.0 in
        let many = lt-leb (total y.region + length hs) most_in_all (omega (arith, ap (λ k. k.all) w.2.counts)) in
        counted_refused Crowd (by_limit x y _ w.1 many)

    pub group_all : k.all + length hs ≤ 512 → (b : Answer RegionSize) (rs' : List ℤ) → SizeAfterBy (λ y. halfspaces_in y hs) k rs b rs'
        → SizeAfterBy (λ x. group_in x hs) k₀ rs b rs'
    group_all l b rs' t x before st =
        let w = begun x before st in
        let y = w.0 in
        let few = le-leb (total y.region + length hs) most_in_all (omega (arith, ap (λ k. k.all) w.2.counts)) in
        counted_as (sym (by_limit x y _ w.1 few)) (t y before w.2)
