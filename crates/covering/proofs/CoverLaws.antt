-- The cutting finds what it should. Follow the path of a point p from its root: where a trixel is full its range holds p's identifier and the region
-- holds p, where one is outside the region does not hold p, and a partial one above the depth is cut, and the path goes on in one of the four.
-- The ranges of a trixel lie in the stretch of its descendants, so those of the other three do not hold the identifier. Assumes nothing.
use Prim.Native.Nat.{ℕ, zero, suc, ◌+◌, ◌-◌, ◌*◌, ◌^◌, ◌≤◌, ◌<◌}
use native.Mathlib.Nat.{pow-suc, one-le-pow, mul-le-mul_right}
use native.Mathlib.Omega.{arith}
use mathlib.Core.Path.{◌≡◌, refl, sym, ap, ◌∙◌, subst}
use mathlib.Core.Bool.{true, true≢false}
use mathlib.Core.List.{List, [], ◌∷◌, ◌++◌}
use lib.Dec.{lit<, ltb}
use lib.IntN.{pos, nat_abs}
use borrow.Author.Tests.{ltb-true, ltb-false}
use Rattle.algebra.proofs.Ring.{◌:+◌, ◌:*◌}
use Rattle.algebra.proofs.Claim.{◌:≡◌, ring}
use Rattle.algebra.proofs.Inequalities.{`1}
use Rattle.algebra.proofs.Tests.{split}
use Rattle.vector.specs.declared.Vec3.{Vec3}
use Rattle.vector.proofs.DepthLaws.{depth_range}
use Rattle.vector.proofs.VectorLaws.{UnitLength}
use Rattle.mesh.specs.declared.Trixel.{Trixel}
use Rattle.mesh.specs.Trixels.{child, root_trixel}
use Rattle.mesh.specs.Lookup.{root_number, digit, descend, identifier}
use Rattle.mesh.proofs.NameLaws.{next_power}
use Rattle.mesh.proofs.LookupLaws.{four_low, four_high, root_small, descend_low, descend_high}
use Rattle.mesh.proofs.Path.{Inside, root_inside, child_inside, digit_small}
use Rattle.region.specs.Regions.{Region, holds}
use Rattle.region.proofs.ReaderLaws.{read_depth}
use Rattle.classify.specs.declared.Class.{Class}
use Rattle.classify.specs.declared.Class.TheVariants.{Outside, Partial, Full}
use Rattle.classify.specs.Classes.{is_outside, is_full, region_class}
use Rattle.classify.proofs.ClassLaws.{full_region, outside_region}
use Rattle.ranges.specs.declared.Range.{Range}
use Rattle.ranges.proofs.Sound.{In, Has, SpacedBy}
use Rattle.ranges.proofs.ListLaws.{Between, between_widen, between_append, between_spaced, has_left, has_right, has_cases, row, has_row, row_has, between_row, own, row_own}
use Rattle.covering.specs.Cover.{Found, descendants, left_out, taken_full, taken_partial, cut_into, four, parted, visit, visit_root, cutting, cover_of, SeenBound}

pub by_class : (c : Class) {X : Type 0} → (c ≡ Outside → X) → (c ≡ Partial → X) → (c ≡ Full → X) → X
by_class Outside f g h = f refl
by_class Partial f g h = g refl
by_class Full f g h = h refl

-- one of the two lists of what was found
pub data Which : Type 0 where
  accepted full : Which

abbrev pub list_of : Which → Found → List Range
list_of accepted f = f.accepted
list_of full f = f.full

-- ---- stretches of numbers

pub full_stretch : (i q : ℕ) → (i + 1) * q ≡ i * q + q
full_stretch i q = ap nat_abs (ring 2 (λ i q. (i :+ `1) :* q :≡ i :* q :+ q) refl (pos i) (pos q))

pub power : (n : ℕ) → 1 ≤ 4 ^ n
power n = one-le-pow n 4 (lit< tt)

one_range : (n i : ℕ) → Between (i * 4 ^ n) ((i + 1) * 4 ^ n) (descendants n i ∷ [])
one_range n i =
    let e = full_stretch i (4 ^ n) in
    let q = power n in
    (omega arith, omega arith, omega arith)

no_range : (n i : ℕ) → Between (i * 4 ^ n) ((i + 1) * 4 ^ n) []
no_range n i = let e = full_stretch i (4 ^ n) in omega arith

in_range : (n i j : ℕ) → i * 4 ^ n ≤ j → j < (i + 1) * 4 ^ n → Has (descendants n i ∷ []) j
unfolding In
in_range n i j l h = (0, (l, omega arith))

nowhere : {X : Type 0} (j : ℕ) → Has [] j → X
unfolding In
nowhere j h = absurd h.1

-- ---- what a visit finds, by the class

module _ (g : Region) where
  abbrev pub below : ℕ → Trixel → ℕ → ℕ → Found
  below n t i k = visit n g (child k t) (4 * i + k)

  pub found_outside : (n : ℕ) (t : Trixel) (i : ℕ) → region_class g t ≡ Outside → visit n g t i ≡ left_out
  unfolding visit
  found_outside zero t i e = rw (e, visit)
  found_outside (suc n) t i e = rw (e, visit)

  pub found_full : (n : ℕ) (t : Trixel) (i : ℕ) → region_class g t ≡ Full → visit n g t i ≡ taken_full (descendants n i)
  unfolding visit
  found_full zero t i e = rw (e, visit)
  found_full (suc n) t i e = rw (e, visit)

  pub found_last : (t : Trixel) (i : ℕ) → region_class g t ≡ Partial → visit zero g t i ≡ taken_partial (descendants 0 i)
  unfolding visit
  found_last t i e = rw (e, visit)

  pub found_cut : (n : ℕ) (t : Trixel) (i : ℕ) → region_class g t ≡ Partial → visit (suc n) g t i ≡ cut_into (parted (visit n g) t i)
  unfolding visit
  found_cut n t i e = rw (e, visit)

  -- ---- the ranges of either list lie in the trixel's stretch

  rows_between : (n i : ℕ) (L : ℕ → List Range) → ((k : ℕ) → Between ((4 * i + k) * 4 ^ n) ((4 * i + k + 1) * 4 ^ n) (L k)) → Between (i * 4 ^ suc n) ((i + 1) * 4 ^ suc n) (row L)
  rows_between n i L h =
      between_widen (i * 4 ^ suc n) ((i + 1) * 4 ^ suc n) (4 * i * 4 ^ n) ((4 * i + 4) * 4 ^ n) (row L)
      (omega (arith, four_low i n)) (omega (arith, four_high i n)) (between_row L (4 * i) (4 ^ n) h)

  outside_between : (w : Which) (n i : ℕ) → Between (i * 4 ^ n) ((i + 1) * 4 ^ n) (list_of w left_out)
  outside_between accepted n i = no_range n i
  outside_between full n i = no_range n i

  full_between : (w : Which) (n i : ℕ) → Between (i * 4 ^ n) ((i + 1) * 4 ^ n) (list_of w (taken_full (descendants n i)))
  full_between accepted n i = one_range n i
  full_between full n i = one_range n i

  last_between : (w : Which) (i : ℕ) → Between (i * 4 ^ 0) ((i + 1) * 4 ^ 0) (list_of w (taken_partial (descendants 0 i)))
  last_between accepted i = one_range 0 i
  last_between full i = no_range 0 i

  cut_between : (w : Which) (n i : ℕ) (F : ℕ → Found) → ((k : ℕ) → Between ((4 * i + k) * 4 ^ n) ((4 * i + k + 1) * 4 ^ n) (list_of w (F k)))
      → Between (i * 4 ^ suc n) ((i + 1) * 4 ^ suc n) (list_of w (cut_into (four (F 0) (F 1) (F 2) (F 3))))
  cut_between accepted n i F h = rows_between n i (λ k. (F k).accepted) h
  cut_between full n i F h = rows_between n i (λ k. (F k).full) h

  pub found_between : (w : Which) (n : ℕ) (t : Trixel) (i : ℕ) → Between (i * 4 ^ n) ((i + 1) * 4 ^ n) (list_of w (visit n g t i))
  found_between w zero t i = by_class (region_class g t)
      (λ e. rw (found_outside 0 t i e) (outside_between w 0 i))
      (λ e. rw (found_last t i e) (last_between w i))
      (λ e. rw (found_full 0 t i e) (full_between w 0 i))
  found_between w (suc n) t i = by_class (region_class g t)
      (λ e. rw (found_outside (suc n) t i e) (outside_between w (suc n) i))
      (λ e. rw (found_cut n t i e) (cut_between w n i (below n t i) (λ k. found_between w n (child k t) (4 * i + k))))
      (λ e. rw (found_full (suc n) t i e) (full_between w (suc n) i))

  -- ---- the path of a point

  module _ (p : Vec3) (l : UnitLength p) where
    not_held : {X : Type 0} (t : Trixel) → Inside p t → region_class g t ≡ Outside → holds g p ≡ true → X
    not_held t i e h = absurd (true≢false (sym h ∙ outside_region p l t i g (ap is_outside e)))

    held : (t : Trixel) → Inside p t → region_class g t ≡ Full → holds g p ≡ true
    held t i e = full_region p l t i g (ap is_full e)

    here : (n : ℕ) (t : Trixel) (i : ℕ) → Has (descendants n i ∷ []) (descend p n t i)
    here n t i = in_range n i (descend p n t i) (descend_low p n t i) (descend_high p n t i)

    -- where the region holds p, an accepted range has its identifier
    pub held_accepted : (n : ℕ) (t : Trixel) (i : ℕ) → Inside p t → holds g p ≡ true → Has (visit n g t i).accepted (descend p n t i)
    unfolding descend
    held_accepted zero t i s h = by_class (region_class g t)
        (λ e. not_held t s e h)
        (λ e. subst (λ f. Has f.accepted (descend p 0 t i)) (sym (found_last t i e)) (here 0 t i))
        (λ e. subst (λ f. Has f.accepted (descend p 0 t i)) (sym (found_full 0 t i e)) (here 0 t i))
    held_accepted (suc n) t i s h = by_class (region_class g t)
        (λ e. not_held t s e h)
        (λ e. subst (λ f. Has f.accepted (descend p (suc n) t i)) (sym (found_cut n t i e)) (has_row (λ k. (below n t i k).accepted) (digit p t) (descend p (suc n) t i) (digit_small p t)
        (held_accepted n (child (digit p t) t) (4 * i + digit p t) (child_inside p t s) h)))
        (λ e. subst (λ f. Has f.accepted (descend p (suc n) t i)) (sym (found_full (suc n) t i e)) (here (suc n) t i))

    -- where a full range has its identifier, the region holds p
    pub full_held : (n : ℕ) (t : Trixel) (i : ℕ) → Inside p t → Has (visit n g t i).full (descend p n t i) → holds g p ≡ true
    unfolding descend
    full_held zero t i s h = by_class (region_class g t)
        (λ e. nowhere (descend p 0 t i) (subst (λ f. Has f.full (descend p 0 t i)) (found_outside 0 t i e) h))
        (λ e. nowhere (descend p 0 t i) (subst (λ f. Has f.full (descend p 0 t i)) (found_last t i e) h))
        (λ e. held t s e)
    full_held (suc n) t i s h = by_class (region_class g t)
        (λ e. nowhere (descend p (suc n) t i) (subst (λ f. Has f.full (descend p (suc n) t i)) (found_outside (suc n) t i e) h))
        (λ e. full_held n (child (digit p t) t) (4 * i + digit p t) (child_inside p t s)
        (row_own (λ k. (below n t i k).full) (4 * i) (4 ^ n) (λ k. found_between full n (child k t) (4 * i + k)) (digit p t) (descend p (suc n) t i)
        (descend_low p n (child (digit p t) t) (4 * i + digit p t)) (descend_high p n (child (digit p t) t) (4 * i + digit p t))
        (subst (λ f. Has f.full (descend p (suc n) t i)) (found_cut n t i e) h)))
        (λ e. held t s e)

-- ---- the eight roots

module _ (g : Region) (d : ℕ) where
  abbrev root_list : Which → ℕ → List Range
  root_list w k = list_of w (visit_root (d - 1) g k)

  root_between : (w : Which) (k : ℕ) → Between ((8 + k) * 4 ^ (d - 1)) ((8 + k + 1) * 4 ^ (d - 1)) (root_list w k)
  root_between w k = found_between g w (d - 1) (root_trixel k) (8 + k)

  -- the later four, from their stretches
  late : (L : ℕ → List Range) → ((k : ℕ) → Between ((8 + k) * 4 ^ (d - 1)) ((8 + k + 1) * 4 ^ (d - 1)) (L k)) → (k : ℕ) → Between ((12 + k) * 4 ^ (d - 1)) ((12 + k + 1) * 4 ^ (d - 1)) (L (4 + k))
  late L h k = between_widen ((12 + k) * 4 ^ (d - 1)) ((12 + k + 1) * 4 ^ (d - 1)) ((8 + (4 + k)) * 4 ^ (d - 1)) ((8 + (4 + k) + 1) * 4 ^ (d - 1)) (L (4 + k))
      (mul-le-mul_right (4 ^ (d - 1)) (omega arith)) (mul-le-mul_right (4 ^ (d - 1)) (omega arith)) (h (4 + k))

  eight : (L : ℕ → List Range) → ((k : ℕ) → Between ((8 + k) * 4 ^ (d - 1)) ((8 + k + 1) * 4 ^ (d - 1)) (L k))
      → Between (8 * 4 ^ (d - 1)) (16 * 4 ^ (d - 1)) (row L ++ row (λ k. L (4 + k)))
  eight L h = between_append (8 * 4 ^ (d - 1)) (12 * 4 ^ (d - 1)) (12 * 4 ^ (d - 1)) (16 * 4 ^ (d - 1)) (row L) (row (λ k. L (4 + k)))
      (between_row L 8 (4 ^ (d - 1)) h) (omega arith) (between_row (λ k. L (4 + k)) 12 (4 ^ (d - 1)) (late L h))

  has_eight : (L : ℕ → List Range) (k n : ℕ) → k < 8 → Has (L k) n → Has (row L ++ row (λ m. L (4 + m))) n
  has_eight L k n h w = split (ltb k 4)
      (λ e. has_left (row L) (row (λ m. L (4 + m))) n (has_row L k n (ltb-true k 4 e) w))
      (λ e.
      let f : 4 ≤ k = ltb-false k 4 e in
      let m : k ≡ 4 + (k - 4) = omega arith in
      has_right (row L) (row (λ m. L (4 + m))) n (has_row (λ m. L (4 + m)) (k - 4) n (omega arith) (subst (λ x. Has (L x) n) m w)))

  eight_own : (L : ℕ → List Range) → ((k : ℕ) → Between ((8 + k) * 4 ^ (d - 1)) ((8 + k + 1) * 4 ^ (d - 1)) (L k))
      → (k n : ℕ) → (8 + k) * 4 ^ (d - 1) ≤ n → n < (8 + k + 1) * 4 ^ (d - 1) → Has (row L ++ row (λ m. L (4 + m))) n → Has (L k) n
  eight_own L h k n lo hi w = has_cases (row L) (row (λ m. L (4 + m))) n w
      (λ a. row_has L n a (λ m x. own L 8 (4 ^ (d - 1)) h k m n x lo hi))
      (λ b. row_has (λ m. L (4 + m)) n b (λ m x. own L 8 (4 ^ (d - 1)) h k (4 + m) n x lo hi))

  -- either list lies among the identifiers of the depth
  pub cutting_between : (w : Which) → Between (8 * 4 ^ (d - 1)) (16 * 4 ^ (d - 1)) (list_of w (cutting d g))
  unfolding cutting
  cutting_between accepted = eight (root_list accepted) (root_between accepted)
  cutting_between full = eight (root_list full) (root_between full)

  -- the lowest of which is 2^(2·d + 1), and there are as many
  pub cutting_at_depth : (w : Which) → 1 ≤ d → Between (2 ^ (2 * d + 1)) (2 ^ (2 * d + 1) + 2 ^ (2 * d + 1)) (list_of w (cutting d g))
  cutting_at_depth w deep =
      let e : d ≡ suc (d - 1) = omega arith in
      let q : 4 ^ d ≡ 4 ^ (d - 1) * 4 = ap (λ n. 4 ^ n) e ∙ pow-suc 4 (d - 1) in
      let l = next_power d in
      between_widen _ _ (8 * 4 ^ (d - 1)) (16 * 4 ^ (d - 1)) (list_of w (cutting d g)) (omega arith) (omega arith) (cutting_between w)

  pub accepted_ascends : SpacedBy 0 (cutting d g).accepted
  accepted_ascends = between_spaced (8 * 4 ^ (d - 1)) (16 * 4 ^ (d - 1)) (cutting d g).accepted (cutting_between accepted)

  pub full_ascends : SpacedBy 0 (cutting d g).full
  full_ascends = between_spaced (8 * 4 ^ (d - 1)) (16 * 4 ^ (d - 1)) (cutting d g).full (cutting_between full)

  module _ (p : Vec3) (l : UnitLength p) where
    pub cutting_accepts : holds g p ≡ true → Has (cutting d g).accepted (identifier p d)
    unfolding cutting identifier
    cutting_accepts h = has_eight (root_list accepted) (root_number p) (identifier p d) (root_small p) (held_accepted g p l (d - 1) (root_trixel (root_number p)) (8 + root_number p) (root_inside p) h)

    pub cutting_holds : Has (cutting d g).full (identifier p d) → holds g p ≡ true
    unfolding cutting identifier
    cutting_holds h = full_held g p l (d - 1) (root_trixel (root_number p)) (8 + root_number p) (root_inside p)
        (eight_own (root_list full) (root_between full) (root_number p) (identifier p d)
        (descend_low p (d - 1) (root_trixel (root_number p)) (8 + root_number p)) (descend_high p (d - 1) (root_trixel (root_number p)) (8 + root_number p)) h)

-- ---- seen is at most 8 (4^d − 1) / 3

seen_cut : (q a b c d : ℕ) → 3 * a + 1 ≤ q → 3 * b + 1 ≤ q → 3 * c + 1 ≤ q → 3 * d + 1 ≤ q → 3 * (1 + (a + (b + (c + d)))) + 1 ≤ q * 4
seen_cut q a b c d ha hb hc hd = omega arith

level : (d : ℕ) → 1 ≤ d → suc (d - 1) ≡ d
level d h = omega arith

seen_one : (n : ℕ) → 3 * 1 + 1 ≤ 4 ^ suc n
seen_one n = omega (arith, power n, pow-suc 4 n)

module _ (g : Region) where
  pub seen_small : (n : ℕ) (t : Trixel) (i : ℕ) → 3 * (visit n g t i).seen + 1 ≤ 4 ^ suc n
  seen_small zero t i = by_class (region_class g t)
      (λ e. subst (λ f. 3 * f.seen + 1 ≤ 4 ^ 1) (sym (found_outside g 0 t i e)) (seen_one 0))
      (λ e. subst (λ f. 3 * f.seen + 1 ≤ 4 ^ 1) (sym (found_last g t i e)) (seen_one 0))
      (λ e. subst (λ f. 3 * f.seen + 1 ≤ 4 ^ 1) (sym (found_full g 0 t i e)) (seen_one 0))
  seen_small (suc n) t i = by_class (region_class g t)
      (λ e. subst (λ f. 3 * f.seen + 1 ≤ 4 ^ suc (suc n)) (sym (found_outside g (suc n) t i e)) (seen_one (suc n)))
      (λ e. subst (λ f. 3 * f.seen + 1 ≤ 4 ^ suc (suc n)) (sym (found_cut g n t i e))
      (subst (λ x. 3 * (cut_into (four (below g n t i 0) (below g n t i 1) (below g n t i 2) (below g n t i 3))).seen + 1 ≤ x) (sym (pow-suc 4 (suc n)))
      (seen_cut (4 ^ suc n) (below g n t i 0).seen (below g n t i 1).seen (below g n t i 2).seen (below g n t i 3).seen
      (seen_small n (child 0 t) (4 * i + 0)) (seen_small n (child 1 t) (4 * i + 1)) (seen_small n (child 2 t) (4 * i + 2)) (seen_small n (child 3 t) (4 * i + 3)))))
      (λ e. subst (λ f. 3 * f.seen + 1 ≤ 4 ^ suc (suc n)) (sym (found_full g (suc n) t i e)) (seen_one (suc n)))

  root_seen : (n k : ℕ) → 3 * (visit_root n g k).seen + 1 ≤ 4 ^ suc n
  root_seen n k = seen_small n (root_trixel k) (8 + k)

  cutting_seen : (d : ℕ) → 1 ≤ d → 3 * (cutting d g).seen ≤ 8 * (4 ^ d - 1)
  unfolding cutting
  cutting_seen d h =
      let s : (k : ℕ) → 3 * (visit_root (d - 1) g k).seen + 1 ≤ 4 ^ d = λ k. subst (λ x. 3 * (visit_root (d - 1) g k).seen + 1 ≤ 4 ^ x) (level d h) (root_seen (d - 1) k) in
      omega (arith, s 0, s 1, s 2, s 3, s 4, s 5, s 6, s 7)

pub seen_bound : SeenBound
unfolding cover_of
seen_bound f x a = cutting_seen x.region x.depth (depth_range x.depth (read_depth f x a)).0
