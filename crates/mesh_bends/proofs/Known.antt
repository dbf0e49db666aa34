-- A trixel of the rule, i levels below depth 3, whose plain corners and bends passed the test together with all below it to depth 7: what is known of it, and
-- that it is known of each child again. Assumes nothing.
--   Known i a g x    x and the bends a passed; g is the volume of the trixel of depth 3 above
--   facts            the facts of such a trixel
--   small_bends      its bends are small, as the code asks
--   below            it is known of each child, with the bends by the formulas
--   volume_large     the volume g is at least 1688 · 10¹⁴
--   known_bare       it is known of the corners alone
--   passed_known     it is known of a trixel of depth 3 that passed, with the bends of its corners and its own volume
use Prim.Native.Nat.{ℕ, zero, suc, ◌+◌, ◌-◌, ◌*◌, ◌≤◌, ◌<◌}
use native.Mathlib.Omega.{arith}
use mathlib.Core.Path.{◌≡◌, refl, sym, ap, subst, ◌∙◌}
use mathlib.Core.Bool.{Bool, true, cond, ◌&&◌}
use borrow.Author.Tests.{leb-true, ne_eqb}
use lib.Dec.{eqb, leb}
use lib.IntN.{ℤ, pos}
use lib.Signed.{◌≤ℤ◌}
use Rattle.algebra.proofs.Order.{nn_pos}
use Rattle.algebra.proofs.Tests.{and_left, and_right, le_yes}
use Rattle.jump.proofs.Jump.{det}
use Rattle.jump.proofs.UnitLaws.{three}
use Rattle.vector.specs.declared.Vec3.{Vec3}
use Rattle.mesh.specs.declared.Trixel.{Trixel}
use Rattle.mesh.specs.Trixels.{child}
use Rattle.mesh.specs.Identifiers.{corners_of}
use Rattle.mesh_trixels.specs.Corners.{triple_of, bare}
use Rattle.mesh_bends.specs.declared.Bends.{Bends}
use Rattle.mesh_bends.specs.Bends.{bends, bends_of, first_at_corner, first_in_middle, later_at_corner, later_in_middle, bends_below, SmallBends}
use Rattle.mesh_bends.proofs.BendFacts.{Limits, limits_at, Facts}
use Rattle.mesh_bends.proofs.Plain.{least_volume, Triple, Sizes, dotted, sizes_of, middles, part0, part1, part2, turn, corner_sizes, middle_sizes, sum_length, is_shaped, above, beneath, volume, is_large, fits_root, fits, within, every, is_spread, passes}
use Rattle.mesh_bends.proofs.PlainLaws.{signed, Same, same0, same1, same2, same3, signed_sizes, difference_is, edge_is, cut_is}
use Rattle.mesh_bends.proofs.TestLaws.{shape_at, volume_is, large_at, fit_at, octant_at}

pub record Known (i : ℕ) (a : Bends) (g : ℤ) (x : Trixel) : Type 0 where
  pub corners : Triple
  pub sizes : Sizes
  pub volume : ℕ
  pub left : ℕ
  pub levels : left + i ≡ 5
  pub same : Same x corners
  pub bent : signed_sizes sizes ≡ a
  pub above : pos volume ≡ g
  pub passed : every left i volume corners sizes ≡ true
  pub large : leb least_volume volume ≡ true

-- ---- five tests joined

module _ (a b c d e : Bool) (h : a && b && c && d && e ≡ true) where
  four : a && b && c && d ≡ true
  four = and_left (a && b && c && d) e h

  front : a && b && c ≡ true
  front = and_left (a && b && c) d four

  two : a && b ≡ true
  two = and_left (a && b) c front

  first : a ≡ true
  first = and_left a b two

  second : b ≡ true
  second = and_right a b two

  third : c ≡ true
  third = and_right (a && b) c front

  fourth : d ≡ true
  fourth = and_right (a && b && c) d four

  fifth : e ≡ true
  fifth = and_right (a && b && c && d) e h

-- ---- the trixel's own test

module _ (l : Limits) (g : ℕ) (t : Triple) (b : Sizes) (h : within l g t b ≡ true) where
  shaped : is_shaped l.edge t ≡ true
  unfolding within
  shaped = and_left (is_shaped l.edge t) (is_large l.part g t) (and_left (is_shaped l.edge t && is_large l.part g t) (fits l t b) h)

  large : is_large l.part g t ≡ true
  unfolding within
  large = and_right (is_shaped l.edge t) (is_large l.part g t) (and_left (is_shaped l.edge t && is_large l.part g t) (fits l t b) h)

  abbrev f0 : Bool
  f0 = fits_root l b.a0 (sum_length t.b t.c)

  abbrev f1 : Bool
  f1 = fits_root l b.a1 (sum_length t.a t.c)

  abbrev f2 : Bool
  f2 = fits_root l b.a2 (sum_length t.a t.b)

  all_fit : f0 && f1 && f2 ≡ true
  unfolding within fits
  all_fit = and_right (is_shaped l.edge t && is_large l.part g t) (fits l t b) h

  fit0 : f0 ≡ true
  fit0 = and_left f0 f1 (and_left (f0 && f1) f2 all_fit)

  fit1 : f1 ≡ true
  fit1 = and_right f0 f1 (and_left (f0 && f1) f2 all_fit)

  fit2 : f2 ≡ true
  fit2 = and_right (f0 && f1) f2 all_fit

-- a bend that fits is at most the largest
fit_most : (l : Limits) (a n : ℕ) → fits_root l a n ≡ true → a ≤ l.bend
fit_most l a n e =
    let m : Bool = leb a l.bend in
    let s : Bool = leb (a + 8 * n) (16777216 + l.behind) in
    leb-true a l.bend (and_left m s (and_left (m && s) (leb 16777216 (a + l.ahead + 8 * n)) e))

-- no bend of any level is above 2²⁰
bend_most : (i : ℕ) → (limits_at i).bend ≤ 1048576
bend_most zero = omega arith
bend_most (suc zero) = omega arith
bend_most (suc (suc zero)) = omega arith
bend_most (suc (suc (suc zero))) = omega arith
bend_most (suc (suc (suc (suc i)))) = omega arith

record SmallSizes (b : Sizes) : Type 0 where
  a0 : b.a0 ≤ 1048576
  a1 : b.a1 ≤ 1048576
  a2 : b.a2 ≤ 1048576

small_turn : {b : Sizes} → SmallSizes b → SmallSizes (turn b)
small_turn h = record { a0 = h.a1; a1 = h.a2; a2 = h.a0 }

module _ (i g : ℕ) (t : Triple) (b : Sizes) (h : within (limits_at i) g t b ≡ true) where
  sizes_small : SmallSizes b
  sizes_small = record {
    a0 = omega (arith, bend_most i, fit_most (limits_at i) b.a0 (sum_length t.b t.c) (fit0 (limits_at i) g t b h));
    a1 = omega (arith, bend_most i, fit_most (limits_at i) b.a1 (sum_length t.a t.c) (fit1 (limits_at i) g t b h));
    a2 = omega (arith, bend_most i, fit_most (limits_at i) b.a2 (sum_length t.a t.b) (fit2 (limits_at i) g t b h));
  }

  -- of a trixel with the corners of t, whatever its normals are
  plain_facts : (p0 p1 p2 : Vec3)
      → Facts i (signed_sizes b) (pos g) (record { v0 = signed t.a; v1 = signed t.b; v2 = signed t.c; p0 = p0; p1 = p1; p2 = p2 })
  plain_facts p0 p1 p2 = record {
    shape = shape_at (limits_at i).edge t (shaped (limits_at i) g t b h);
    large = large_at (limits_at i).part g t (large (limits_at i) g t b h);
    octant0 = octant_at t.a;
    octant1 = octant_at t.b;
    octant2 = octant_at t.c;
    fit0 = fit_at (limits_at i) b.a0 t.b t.c (fit0 (limits_at i) g t b h);
    fit1 = fit_at (limits_at i) b.a1 t.a t.c (fit1 (limits_at i) g t b h);
    fit2 = fit_at (limits_at i) b.a2 t.a t.b (fit2 (limits_at i) g t b h);
  }

-- ---- the bends of a child

corner_is : (i : ℕ) (b : Sizes) → SmallSizes b → signed_sizes (corner_sizes i b) ≡ cond (eqb i 0) (first_at_corner (signed_sizes b)) (later_at_corner (signed_sizes b))
corner_is zero b h =
    let e = sym (cut_is b.a0 (b.a0 + b.a1 + b.a2) h.a0) in
    ap (λ c. bends c (first_at_corner (signed_sizes b)).a1 (first_at_corner (signed_sizes b)).a2) e
corner_is (suc i) b h = rw (ne_eqb (suc i) 0 (λ e. omega (arith, e))) refl

middle_is : (i : ℕ) (b : Sizes) → SmallSizes b → signed_sizes (middle_sizes i b) ≡ cond (eqb i 0) (first_in_middle (signed_sizes b)) (later_in_middle (signed_sizes b))
middle_is zero b h =
    let sum : ℕ = b.a0 + b.a1 + b.a2 in
    λ j. bends (sym (cut_is b.a0 sum h.a0) j) (sym (cut_is b.a1 sum h.a1) j) (sym (cut_is b.a2 sum h.a2) j)
middle_is (suc i) b h = rw (ne_eqb (suc i) 0 (λ e. omega (arith, e))) refl

-- ---- what is known

-- the tests that a trixel with levels left has passed
module _ (n i g : ℕ) (t : Triple) (b : Sizes) (h : every (suc n) i g t b ≡ true) where
  abbrev own : Bool
  own = within (limits_at i) g t b

  abbrev e0 : Bool
  e0 = every n (suc i) g (part0 t (middles t)) (corner_sizes i b)

  abbrev e1 : Bool
  e1 = every n (suc i) g (part1 t (middles t)) (corner_sizes i (turn b))

  abbrev e2 : Bool
  e2 = every n (suc i) g (part2 t (middles t)) (corner_sizes i (turn (turn b)))

  abbrev e3 : Bool
  e3 = every n (suc i) g (middles t) (middle_sizes i b)

  own_passed : own ≡ true
  unfolding every
  own_passed = first own e0 e1 e2 e3 h

  passed0 : e0 ≡ true
  unfolding every
  passed0 = second own e0 e1 e2 e3 h

  passed1 : e1 ≡ true
  unfolding every
  passed1 = third own e0 e1 e2 e3 h

  passed2 : e2 ≡ true
  unfolding every
  passed2 = fourth own e0 e1 e2 e3 h

  passed3 : e3 ≡ true
  unfolding every
  passed3 = fifth own e0 e1 e2 e3 h

-- to depth 7 there is a level left
tested : {i : ℕ} {a : Bends} {g : ℤ} {x : Trixel} (k : Known i a g x) → i ≤ 4 → within (limits_at i) k.volume k.corners k.sizes ≡ true
tested {i} k h = by k.left k.levels k.passed
  where
    by : (n : ℕ) → n + i ≡ 5 → every n i k.volume k.corners k.sizes ≡ true → within (limits_at i) k.volume k.corners k.sizes ≡ true
    by zero e p = absurd (omega (arith, e))
    by (suc n) e p = own_passed n i k.volume k.corners k.sizes p

pub facts : {i : ℕ} {a : Bends} {g : ℤ} {x : Trixel} → Known i a g x → i ≤ 4 → Facts i a g x
facts {i} {a} {g} {x} k h =
    let f = plain_facts i k.volume k.corners k.sizes (tested k h) x.p0 x.p1 x.p2 in
    let s = k.same in
    let same : _ ≡ x = λ j. record { v0 = sym s.at0.is j; v1 = sym s.at1.is j; v2 = sym s.at2.is j; p0 = x.p0; p1 = x.p1; p2 = x.p2 } in
    subst (λ b. Facts i b g x) k.bent (subst (λ h. Facts i (signed_sizes k.sizes) h x) k.above (subst (Facts i (signed_sizes k.sizes) (pos k.volume)) same f))

pub small_bends : {i : ℕ} {a : Bends} {g : ℤ} {x : Trixel} → Known i a g x → i ≤ 4 → SmallBends a
small_bends {i} k h =
    let b = sizes_small i k.volume k.corners k.sizes (tested k h) in
    subst SmallBends k.bent (record { a0 = record { le = b.a0 }; a1 = record { le = b.a1 }; a2 = record { le = b.a2 }; nn0 = nn_pos _; nn1 = nn_pos _; nn2 = nn_pos _ })

pub below : {i : ℕ} {a : Bends} {g : ℤ} {x : Trixel} → Known i a g x → i < 4 → (d : ℕ) → d < 4 → Known (suc i) (bends_below (eqb i 0) d a) g (child d x)
below {i} {a} {g} {x} k h d l = subst (λ b. Known (suc i) (bends_below (eqb i 0) d b) g (child d x)) k.bent (by k.left k.levels k.passed d l)
  where
    t : Triple
    t = k.corners

    b : Sizes
    b = k.sizes

    small : SmallSizes b
    small = sizes_small i k.volume t b (tested k (omega (arith, h)))

    -- a child by its plain corners and bends
    next : (d n : ℕ) (s : Triple) (c : Sizes) → suc n + i ≡ 5 → Same (child d x) s → signed_sizes c ≡ bends_below (eqb i 0) d (signed_sizes b)
        → every n (suc i) k.volume s c ≡ true → Known (suc i) (bends_below (eqb i 0) d (signed_sizes b)) g (child d x)
    next d n s c e same bent passed = record {
      corners = s;
      sizes = c;
      volume = k.volume;
      left = n;
      levels = omega (arith, e);
      same = same;
      bent = bent;
      above = k.above;
      passed = passed;
      large = k.large;
    }

    by : (n : ℕ) → n + i ≡ 5 → every n i k.volume t b ≡ true → (d : ℕ) → d < 4 → Known (suc i) (bends_below (eqb i 0) d (signed_sizes b)) g (child d x)
    by zero e p d l = absurd (omega (arith, e, h))
    by (suc n) e p zero l = next 0 n (part0 t (middles t)) (corner_sizes i b) e (same0 k.same) (corner_is i b small) (passed0 n i k.volume t b p)
    by (suc n) e p (suc zero) l =
        next 1 n (part1 t (middles t)) (corner_sizes i (turn b)) e (same1 k.same) (corner_is i (turn b) (small_turn small)) (passed1 n i k.volume t b p)
    by (suc n) e p (suc (suc zero)) l =
        next 2 n (part2 t (middles t)) (corner_sizes i (turn (turn b))) e (same2 k.same) (corner_is i (turn (turn b)) (small_turn (small_turn small))) (passed2 n i k.volume t b p)
    by (suc n) e p (suc (suc (suc zero))) l = next 3 n (middles t) (middle_sizes i b) e (same3 k.same) (middle_is i b small) (passed3 n i k.volume t b p)
    by (suc n) e p (suc (suc (suc (suc d)))) l = absurd (omega (arith, l))

-- ---- at depth 3

-- a trixel that is at least its own plain volume has that volume
volume_at : (t : Triple) → is_large 1073741824 (volume t) t ≡ true → pos (volume t) ≡ det (three (signed t.a)) (three (signed t.b)) (three (signed t.c))
unfolding is_large volume
volume_at t e =
    let p : ℕ = above t.a t.b t.c in
    let q : ℕ = beneath t.a t.b t.c in
    let l = leb-true (1073741824 * (p - q) + 1073741824 * q) (1073741824 * p) e in
    sym (volume_is t.a t.b t.c ∙ difference_is p q (omega (arith, l)))

bends_at : (t : Triple) → is_spread t ≡ true → signed_sizes (sizes_of t) ≡ bends_of (triple_of (signed t.a) (signed t.b) (signed t.c))
unfolding is_spread sizes_of
bends_at t e =
    let l : ℕ = 1099511627776 in
    let p : Bool = leb (dotted t.b t.c) l in
    let q : Bool = leb (dotted t.c t.a) l in
    let r : Bool = leb (dotted t.a t.b) l in
    let a0 = edge_is t.b t.c (leb-true (dotted t.b t.c) l (and_left p q (and_left (p && q) r e))) in
    let a1 = edge_is t.c t.a (leb-true (dotted t.c t.a) l (and_right p q (and_left (p && q) r e))) in
    let a2 = edge_is t.a t.b (leb-true (dotted t.a t.b) l (and_right (p && q) r e)) in
    λ j. bends (sym a0 j) (sym a1 j) (sym a2 j)

pub passed_known : {x : Trixel} {t : Triple} → Same x t → passes t ≡ true → Known 0 (bends_of (corners_of x)) (det (three x.v0) (three x.v1) (three x.v2)) x
unfolding passes
passed_known {x} {t} s e =
    let rest = and_right (leb least_volume (volume t)) (is_spread t && every 5 0 (volume t) t (sizes_of t)) e in
    let p = and_right (is_spread t) (every 5 0 (volume t) t (sizes_of t)) rest in
    let own = own_passed 4 0 (volume t) t (sizes_of t) p in
    let same : corners_of x ≡ triple_of (signed t.a) (signed t.b) (signed t.c) = λ j. triple_of (s.at0.is j) (s.at1.is j) (s.at2.is j) in
    record {
      corners = t;
      sizes = sizes_of t;
      volume = volume t;
      left = 5;
      levels = refl;
      same = s;
      bent = bends_at t (and_left (is_spread t) (every 5 0 (volume t) t (sizes_of t)) rest) ∙ sym (ap bends_of same);
      above = volume_at t (large (limits_at 0) (volume t) t (sizes_of t) own) ∙ sym (ap (λ c. det (three c.v0) (three c.v1) (three c.v2)) same);
      passed = p;
      large = and_left (leb least_volume (volume t)) (is_spread t && every 5 0 (volume t) t (sizes_of t)) e;
    }

-- the volume of the trixel of depth 3 is not small
pub volume_large : {i : ℕ} {a : Bends} {g : ℤ} {x : Trixel} → Known i a g x → pos least_volume ≤ℤ g
volume_large k = subst (λ g. pos least_volume ≤ℤ g) k.above (le_yes k.large)

-- it is known of corners alone
pub known_bare : {i : ℕ} {a : Bends} {g : ℤ} {x : Trixel} → Known i a g x → Known i a g (bare (corners_of x))
known_bare k = record {
  corners = k.corners;
  sizes = k.sizes;
  volume = k.volume;
  left = k.left;
  levels = k.levels;
  same = record { at0 = k.same.at0; at1 = k.same.at1; at2 = k.same.at2 };
  bent = k.bent;
  above = k.above;
  passed = k.passed;
  large = k.large;
}
