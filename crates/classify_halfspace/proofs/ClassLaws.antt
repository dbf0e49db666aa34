-- The class by what was prepared is the class of the halfspace; and the class by the rays first: all pass, some do, none does. Assumes nothing.
use mathlib.Core.Path.{◌≡◌, refl, sym, subst, ap, ◌∙◌}
use mathlib.Core.Bool.{Bool, true, false, cond, not, true≢false, ◌&&◌, ◌||◌}
use borrow.Author.Tests.{not-false}
use lib.IntN.{ℤ, nat_abs}
use lib.Signed.{non_neg}
use Rattle.algebra.proofs.Tests.{split, and_left, and_right, and_both, and_then, and_no_left, and_no_right, or_left}
use Rattle.vector.specs.declared.Vec3.{Vec3}
use Rattle.mesh.specs.declared.Trixel.{Trixel}
use Rattle.region.specs.declared.Halfspace.{Halfspace}
use Rattle.classify.specs.declared.Class.{Class}
use Rattle.classify.specs.declared.Class.TheVariants.{Outside, Partial, Full}
use Rattle.classify_prepared.specs.declared.PreparedHalfspace.{PreparedHalfspace}
use Rattle.classify_rays.specs.declared.Passed.{Passed}
use Rattle.classify_rays.specs.declared.Passed.TheVariants.{None, Some, All}
use Rattle.classify.specs.Shape.{f_of, positive, ray0, ray1, ray2, volume, ahead, b_of, EOf, within, far, apart, within_by, by_cap, beyond, apart_by}
use Rattle.classify.specs.Classes.{halfspace_class}
use Rattle.classify_prepared.specs.Measures.{prepared, SoundHalfspace}
use Rattle.classify_halfspace.specs.Halfspaces.{prepared_class, enclosed, class_within, class_apart, apart_class, edges_class, rays_class}
use Rattle.classify.proofs.RaysFirst.{passes, all_pass, one_passes, by_rays, one_refutes}
use Rattle.classify_rays.specs.Rays.{passed_of, rays_passed}
use Rattle.classify_halfspace.proofs.Enclosing.{enclosed_passes}

pub prepared_class_is : (h : Halfspace) (t : Trixel) → prepared_class (prepared h) t ≡ halfspace_class h t
unfolding prepared_class halfspace_class within apart
prepared_class_is h t = refl

-- for what a halfspace was prepared to
pub sound_refutes : (q : PreparedHalfspace) → SoundHalfspace q → (t : Trixel) → positive (volume t) ≡ true
    → one_passes q.f q.high t ≡ true → apart_by q.f q.low t ≡ false
sound_refutes q s t v = subst
    (λ q. one_passes q.f q.high t ≡ true → apart_by q.f q.low t ≡ false)
    (sym s.is) (one_refutes (f_of s.halfspace) (nat_abs s.halfspace.d) t v)

-- ---- by the sign of d and the two tests

by_sign : (n w a : Bool) → cond n (cond w Full (cond a Outside Partial)) (cond w Outside (cond a Full Partial)) ≡ cond w (cond n Full Outside) (cond a (cond n Outside Full) Partial)
by_sign true true a = refl
by_sign true false a = refl
by_sign false true a = refl
by_sign false false a = refl

module _ (q : PreparedHalfspace) (t : Trixel) where
  -- the class where within is asked first, and c is that where it does not hold
  abbrev within_first : Class → Class
  within_first c = cond (within_by q.f q.high t) (class_within q.d) c

  prepared_class_first : prepared_class q t ≡ within_first (apart_class q t)
  unfolding prepared_class apart_class
  prepared_class_first = by_sign (non_neg q.d) (within_by q.f q.high t) (apart_by q.f q.low t)

  rays_first : rays_class q t ≡ within_first (edges_class q t)
  unfolding rays_class
  rays_first = refl

  is_within : (c : Class) → within_by q.f q.high t ≡ true → within_first c ≡ class_within q.d
  is_within c w = ap (λ w. cond w (class_within q.d) c) w

  not_within : (c : Class) → within_by q.f q.high t ≡ false → within_first c ≡ c
  not_within c w = ap (λ w. cond w (class_within q.d) c) w

  is_apart : apart_by q.f q.low t ≡ true → apart_class q t ≡ class_apart q.d
  unfolding apart_class
  is_apart a = ap (λ a. cond a (class_apart q.d) Partial) a

  not_apart : apart_by q.f q.low t ≡ false → apart_class q t ≡ Partial
  unfolding apart_class
  not_apart a = ap (λ a. cond a (class_apart q.d) Partial) a

  pub is_beyond : beyond q.f q.low t ≡ true → edges_class q t ≡ class_apart q.d
  unfolding edges_class
  is_beyond a = ap (λ a. cond a (class_apart q.d) Partial) a

  pub not_beyond : beyond q.f q.low t ≡ false → edges_class q t ≡ Partial
  unfolding edges_class
  not_beyond a = ap (λ a. cond a (class_apart q.d) Partial) a

  -- where the bounding cap does not tell
  by_edges : by_cap q.f q.low t ≡ false → apart_class q t ≡ edges_class q t
  unfolding apart_class edges_class
  by_edges e = ap (λ c. cond (c || beyond q.f q.low t) (class_apart q.d) Partial) e

one_of_all : (a b c : Bool) → a && b ≡ true → a || c ≡ true
one_of_all a b c e = or_left c (and_left a b e)

-- ---- how many rays pass

abbrev is_all : Passed → Bool
is_all None = false
is_all Some = false
is_all All = true

abbrev is_none : Passed → Bool
is_none None = true
is_none Some = false
is_none All = false

all_passed : (a b c : Bool) → is_all (passed_of a b c) ≡ a && (b && c)
all_passed true true true = refl
all_passed true true false = refl
all_passed true false c = refl
all_passed false true c = refl
all_passed false false true = refl
all_passed false false false = refl

none_passed : (a b c : Bool) → is_none (passed_of a b c) ≡ not (a || (b || c))
none_passed true true true = refl
none_passed true true false = refl
none_passed true false c = refl
none_passed false true c = refl
none_passed false false true = refl
none_passed false false false = refl

all_rays : (f : Vec3) (g : ℤ) (t : Trixel) → is_all (rays_passed f g t) ≡ all_pass f g t
all_rays f g t = all_passed (passes f g (ray0 t)) (passes f g (ray1 t)) (passes f g (ray2 t))

no_ray : (f : Vec3) (g : ℤ) (t : Trixel) → is_none (rays_passed f g t) ≡ not (one_passes f g t)
no_ray f g t = none_passed (passes f g (ray0 t)) (passes f g (ray1 t)) (passes f g (ray2 t))

-- ---- the class, as a program finds it

module _ (q : PreparedHalfspace) (t : Trixel) where
  pub not_oriented : positive (volume t) ≡ false → prepared_class q t ≡ edges_class q t
  not_oriented v = prepared_class_first q t ∙ not_within q t (apart_class q t) (and_no_left _ v) ∙ by_edges q t (and_no_left _ v)

  -- by the rays, where V > 0
  module _ (v : positive (volume t) ≡ true) where
    within_rays : within_by q.f q.high t ≡ all_pass q.f q.high t
    within_rays = sym (and_then _ v) ∙ by_rays q.f q.high t

    by_count : {x : Bool} → is_all (rays_passed q.f q.high t) ≡ x → within_by q.f q.high t ≡ x
    by_count e = within_rays ∙ sym (all_rays q.f q.high t) ∙ e

    pub when_all : rays_passed q.f q.high t ≡ All → prepared_class q t ≡ class_within q.d
    when_all e = prepared_class_first q t ∙ is_within q t (apart_class q t) (by_count (ap is_all e))

    pub when_some : SoundHalfspace q → rays_passed q.f q.high t ≡ Some → prepared_class q t ≡ Partial
    when_some s e =
        prepared_class_first q t ∙ not_within q t (apart_class q t) (by_count (ap is_all e))
        ∙ not_apart q t (sound_refutes q s t v (not-false (one_passes q.f q.high t) (sym (no_ray q.f q.high t) ∙ ap is_none e)))

    pub when_none : rays_passed q.f q.high t ≡ None → prepared_class q t ≡ apart_class q t
    when_none e = prepared_class_first q t ∙ not_within q t (apart_class q t) (by_count (ap is_all e))

    -- the same, where the bounding cap does not tell
    pub rays_within : all_pass q.f q.high t ≡ true → rays_class q t ≡ class_within q.d
    rays_within e = rays_first q t ∙ is_within q t (edges_class q t) (within_rays ∙ e)

    pub rays_edges : all_pass q.f q.high t ≡ false → rays_class q t ≡ edges_class q t
    rays_edges e = rays_first q t ∙ not_within q t (edges_class q t) (within_rays ∙ e)

    -- by b and E
    pub when_enclosed : SoundHalfspace q → ahead (b_of t) t && enclosed q.f q.low q.high (b_of t) (EOf t) ≡ true → prepared_class q t ≡ class_within q.d
    when_enclosed s w =
        prepared_class_first q t
        ∙ is_within q t (apart_class q t) (within_rays ∙ enclosed_passes q s t (and_left (ahead (b_of t) t) _ w) (and_right (ahead (b_of t) t) _ w))

    pub apart_far : ahead (b_of t) t && far q.f q.low (b_of t) (EOf t) ≡ true → apart_class q t ≡ class_apart q.d
    apart_far w = is_apart q t (or_left _ (and_both v w))

    pub when_far : SoundHalfspace q → ahead (b_of t) t && far q.f q.low (b_of t) (EOf t) ≡ true → prepared_class q t ≡ class_apart q.d
    when_far s w =
        prepared_class_first q t
        ∙ not_within q t (apart_class q t)
        (split (within_by q.f q.high t)
        (λ k. absurd (true≢false (sym (or_left _ (and_both v w)) ∙ sound_refutes q s t v (one_of_all (passes q.f q.high (ray0 t)) _ _ (sym within_rays ∙ k)))))
        (λ n. n))
        ∙ apart_far w

  pub apart_near : ahead (b_of t) t && far q.f q.low (b_of t) (EOf t) ≡ false → apart_class q t ≡ edges_class q t
  apart_near n = by_edges q t (and_no_right (positive (volume t)) n)

  pub when_near : ahead (b_of t) t && far q.f q.low (b_of t) (EOf t) ≡ false → prepared_class q t ≡ rays_class q t
  when_near n = prepared_class_first q t ∙ ap (within_first q t) (apart_near n) ∙ sym (rays_first q t)
