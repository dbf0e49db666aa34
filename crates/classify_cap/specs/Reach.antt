-- The search for E. Document 01, 'Classifying'.
--   reach_all ..          n² (r·r) ≤ x² for each ray r of s and its x: where each x is b·r, and positive, b reaches n at all three
--   greatest_reach ..     the greatest such n up to K, which is E (proofs/ReachLaws)
--   Bounded ..           how large these numbers are, for rays with their heights
--   all_positive b s      b·r > 0 for each ray r of s; ProductsOf b s .. then each x is b·r
--   OnAxes s             each ray of s is 2⁴⁰ long, as those of a root are
--   Spanned ..           the search for it: low is such an n, and none from high up to K is
use Rattle.std.specs.Prelude.{ℕ, ◌+◌, ◌*◌, ◌^◌, ◌≤◌, ◌<◌, ◌≡◌, Bool, true, false, ◌&&◌, leb, pos}
use Rattle.vector.specs.declared.Vec3.{Vec3}
use Rattle.vector.specs.Numbers.{Kℕ, greatest}
use Rattle.vector.specs.Vectors.{dot}
use Rattle.classify.specs.Shape.{positive}
use Rattle.classify_prepared.specs.declared.TrixelRays.{TrixelRays}
use Rattle.classify_prepared.specs.Measures.{square_of, OwnRays}

abbrev pub reach_all : ℕ → ℕ → ℕ → TrixelRays → ℕ → Bool
reach_all x0 x1 x2 s n =
    leb (n * n * square_of s.r0) (x0 * x0)
    && (leb (n * n * square_of s.r1) (x1 * x1)
    && leb (n * n * square_of s.r2) (x2 * x2))

abbrev pub greatest_reach : ℕ → ℕ → ℕ → TrixelRays → ℕ
greatest_reach x0 x1 x2 s = greatest (λ n. reach_all x0 x1 x2 s n) Kℕ

pub record Bounded (x0 x1 x2 : ℕ) (s : TrixelRays) : Type 0 where
  pub p0 : x0 ≤ 3 * 2 ^ 61
  pub p1 : x1 ≤ 3 * 2 ^ 61
  pub p2 : x2 ≤ 3 * 2 ^ 61
  pub rays : OwnRays s

abbrev pub all_positive : Vec3 → TrixelRays → Bool
all_positive b s = positive (dot b s.r0.r) && (positive (dot b s.r1.r) && positive (dot b s.r2.r))

pub record ProductsOf (b : Vec3) (s : TrixelRays) (x0 x1 x2 : ℕ) : Type 0 where
  pub r0 : dot b s.r0.r ≡ pos x0
  pub r1 : dot b s.r1.r ≡ pos x1
  pub r2 : dot b s.r2.r ≡ pos x2

pub record OnAxes (s : TrixelRays) : Type 0 where
  pub r0 : square_of s.r0 ≡ 2 ^ 80
  pub r1 : square_of s.r1 ≡ 2 ^ 80
  pub r2 : square_of s.r2 ≡ 2 ^ 80

pub record Spanned (x0 x1 x2 : ℕ) (s : TrixelRays) (low high : ℕ) : Type 0 where
  pub order : low < high
  pub most : high ≤ Kℕ + 1
  pub passes : reach_all x0 x1 x2 s low ≡ true
  pub above : (k : ℕ) → high ≤ k → k ≤ Kℕ → reach_all x0 x1 x2 s k ≡ false
