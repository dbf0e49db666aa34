-- `classify_prepared::prepared` has f, d, D, G and f·f − D²: d is within ±K, and so is D. Assumes nothing.
use Prim.Native.Nat.{ℕ, ◌≤◌}
use mathlib.Core.Path.{◌≡◌, sym, ap, subst, ◌∙◌}
use lib.Dec.{lit≤}
use lib.IntN.{ℤ, pos, nat_abs, ◌-ℤ◌}
use mir.Syntax.{w64}
use mir.Val.{to_z, of_z}
use Rattle.algebra.proofs.Sizes.{Upto}
use Rattle.algebra.proofs.Sized.{held, is_mul, is_sub, fits_mul, fits_sub}
use Rattle.vector.specs.Numbers.{Kℕ}
use Rattle.vector.specs.Vectors.{dot}
use Rattle.vector.proofs.SizeLaws.{at_most_mono, between_upto}
use Rattle.vector.proofs.VectorLaws.{vector_small}
use Rattle.region.specs.Regions.{halfspace_from}
use Rattle.classify.specs.Shape.{square, f_of, DOf, GOf}
use Rattle.classify_prepared.proofs.prepared.Goals as goal

-- e
size_is : {d : ℤ} {e : ℕ} → Upto Kℕ d → e ≡ nat_abs (to_z w64 (of_z w64 d)) → e ≡ nat_abs d
size_is h k = k ∙ ap nat_abs (held h tt).eq

size_most : {d : ℤ} {e : ℕ} → Upto Kℕ d → e ≡ nat_abs (to_z w64 (of_z w64 d)) → e ≤ Kℕ
size_most h k = subst (λ n. n ≤ Kℕ) (sym (size_is h k)) h.le

pub turned-f-requires : goal.turned-f-requires
turned-f-requires c = vector_small c.args.n c.requires.n_value

pub low_of-low-requires : goal.low_of-low-requires
low_of-low-requires c = size_most (between_upto c.args.d c.requires.d_value) c.unsigned_abs-e.ensures.value

pub high_of-requires : goal.high_of-requires
high_of-requires c = size_most (between_upto c.args.d c.requires.d_value) c.unsigned_abs-e.ensures.value

pub dot-requires : goal.dot-requires
dot-requires c = let h = c.turned-f.ensures.1 in record {
  small = h;
  at_most = at_most_mono (lit≤ tt) h;
}

pub overflow_mul-result : goal.overflow_mul-result
overflow_mul-result c = let h = c.low_of-low.ensures.1 in fits_mul (held h tt) (held h tt) tt

pub overflow_sub-result : goal.overflow_sub-result
overflow_sub-result c = let h = c.low_of-low.ensures.1 in fits_sub (held c.dot.ensures.upto tt) (is_mul (held h tt) (held h tt) tt) tt

pub returns : goal.returns
returns c =
    let h = between_upto c.args.d c.requires.d_value in
    let e = size_is h c.unsigned_abs-e.ensures.value in
    let d = (held h tt).eq in
    let f = c.turned-f.ensures.0 ∙ ap (λ d. f_of (halfspace_from c.args.n d)) d in
    let D = c.low_of-low.ensures.0 ∙ ap (λ n. DOf (pos n)) e in
    let low = (held c.low_of-low.ensures.1 tt).eq ∙ D in
    let high = (held c.high_of.ensures.1 tt).eq ∙ c.high_of.ensures.0 ∙ ap (λ n. GOf (pos n)) e in
    let length = c.dot.ensures.value ∙ ap (λ v. dot v v) f in
    let rest = (is_sub (held c.dot.ensures.upto tt) (is_mul (held c.low_of-low.ensures.1 tt) (held c.low_of-low.ensures.1 tt) tt) tt).eq ∙ (λ i. length i -ℤ square (D i)) in
    λ i. record { f = f i; d = d i; low = low i; high = high i; rest = rest i }
