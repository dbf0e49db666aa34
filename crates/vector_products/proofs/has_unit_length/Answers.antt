-- `vector_products::has_unit_length` is the test of the square length, which has no sign. Assumes nothing.
use Prim.Native.Nat.{ℕ}
use mathlib.Core.Path.{◌≡◌, ◌∙◌}
use mathlib.Core.Bool.{false, ◌&&◌}
use native.Mathlib.Omega.{arith}
use lib.Dec.{T, leb}
use lib.IntN.{ℤ, pos, negsuc, nat_abs}
use lib.Signed.{non_neg}
use Rattle.std.specs.Ordering.{nat_cmp, as_partial_cmp}
use Rattle.std.specs.Range.{range_inclusive_contains, range_inclusive_start, range_inclusive_end, range_inclusive_exhausted}
use Rattle.std.proofs.lemmas.Grind.{common_steps}
use Rattle.std.proofs.lemmas.Bool.Decides.{nat_tests}
use Rattle.vector.specs.Numbers.{between}
use Rattle.vector.proofs.SizeLaws.{dot_self_nonnegative}
use Rattle.vector_products.proofs.has_unit_length.Goals as goal

in_range : (r : _) (s lo hi : ℕ) → range_inclusive_start {A = ℕ} r ≡ lo → range_inclusive_end r ≡ hi → range_inclusive_exhausted r ≡ false → range_inclusive_contains (as_partial_cmp nat_cmp) r s ≡ (leb lo s && leb s hi)
in_range r s lo hi a b e = grind (arith, nat_tests, common_steps)

with_no_sign : (z : ℤ) (s lo hi : ℕ) → T (non_neg z) → s ≡ nat_abs z → (leb lo s && leb s hi) ≡ between (pos lo) (pos hi) z
with_no_sign (pos n) s lo hi t e = rw e
with_no_sign (negsuc n) s lo hi t e = absurd t

pub returns : goal.returns
returns c =
    let s = c.square_length-s in
    let r = c.new.ensures in
    c.contains.ensures.value ∙ in_range _ s.result _ _ r.start r.end r.exhausted ∙ with_no_sign _ s.result _ _ (dot_self_nonnegative c.args.p) s.ensures.value
