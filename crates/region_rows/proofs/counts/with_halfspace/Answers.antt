-- `region_rows::counts::with_halfspace` checks 7, 8 and 9 in this order, and counts the halfspace. Assumes nothing.
use Prim.Native.Nat.{◌<◌}
use native.Mathlib.Omega.{arith}
use mathlib.Core.Path.{◌≡◌, sym, ap, ◌∙◌}
use mathlib.Core.Bool.{Bool, true, ◌&&◌}
use lib.Dec.{ltb}
use borrow.Author.Tests.{ltb-true}
use mir.Syntax.{w64}
use mir.Facts.{to_z-of_z}
use Rattle.algebra.proofs.Tests.{and_left, and_right}
use Rattle.vector.specs.Vectors.{is_vector}
use Rattle.region.specs.Building.{is_offset}
use Rattle.region_rows.specs.RegionSizes.{add_halfspace}
use Rattle.region_rows.proofs.counts.with_halfspace.Goals as goal
use Rattle.region_rows.proofs.counts.with_halfspace.Goals.{Else-not-below_limits, Else-not-is_vector, After-is_offset}

below_both : (c : Else-not-below_limits) → let k = c.args.k in (ltb k.last 100 && ltb k.all 512) ≡ true
below_both c = sym c.below_limits.ensures ∙ c.if-not-below_limits.false

below : (c : Else-not-below_limits) → let k = c.args.k in (k.last < 100) × (k.all < 512)
below c =
    let k = c.args.k in
    (ltb-true k.last 100 (and_left (ltb k.last 100) _ (below_both c)), ltb-true k.all 512 (and_right (ltb k.last 100) _ (below_both c)))

vector : (c : Else-not-is_vector) → is_vector c.args.h.n ≡ true
vector c = sym c.is_vector.ensures ∙ c.if-not-is_vector.false

-- the offset is tested as its bits have it
offset : (c : After-is_offset) (t : Bool) → c.is_offset.result ≡ t → is_offset c.args.h.d ≡ t
offset c t e =
    let d = c.args.h.d in
    ap is_offset (sym (to_z-of_z {w = w64} {z = d} (record { sfits = omega arith }))) ∙ sym c.is_offset.ensures ∙ e

pub returns-then-not-below_limits : goal.returns-then-not-below_limits
unfolding add_halfspace
returns-then-not-below_limits c = simp (sym c.below_limits.ensures ∙ c.if-not-below_limits.true)

pub returns-then-not-is_vector : goal.returns-then-not-is_vector
unfolding add_halfspace
returns-then-not-is_vector c = simp (below_both (goal.at.returns-then-not-is_vector c).Else-not-below_limits, sym c.is_vector.ensures ∙ c.if-not-is_vector.true)

pub returns-then-not-is_offset : goal.returns-then-not-is_offset
unfolding add_halfspace
returns-then-not-is_offset c = simp (below_both (goal.at.returns-then-not-is_offset c).Else-not-below_limits, vector (goal.at.returns-then-not-is_offset c).Else-not-is_vector, offset (goal.at.returns-then-not-is_offset c).After-is_offset _ c.if-not-is_offset.true)

pub overflow_add-result : goal.overflow_add-result
overflow_add-result c = omega (arith, below (goal.at.overflow_add-result c).Else-not-below_limits)

pub overflow_add-result-2 : goal.overflow_add-result-2
overflow_add-result-2 c = omega (arith, below (goal.at.overflow_add-result-2 c).Else-not-below_limits)

pub returns : goal.returns
unfolding add_halfspace
returns c =
    simp (below_both (goal.at.returns c).Else-not-below_limits, vector (goal.at.returns c).Else-not-is_vector, offset (goal.at.returns c).After-is_offset _ c.if-not-is_offset.false)
