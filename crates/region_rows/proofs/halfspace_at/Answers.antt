-- `region_rows::halfspace_at` is the rule's halfspace, number by number. Assumes nothing.
use Prim.Native.Nat.{ℕ, ◌+◌, ◌^◌}
use mathlib.Core.Path.{◌≡◌, sym, ◌∙◌}
use mathlib.Core.List.{List}
use lib.ListN.{get_or, drop}
use lib.Seq.{get_or-drop}
use lib.IntN.{ℤ, pos}
use mir.Syntax.{w64}
use mir.Val.{to_z, of_z}
use Rattle.algebra.proofs.Sizes.{Upto}
use Rattle.algebra.proofs.Sized.{held, upto_held}
use Rattle.vector.specs.Vectors.{vec}
use Rattle.region_rows.proofs.halfspace_at.Goals as goal

-- number j of the row
same : (rs : List ℤ) (k j : ℕ) {z : ℤ} → (z ≡ get_or rs (k + j) (pos 0)) × Upto (2 ^ 31) z → to_z w64 (of_z w64 z) ≡ get_or (drop k rs) j (pos 0)
same rs k j p = (held p.1 tt).eq ∙ p.0 ∙ sym (get_or-drop k rs j (pos 0))

pub returns : goal.returns
returns c =
    let a = c.args in
    let x = same a.rows.now a.k 1 c.number_at-x.ensures in
    let y = same a.rows.now a.k 2 c.number_at-y.ensures in
    let z = same a.rows.now a.k 3 c.number_at-z.ensures in
    let d = same a.rows.now a.k 4 c.number_at-d.ensures in record {
      value = (λ i. record { n = vec (x i) (y i) (z i); d = d i });
      at_most = (record { x = upto_held c.number_at-x.ensures.1 tt; y = upto_held c.number_at-y.ensures.1 tt; z = upto_held c.number_at-z.ensures.1 tt }, upto_held c.number_at-d.ensures.1 tt);
    }
