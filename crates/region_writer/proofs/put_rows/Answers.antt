use Prim.Native.Nat.{◌+◌, ◌*◌, ◌/◌, ◌<◌}
use native.Mathlib.Omega.{arith}
use mathlib.Core.Path.{◌≡◌, ap, subst, ◌∙◌}
use mathlib.Core.List.{[]}
use lib.ListN.{length, get_or, drop}
use lib.IntN.{pos}
use mir.Syntax.{w64}
use mir.Val.{to_z, of_z}
use Rattle.algebra.proofs.Sized.{held}
use Rattle.region.specs.Rows.{halfspace_at}
use Rattle.region_rows.proofs.RowParts.{row_number, row_halfspace}
use Rattle.region_writer.proofs.WritingPass.{Writing, start, done, row_fits, more}
use Rattle.region_writer.proofs.put_rows.Goals as goal
use Rattle.region_writer.proofs.put_rows.Goals.{After-halfspace_at}

below : (c : After-halfspace_at) → c.loop-row.row-index < length c.args.rows.now / 5
below c = omega (arith, c.as_chunks.ensures.front_len, c.loop-row-test.true)

-- the row's number, as it is handed on, and its halfspace
number : (c : After-halfspace_at) → to_z w64 (of_z w64 c.number_at-number.result) ≡ get_or c.args.rows.now (5 * c.loop-row.row-index) (pos 0)
number c =
    let rs = c.args.rows.now in
    let i = c.loop-row.row-index in
    (held c.number_at-number.ensures.1 tt).eq ∙ c.number_at-number.ensures.0
    ∙ ap (λ f. get_or (get_or f i []) 0 (pos 0)) c.as_chunks.ensures.front ∙ row_number rs (length rs / 5) i [] (below c)

halfspace : (c : After-halfspace_at) → c.halfspace_at.result ≡ halfspace_at (drop (5 * c.loop-row.row-index) c.args.rows.now)
halfspace c =
    let rs = c.args.rows.now in
    let i = c.loop-row.row-index in
    c.halfspace_at.ensures.value ∙ ap (λ f. halfspace_at (get_or f i [])) c.as_chunks.ensures.front ∙ row_halfspace rs (length rs / 5) i [] (below c)

pub loop-row-init : goal.loop-row-init
loop-row-init c = start _ _ _ c.requires

pub put_row-p-requires : goal.put_row-p-requires
put_row-p-requires c =
    let v = (goal.at.put_row-p-requires c).After-halfspace_at in
    rw (halfspace v, number v) (row_fits c.loop-row.invariant (omega (arith, below v)))

pub loop-row-preserved : goal.loop-row-preserved
loop-row-preserved c =
    let v = (goal.at.loop-row-preserved c).After-halfspace_at in
    let next : 5 * c.loop-row.row-index + 5 ≡ 5 * (c.loop-row.row-index + 1) = omega arith in
    subst (Writing c.args.style c.args.rows.now c.args.out.now _ _) next
    (more c.loop-row.invariant (omega (arith, below v)) (rw (halfspace v, number v) at c.put_row-p.ensures))

pub returns : goal.returns
returns c = done c.loop-row.invariant (omega (arith, c.as_chunks.ensures.front_len, (c.loop-row.invariant).place))
