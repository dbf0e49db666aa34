use Prim.Native.Nat.{◌+◌, ◌*◌, ◌/◌, ◌<◌}
use native.Mathlib.Omega.{arith}
use mathlib.Core.Path.{◌≡◌, sym, ap, subst, ◌∙◌}
use mathlib.Core.List.{[]}
use lib.ListN.{length, get_or, drop}
use lib.IntN.{pos}
use Rattle.algebra.proofs.Sized.{held}
use Rattle.std.proofs.lemmas.Result.{err_from_is_err_and}
use Rattle.answer.specs.Answer.{with_value}
use Rattle.answer.specs.Calls.{answer_of}
use Rattle.region.specs.Regions.{Region}
use Rattle.region.specs.Rows.{row_in, halfspace_at}
use Rattle.region_rows.specs.RegionSizes.{region_size}
use Rattle.region_rows.proofs.RowParts.{row_number, row_halfspace}
use Rattle.region_rows.proofs.CheckingPass.{Checking, start, done, row_refused, row_passed}
use Rattle.region_rows.proofs.checks.count_rows.Goals as goal
use Rattle.region_rows.proofs.checks.count_rows.Goals.{After-with_row}

row : (c : After-with_row) → let rs = c.args.rows.now in
    let i = 5 * c.loop-row.row-index in
    (g : Region) → region_size g ≡ c.loop-row.size → answer_of c.with_row.result ≡ with_value region_size (row_in g (get_or rs i (pos 0)) (halfspace_at (drop i rs)))
row c g e =
    let rs = c.args.rows.now in
    let i = c.loop-row.row-index in
    let fives = c.as_chunks.ensures.front in
    let l : i < length rs / 5 = omega (arith, c.as_chunks.ensures.front_len, c.loop-row-test.true) in
    let number = (held c.number_at-number.ensures.1 tt).eq ∙ c.number_at-number.ensures.0 ∙ ap (λ f. get_or (get_or f i []) 0 (pos 0)) fives ∙ row_number rs (length rs / 5) i [] l in
    let half = c.halfspace_at.ensures.value ∙ ap (λ f. halfspace_at (get_or f i [])) fives ∙ row_halfspace rs (length rs / 5) i [] l in
    c.with_row.ensures g e ∙ (λ j. with_value region_size (row_in g (number j) (half j)))

pub loop-row-init : goal.loop-row-init
loop-row-init c = start _ c.requires _ c.none-size.ensures

pub returns-in_err-size : goal.returns-in_err-size
returns-in_err-size c =
    let p = err_from_is_err_and c.from_residual.result c.from_residual.ensures.1 in
    rw (p.1, p.2) (row_refused c.loop-row.invariant (omega (arith, c.as_chunks.ensures.front_len)) _ (λ g q. sym (ap answer_of c.in_err-size.was) ∙ row (goal.at.returns-in_err-size c).After-with_row g q))

pub loop-row-preserved : goal.loop-row-preserved
loop-row-preserved c =
    let next : 5 * c.loop-row.row-index + 5 ≡ 5 * (c.loop-row.row-index + 1) = omega arith in
    subst (Checking c.args.rows.now c.in_ok-size.size) next
    (row_passed c.loop-row.invariant (omega (arith, c.as_chunks.ensures.front_len)) _ (λ g q. sym (ap answer_of c.in_ok-size.was) ∙ row (goal.at.loop-row-preserved c).After-with_row g q))

pub returns : goal.returns
returns c = done c.loop-row.invariant (omega (arith, c.requires, c.as_chunks.ensures.front_len))
