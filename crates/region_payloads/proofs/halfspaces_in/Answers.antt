use Prim.Native.Nat.{◌*◌, ◌/◌}
use native.Mathlib.Omega.{arith}
use mathlib.Core.Path.{◌≡◌, ap, ◌∙◌}
use mathlib.Core.List.{[]}
use lib.ListN.{length, get_or, take, drop}
use Rattle.std.proofs.lemmas.Result.{err_from_is_err_and}
use Rattle.answer.specs.Calls.{answer_of}
use Rattle.region.specs.Reader.{halfspace_of}
use Rattle.region_rows.proofs.RowParts.{part_at}
use Rattle.region_payloads.proofs.GroupLaws.{passing_none, passing_more, passing_refused, passing_end}
use Rattle.region_payloads.proofs.halfspaces_in.Goals as goal
use Rattle.region_payloads.proofs.halfspaces_in.Goals.{After-halfspace_of}

-- the part is the next 16 bytes
next : (c : After-halfspace_of) → c.halfspace_of.result ≡ halfspace_of (take 16 (drop (16 * c.loop-part.part-index) c.args.payload.now))
next c =
    let p = c.args.payload.now in
    c.halfspace_of.ensures
    ∙ ap halfspace_of
    (ap (λ f. get_or f c.loop-part.part-index []) c.as_chunks.ensures.front
    ∙ part_at 16 (length p / 16) c.loop-part.part-index p [] (omega (arith, c.as_chunks.ensures.front_len, c.loop-part-test.true)))

pub loop-part-init : goal.loop-part-init
loop-part-init c = let a = c.args in passing_none a.payload.now (length a.payload.now / 16) a.rows.now a.k

pub loop-part-preserved : goal.loop-part-preserved
loop-part-preserved c =
    let a = c.args in
    passing_more a.payload.now _ a.rows.now a.k c.loop-part.rows c.loop-part.size c.loop-part.part-index c.loop-part.invariant
    c.halfspace_of.result (next (goal.at.loop-part-preserved c).After-halfspace_of) (omega (arith, c.as_chunks.ensures.front_len, c.loop-part-test.true)) _ _
    c.halfspace_in.ensures _ (ap answer_of c.in_ok-size.was)

pub returns-in_err-size : goal.returns-in_err-size
returns-in_err-size c =
    let a = c.args in
    let p = err_from_is_err_and c.from_residual.result c.from_residual.ensures.1 in
    rw (p.1, p.2)
    (passing_refused a.payload.now _ a.rows.now a.k c.loop-part.rows c.loop-part.size c.loop-part.part-index c.loop-part.invariant
    c.halfspace_of.result (next (goal.at.returns-in_err-size c).After-halfspace_of) (omega (arith, c.as_chunks.ensures.front_len, c.loop-part-test.true)) _ _
    c.halfspace_in.ensures _ (ap answer_of c.in_err-size.was))

pub returns : goal.returns
returns c =
    let a = c.args in
    passing_end a.payload.now _ a.rows.now a.k c.loop-part.rows c.loop-part.size c.loop-part.part-index c.loop-part.invariant
    (omega (arith, c.as_chunks.ensures.front_len, c.loop-part-test.false))
