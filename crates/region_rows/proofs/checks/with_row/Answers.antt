-- The code makes the checks of a row in the rule's order, by the size: the number, the convexes, then the halfspace. Assumes nothing.
use mathlib.Core.Path.{◌≡◌, sym, ap, ◌∙◌}
use mathlib.Core.Bool.{Bool}
use mir.Facts.{to_z-of_z}
use Rattle.std.proofs.lemmas.Result.{err_from_is_err_and}
use Rattle.answer.specs.Answer.{Answer, then, with_value}
use Rattle.answer.specs.Calls.{answer_of}
use Rattle.region.specs.Regions.{Region}
use Rattle.region.specs.Rows.{row_in}
use Rattle.region_rows.specs.declared.counts.RegionSize.{RegionSize}
use Rattle.region_rows.specs.RegionSizes.{region_size, add_halfspace}
use Rattle.region_rows.specs.Opening.{opens_convex}
use Rattle.region_rows.proofs.NumberLaws.{belongs_to, no_number, row_added}
use Rattle.region_rows.proofs.checks.with_row.Goals as goal
use Rattle.region_rows.proofs.checks.with_row.Goals.{After-belongs, After-opened}

number : (c : After-belongs) (t : Bool) → c.belongs.result ≡ t → belongs_to c.args.k.convexes c.args.c ≡ t
number c t e = ap (belongs_to c.args.k.convexes) (sym (to_z-of_z c.ranges.c)) ∙ sym c.belongs.ensures ∙ e

opens : (c : After-opened) → answer_of c.opened.result ≡ opens_convex c.args.k c.args.c
opens c = c.opened.ensures ∙ ap (opens_convex c.args.k) (to_z-of_z c.ranges.c)

-- what was answered with the row's convex, with the row's halfspace then
goes_on : (c : After-opened) → let a = c.args in
    (r : Answer RegionSize) → r ≡ then (answer_of c.opened.result) (λ o. add_halfspace o a.h) → (g : Region) → region_size g ≡ a.k → r ≡ with_value region_size (row_in g a.c a.h)
goes_on c r e g q =
    let a = c.args in
    e
    ∙ ap (λ o. then o (λ k. add_halfspace k a.h)) (opens c)
    ∙ row_added a.k a.c a.h (number c.before.before _ c.if-not-belongs.false) c.requires g q

pub returns-then-not-belongs : goal.returns-then-not-belongs
returns-then-not-belongs c = let a = c.args in no_number a.k a.c a.h (number (goal.at.returns-then-not-belongs c).After-belongs _ c.if-not-belongs.true)

pub returns : goal.returns
returns c =
    goes_on (goal.at.returns c).After-opened _ (c.with_halfspace.ensures ∙ ap (λ r. then (answer_of r) (λ k. add_halfspace k c.args.h)) (sym c.in_ok-with.was))

pub returns-in_err-with : goal.returns-in_err-with
returns-in_err-with c =
    let p = err_from_is_err_and c.from_residual.result c.from_residual.ensures.1 in
    rw (p.1, p.2) (goes_on (goal.at.returns-in_err-with c).After-opened _ (ap (λ r. then (answer_of r) (λ k. add_halfspace k c.args.h)) (sym c.in_err-with.was)))
