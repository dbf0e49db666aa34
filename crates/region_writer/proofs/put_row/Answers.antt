-- Where the number is the next one, a convex begins before the halfspace; otherwise the halfspace alone is added (WritingPass). Assumes nothing.
use mathlib.Core.Path.{◌≡◌, sym, ap, ◌∙◌}
use mathlib.Core.Bool.{Bool, true, false}
use lib.IntN.{pos}
use mir.Facts.{to_z-of_z}
use Rattle.vector.specs.Numbers.{eq_z}
use Rattle.region_writer.proofs.WritingPass.{halfspace_fits, halfspace_small, halfspace_stands, goes_on, convex_fits, begins_row}
use Rattle.region_writer.proofs.put_row.Goals as goal
use Rattle.region_writer.proofs.put_row.Goals.{After-is_number}

number : (c : After-is_number) (t : Bool) → c.is_number.result ≡ t → eq_z c.args.c (pos c.args.p.convexes) ≡ t
number c t e = ap (λ z. eq_z z (pos c.args.p.convexes)) (sym (to_z-of_z c.ranges.c)) ∙ sym c.is_number.ensures ∙ e

pub put_convex-opened-requires : goal.put_convex-opened-requires
put_convex-opened-requires c = convex_fits c.requires (number (goal.at.put_convex-opened-requires c).After-is_number true c.if-is_number.true)

pub put_halfspace-requires : goal.put_halfspace-requires
put_halfspace-requires c =
    let f = begins_row c.requires (number (goal.at.put_halfspace-requires c).After-is_number true c.if-is_number.true) c.put_convex-opened.ensures.value c.put_convex-opened.ensures.out_after in
    record {
      style_in_bounds = halfspace_fits f;
      small = (halfspace_small f).0;
      upto = (halfspace_small f).1;
    }

pub returns-then-is_number : goal.returns-then-is_number
returns-then-is_number c f =
    let b = begins_row f (number (goal.at.returns-then-is_number c).After-is_number true c.if-is_number.true) c.put_convex-opened.ensures.value c.put_convex-opened.ensures.out_after in
    halfspace_stands b c.put_halfspace.ensures.value c.put_halfspace.ensures.out_after

pub put_halfspace-requires-2 : goal.put_halfspace-requires-2
put_halfspace-requires-2 c =
    let f = goes_on c.requires (number (goal.at.put_halfspace-requires-2 c).After-is_number false c.if-is_number.false) in
    record {
      style_in_bounds = halfspace_fits f;
      small = (halfspace_small f).0;
      upto = (halfspace_small f).1;
    }

pub returns : goal.returns
returns c f =
    halfspace_stands (goes_on f (number (goal.at.returns c).After-is_number false c.if-is_number.false)) c.put_halfspace-2.ensures.value c.put_halfspace-2.ensures.out_after
