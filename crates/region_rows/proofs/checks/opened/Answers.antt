-- The code's test is the rule's: a convex begins where the number is the next one. Assumes nothing.
use mathlib.Core.Path.{◌≡◌, sym, ap, ◌∙◌}
use mathlib.Core.Bool.{Bool}
use lib.IntN.{pos}
use mir.Facts.{to_z-of_z}
use Rattle.vector.specs.Numbers.{eq_z}
use Rattle.region_rows.proofs.checks.opened.Goals as goal
use Rattle.region_rows.proofs.checks.opened.Goals.{After-is_number}

next : (c : After-is_number) (t : Bool) → c.is_number.result ≡ t → eq_z c.args.c (pos c.args.k.convexes) ≡ t
next c t e = ap (λ z. eq_z z (pos c.args.k.convexes)) (sym (to_z-of_z c.ranges.c)) ∙ sym c.is_number.ensures ∙ e

pub returns-then-is_number : goal.returns-then-is_number
returns-then-is_number c = rw (next (goal.at.returns-then-is_number c).After-is_number _ c.if-is_number.true) c.with_convex.ensures

pub returns : goal.returns
returns c = rw (next (goal.at.returns c).After-is_number _ c.if-is_number.false)
