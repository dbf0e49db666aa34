-- Within and apart never hold together, so it does not matter which is tested first: within passes all three rays, and one such ray
-- refutes apart. Assumes nothing.
use mathlib.Core.Path.{◌≡◌, sym, ◌∙◌}
use mathlib.Core.Bool.{true, true≢false}
use Rattle.algebra.proofs.Tests.{and_left, and_right, or_left}
use Rattle.mesh.specs.declared.Trixel.{Trixel}
use Rattle.region.specs.declared.Halfspace.{Halfspace}
use Rattle.classify.specs.Shape.{positive, ray0, volume, e_of, f_of, GOf, within, apart}
use Rattle.classify.proofs.RaysFirst.{passes, by_rays, refutes_apart}

pub never_both : (h : Halfspace) (t : Trixel) → within h t ≡ true → apart h t ≡ true → ⊥
unfolding within
never_both h t w a =
    let all = sym (by_rays (f_of h) (GOf (e_of h)) t) ∙ and_right (positive (volume t)) _ w in
    true≢false (sym a ∙ refutes_apart h t (and_left (positive (volume t)) _ w) (or_left _ (and_left (passes (f_of h) (GOf (e_of h)) (ray0 t)) _ all)))
