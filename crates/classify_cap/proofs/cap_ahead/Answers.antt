-- `classify_cap::cap_ahead` is the cap of b and E: b·b is at most 3·2⁶¹ in size, and E² at most 2⁴⁰. Assumes nothing.
use Prim.Native.Nat.{◌^◌}
use mathlib.Core.Path.{sym, ap, subst, ◌∙◌}
use Rattle.std.specs.Prelude.{Some}
use lib.Dec.{lit≤}
use lib.IntN.{pos, ◌-ℤ◌}
use Rattle.algebra.proofs.Sizes.{Upto}
use Rattle.algebra.proofs.Sized.{held, nat, is_mul, is_sub, upto_mono}
use Rattle.classify.specs.Shape.{square}
use Rattle.classify_cap.specs.Middle.{clearance_of}
use Rattle.classify_cap.proofs.ClearanceLaws.{clearance_upto}
use Rattle.classify_cap.proofs.cap_ahead.Goals as goal

pub clearance_of-requires : goal.clearance_of-requires
clearance_of-requires c =
    let n = nat c.greatest_reach-n.ensures.upper_bound tt in
    let w = is_sub (held c.dot.ensures.upto tt) (is_mul n n tt) tt in
    rw w.eq (upto_mono (lit≤ tt) w.size)

pub returns : goal.returns
returns c =
    let g = c.greatest_reach-n.ensures.value in
    let n = nat c.greatest_reach-n.ensures.upper_bound tt in
    let e = n.eq ∙ ap pos g in
    let w = is_sub (held c.dot.ensures.upto tt) (is_mul n n tt) tt in
    let r = w.eq ∙ (λ i. c.dot.ensures.value i -ℤ square (pos (g i))) in
    let u = subst (Upto (2 ^ 62)) (sym c.clearance_of.ensures) (clearance_upto _ _) in
    let z = (held u tt).eq ∙ c.clearance_of.ensures ∙ (λ i. clearance_of (r i) (g i)) in
    λ i. record { b = c.args.b; ahead = Some (record { reach = e i; rest = r i; clearance = z i }) }
