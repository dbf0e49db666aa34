-- `classify_active::settling::anchor_of` is an anchor: a clearance that is at most 2⁴³ is at most 2⁴⁴ when a part of it is taken away. Assumes nothing.
use Prim.Native.Nat.{◌^◌}
use mathlib.Core.Path.{◌≡◌, sym, ◌∙◌}
use mathlib.Core.Bool.{true}
use lib.Dec.{lit≤, lit<}
use lib.IntN.{ℤ, pos, ◌-ℤ◌}
use lib.Signed.{quot_z, le_z}
use mir.Syntax.{w64}
use mir.Val.{to_z, of_z}
use Rattle.algebra.proofs.Sizes.{Upto}
use Rattle.algebra.proofs.Sized.{Is, held, lit, upto_held, is_sub, is_div, fits_sub, fits_div, same_le}
use Rattle.mesh.specs.declared.Trixel.{Trixel}
use Rattle.classify_cap.specs.declared.CapReach.{CapReach}
use Rattle.vector.specs.declared.Vec3.{Vec3}
use Rattle.classify_cap.specs.Middle.{IsReach}
use Rattle.classify_cap.proofs.CapLaws.{cap_small, reached, cap_beside}
use Rattle.classify_halfspace.proofs.FarLaws.{cap_clearance, clearance_below}
use Rattle.classify_active.proofs.settling.anchor_of.Goals as goal

-- a clearance that was found to be small
clearance : {t : Trixel} {b : Vec3} {m : CapReach} → IsReach t b m → le_z (to_z w64 (of_z w64 m.clearance)) (to_z w64 (2 ^ 43)) ≡ true → Upto (2 ^ 43) m.clearance
clearance k e = clearance_below k (sym (same_le (held (cap_clearance k) tt) (lit (2 ^ 43) tt)) ∙ e)

-- the clearance less its eighth
less : {z : ℤ} → Upto (2 ^ 43) z → Is (of_z w64 (to_z w64 (of_z w64 z) -ℤ to_z w64 (of_z w64 (quot_z (to_z w64 (of_z w64 z)) (to_z w64 8))))) (z -ℤ quot_z z (pos 8)) (2 ^ 44)
less h = is_sub (held h tt) (is_div (held h tt) (lit 8 tt) tt) tt

pub returns-in_default : goal.returns-in_default
returns-in_default c = record { b = cap_small c.requires; reach = record { le = lit≤ tt }; margin = record { le = lit≤ tt } }

pub nonzero_div-result : goal.nonzero_div-result
nonzero_div-result c =
    let h = clearance (reached c.requires c.in-Some.is) c.if-c-le-WIDEST_CLEARANCE.true in
    fits_div (held h tt) (lit 8 tt) (lit< tt) tt

pub overflow_sub-result : goal.overflow_sub-result
overflow_sub-result c =
    let h = clearance (reached c.requires c.in-Some.is) c.if-c-le-WIDEST_CLEARANCE.true in
    fits_sub (held h tt) (is_div (held h tt) (lit 8 tt) tt) tt

pub returns-then-c-le-WIDEST_CLEARANCE : goal.returns-then-c-le-WIDEST_CLEARANCE
returns-then-c-le-WIDEST_CLEARANCE c =
    let k = reached c.requires c.in-Some.is in
    let z = less (clearance k c.if-c-le-WIDEST_CLEARANCE.true) in
    record {
      b = cap_small c.requires;
      reach = upto_held (cap_beside k).size tt;
      margin = rw z.eq z.size;
    }

pub returns : goal.returns
returns c = record {
  b = cap_small c.requires;
  reach = upto_held (cap_beside (reached c.requires c.in-Some.is)).size tt;
  margin = record { le = lit≤ tt };
}
