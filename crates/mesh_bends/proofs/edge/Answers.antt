-- `mesh_bends::edge` is the rule's bend of an edge: b·c is at most 3 · 2⁴⁰ in size, and so K² − b·c at most 2⁴². Assumes nothing.
use Prim.Native.Nat.{◌*◌, ◌^◌}
use native.Mathlib.Omega.{arith}
use mathlib.Core.Path.{◌≡◌, sym, ap, subst, ◌∙◌}
use lib.IntN.{ℤ}
use mir.Syntax.{w64}
use mir.Val.{of_z}
use mir.Facts.{to_z-of_z}
use Rattle.algebra.proofs.Sizes.{Upto}
use Rattle.algebra.proofs.Sized.{Is, held, lit, is_sub}
use Rattle.vector.specs.declared.Vec3.{Vec3}
use Rattle.vector.specs.Vectors.{dot}
use Rattle.vector.proofs.Sizes.{Small}
use Rattle.vector.proofs.SizeLaws.{dot_upto}
use Rattle.mesh_bends.specs.Bends.{bend_by}
use Rattle.mesh_bends.proofs.QuotientSizes.{is_quotient}
use Rattle.mesh_bends.proofs.edge.Goals as goal

-- the product that was found is that of b and c
product : {b c : Vec3} {r : ℤ} → Small b → Small c → r ≡ dot b c → Is (of_z w64 r) (dot b c) (3 * 2 ^ 40)
product {b} {c} p q e = let h = dot_upto p q in record { eq = (held (subst (Upto (3 * 2 ^ 40)) (sym e) h) tt).eq ∙ e; size = h }

abbrev found : (c : goal.After-dot) → Is (of_z w64 c.dot.result) (dot c.args.b c.args.c) (3 * 2 ^ 40)
found c = product c.requires.small c.requires.small_2 c.dot.ensures.value

pub bend_by-requires : goal.bend_by-requires
bend_by-requires c = let s = is_quotient 65536 (omega arith) tt (is_sub (lit 1099511627776 tt) (found c) tt) tt in subst (Upto (2 ^ 26)) (sym s.eq) s.size

pub returns : goal.returns
returns c =
    let s = is_quotient 65536 (omega arith) tt (is_sub (lit 1099511627776 tt) (found c.before) tt) tt in
    to_z-of_z {w = w64} (record { sfits = c.bend_by.type_inv }) ∙ c.bend_by.ensures ∙ ap bend_by s.eq
