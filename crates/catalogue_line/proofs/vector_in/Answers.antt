-- The decimals one after another, each from where the last one ended. Assumes nothing.
use Prim.Native.Nat.{◌^◌, ◌<◌}
use native.Mathlib.Omega.{arith}
use mathlib.Core.Path.{◌≡◌, refl, sym, ap, ◌∙◌}
use lib.IntN.{ℤ}
use lib.Signed.{mag}
use mir.Syntax.{w64}
use mir.Val.{to_z, of_z}
use mir.Facts.{to_z-of_z}
use Rattle.catalogue_line.specs.Reading.{vector_given}
use Rattle.catalogue_line.proofs.ReadingLaws.{read_z, refused_x, refused_y, refused_z}
use Rattle.catalogue_line.proofs.vector_in.Goals as goal

-- a value that was read fits its word
same : (v : ℤ) → mag v < 2 ^ 63 → to_z w64 (of_z w64 v) ≡ v
same v h = to_z-of_z {w = w64} (record { sfits = h })

pub returns-in_err-x : goal.returns-in_err-x
returns-in_err-x c = ap vector_given c.from_residual.ensures ∙ refused_x c.args.line.now c.in_err-x.ensures

pub returns-in_err-y : goal.returns-in_err-y
returns-in_err-y c = ap vector_given c.from_residual-in_err-y.ensures ∙ refused_y c.args.line.now c.in_ok-x.ensures c.in_err-y.ensures

pub returns-in_err-z : goal.returns-in_err-z
returns-in_err-z c =
    ap vector_given c.from_residual-in_err-z.ensures ∙ refused_z c.args.line.now c.in_ok-x.ensures c.in_ok-y.ensures c.in_err-z.ensures

pub returns-then-not-is_end : goal.returns-then-not-is_end
returns-then-not-is_end c =
    sym (read_z c.args.line.now c.in_ok-x.ensures c.in_ok-y.ensures c.in_ok-z.ensures ∙ rw (sym c.is_end.ensures ∙ c.if-not-is_end.true) refl)

pub returns : goal.returns
returns c =
    rw (same c.in_ok-x.x.value (omega arith), same c.in_ok-y.y.value (omega arith), same c.in_ok-z.z.value (omega arith))
    (sym (read_z c.args.line.now c.in_ok-x.ensures c.in_ok-y.ensures c.in_ok-z.ensures ∙ rw (sym c.is_end.ensures ∙ c.if-not-is_end.false) refl))
