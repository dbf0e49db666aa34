-- `classify_rays::passes` is its two tests: where f·r > 0 the squares are compared. Assumes nothing.
use Prim.Native.Nat.{◌*◌, ◌^◌}
use mathlib.Core.Path.{◌≡◌, sym, ap, ◌∙◌}
use mathlib.Core.Bool.{Bool}
use lib.Dec.{leb}
use lib.IntN.{ℤ, pos, nat_abs}
use lib.Signed.{le_z}
use mir.Syntax.{w64}
use mir.Val.{to_z, of_z}
use Rattle.algebra.proofs.Sizes.{Upto}
use Rattle.algebra.proofs.Sized.{squares_by_size, held}
use Rattle.algebra.proofs.Tests.{and_then, and_no_left, le_yes, yes_lt, no_lt, no_le}
use Rattle.vector.specs.Vectors.{dot}
use Rattle.vector.proofs.SizeLaws.{dot_self_nonnegative}
use Rattle.classify_prepared.specs.Measures.{square_of}
use Rattle.classify.proofs.RaysFirst.{passes}
use Rattle.classify_rays.proofs.passes.Goals as goal

-- f·r, which is tested by its bits
tested : {x z : ℤ} → Upto (3 * 2 ^ 61) x → x ≡ z → {t : Bool} → le_z (to_z w64 (of_z w64 x)) (pos 0) ≡ t → le_z z (pos 0) ≡ t
tested h e k = sym (ap (λ z. le_z z (pos 0)) ((held h tt).eq ∙ e)) ∙ k

pub returns-then-x-le0 : goal.returns-then-x-le0
unfolding passes
returns-then-x-le0 c =
    sym (and_no_left _ (no_lt {a = pos 0} {b = dot c.args.f c.args.y.r} (le_yes (tested c.dot-x.ensures.upto c.dot-x.ensures.value c.if-x-le0.true))))

pub returns : goal.returns
unfolding passes
returns c =
    let r = c.args.y.r in
    let p = c.dot-x.ensures in
    let n = ap nat_abs ((held p.upto tt).eq ∙ p.value) in
    let g = c.unsigned_abs.ensures.value ∙ ap nat_abs (held c.requires.upto tt).eq in
    c.reaches.ensures
    ∙ (λ i. leb (g i * g i * square_of c.args.y) (n i * n i))
    ∙ squares_by_size c.args.g (dot r r) (dot c.args.f r) (dot_self_nonnegative r)
    ∙ and_then _ (yes_lt (no_le {a = dot c.args.f r} {b = pos 0} (tested p.upto p.value c.if-x-le0.false)))
