-- The four numbers stand one after the other, and so as one list. Assumes nothing.
use Prim.Native.Nat.{ℕ, ◌≤◌}
use native.Mathlib.Omega.{arith}
use mathlib.Core.Path.{◌≡◌, refl, ◌∙◌}
use mathlib.Core.List.{List, ◌++◌}
use lib.ListN.{length}
use lib.IntN.{ℤ}
use mir.Syntax.{w64}
use mir.Val.{to_z, of_z}
use Rattle.algebra.proofs.Sized.{held, upto_held}
use Rattle.answer.specs.Lent.{put}
use Rattle.vector.specs.Vectors.{vec}
use Rattle.region.specs.Bytes.{signed_bytes}
use Rattle.region.specs.Writer.{numbers_bytes}
use Rattle.answer.proofs.PutLaws.{put_next}
use Rattle.region_records.proofs.bytes.put_numbers.Goals as goal
use Rattle.region_records.proofs.bytes.put_numbers.Goals.{After-put_signed-2}

-- the bytes of a number that is handed on by its bits
abbrev handed : ℤ → List ℕ
handed z = signed_bytes (to_z w64 (of_z w64 z))

length_y : (y : After-put_signed-2) → length y.put_signed-2.new.out ≡ length y.args.out.now
length_y y = y.put_signed-2.auto.out ∙ y.put_signed.auto.out

pub put_signed-requires : goal.put_signed-requires
put_signed-requires c = let p = c.requires in (omega (arith, p.at_in_bounds), upto_held p.small.x tt)

pub put_signed-requires-2 : goal.put_signed-requires-2
put_signed-requires-2 c =
    let p = c.requires in
    (omega (arith, c.put_signed.auto.out, p.at_in_bounds), upto_held p.small.y tt)

pub put_signed-requires-3 : goal.put_signed-requires-3
put_signed-requires-3 c =
    let p = c.requires in
    (omega (arith, length_y (goal.at.put_signed-requires-3 c).After-put_signed-2, p.at_in_bounds), upto_held p.small.z tt)

pub put_signed-requires-4 : goal.put_signed-requires-4
put_signed-requires-4 c =
    let p = c.requires in
    (omega (arith, c.put_signed-3.auto.out, length_y (goal.at.put_signed-requires-4 c).After-put_signed-2, p.at_in_bounds), upto_held p.upto tt)

pub shape_of-out : goal.shape_of-out
shape_of-out c =
    c.put_signed-4.auto.out ∙ c.put_signed-3.auto.out ∙ length_y (goal.at.shape_of-out c).After-put_signed-2

pub returns : goal.returns
returns c =
    let at = c.args.at in
    let n = c.args.h.n in
    let out = c.args.out.now in
    let f : at ≤ length out = omega (arith, c.requires.at_in_bounds) in
    let a = put_next at (handed n.x) (handed n.y) out c.put_signed.ensures c.put_signed-2.ensures refl f in
    let b = put_next at (handed n.x ++ handed n.y) (handed n.z) out a c.put_signed-3.ensures refl f in
    let g = put_next at (handed n.x ++ handed n.y ++ handed n.z) (handed c.args.h.d) out b c.put_signed-4.ensures refl f in
    let p = c.requires.small in
    g
    ∙ (λ j. put at (numbers_bytes (record { n = vec ((held p.x tt).eq j) ((held p.y tt).eq j) ((held p.z tt).eq j); d = (held c.requires.upto tt).eq j })) out)
