-- `htm_abi::put_corners` puts one corner after the other. Assumes nothing.
use native.Mathlib.Omega.{arith}
use mathlib.Core.Path.{refl}
use mathlib.Core.List.{◌++◌}
use Rattle.answer.proofs.PutLaws.{put_next}
use Rattle.vector.specs.Vectors.{three}
use Rattle.htm_abi.proofs.put_corners.Goals as goal

pub shape_of-out : goal.shape_of-out
shape_of-out c = omega (arith, c.put_corner-3.auto.out, c.put_corner-2.auto.out, c.put_corner.auto.out)

pub returns : goal.returns
returns c =
    let xs = c.args.out.now in
    let k = c.args.c in
    let one = c.put_corner.ensures in
    let two = put_next 0 (three k.v0) (three k.v1) xs one c.put_corner-2.ensures refl (omega arith) in
    put_next 0 (three k.v0 ++ three k.v1) (three k.v2) xs two c.put_corner-3.ensures refl (omega arith)
