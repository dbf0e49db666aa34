-- `region_payloads::write_row` stores the five numbers of the row, each of which fits 32 bits. Assumes nothing.
use Prim.Native.Nat.{◌+◌, ◌-◌, ◌*◌}
use native.Mathlib.Omega.{arith}
use mathlib.Core.Path.{◌≡◌, ap, ◌∙◌}
use mathlib.Core.List.{[], ◌∷◌, ◌++◌}
use lib.ListN.{length, take, drop, length-drop}
use lib.Seq.{length-take-le, drop-drop}
use borrow.Rule.Slice.PartMut.{put_mid}
use mir.Syntax.{w32}
use mir.Val.{to_z, of_z}
use mir.Facts.{to_z_pos}
use Rattle.algebra.proofs.Sized.{fits_narrower, same_narrower}
use Rattle.vector.proofs.Sizes.{Small}
use Rattle.vector.specs.Numbers.{Kℕ}
use Rattle.algebra.proofs.Sizes.{Upto}
use Rattle.vector.proofs.SizeLaws.{between_upto}
use Rattle.vector.proofs.VectorLaws.{vector_small}
use Rattle.region_payloads.proofs.write_row.Goals as goal
use Rattle.region_payloads.proofs.write_row.Goals.{Start}

small : (c : Start) → Small c.args.h.n
small c = vector_small c.args.h.n c.requires.good_halfspace.vector

offset : (c : Start) → Upto Kℕ c.args.h.d
offset c = between_upto c.args.h.d c.requires.good_halfspace.offset

pub overflow_cast-row : goal.overflow_cast-row
overflow_cast-row c = fits_narrower (small (goal.at.overflow_cast-row c).Start).x tt

pub overflow_cast-row-2 : goal.overflow_cast-row-2
overflow_cast-row-2 c = fits_narrower (small (goal.at.overflow_cast-row-2 c).Start).y tt

pub overflow_cast-row-3 : goal.overflow_cast-row-3
overflow_cast-row-3 c = fits_narrower (small (goal.at.overflow_cast-row-3 c).Start).z tt

pub overflow_cast-row-4 : goal.overflow_cast-row-4
overflow_cast-row-4 c = fits_narrower (offset (goal.at.overflow_cast-row-4 c).Start) tt

pub copy_from_slice-requires : goal.copy_from_slice-requires
copy_from_slice-requires c =
    let v = c.args in
    let m : 5 * v.k.all + 5 - 5 * v.k.all ≡ 5 = omega arith in
    ap (λ m. length (take m (drop (5 * v.k.all) v.rows.now))) m ∙ length-take-le 5 (drop (5 * v.k.all) v.rows.now) (omega (arith, length-drop (5 * v.k.all) v.rows.now))

pub returns : goal.returns
returns c =
    let v = c.args in
    let at = 5 * v.k.all in
    let n = small (goal.at.returns c).Start in
    let k = ap (λ z. to_z w32 (of_z w32 z)) c.from-number.ensures ∙ to_z_pos w32 {n = v.k.convexes - 1} (omega arith) in
    let five : at + 5 - at ≡ 5 = omega arith in
    (λ i. put_mid at (five i) v.rows.now (c.copy_from_slice.ensures.after i))
    ∙ (λ i. take at v.rows.now ++ ((k i ∷ same_narrower n.x tt i ∷ same_narrower n.y tt i ∷ same_narrower n.z tt i ∷ same_narrower (offset (goal.at.returns c).Start) tt i ∷ []) ++ drop-drop 5 at v.rows.now i))
