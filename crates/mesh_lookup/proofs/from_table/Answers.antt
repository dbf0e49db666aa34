-- `mesh_lookup::from_table` finds the trixel of depth 3 by the descent's own tests, made in S0 with the pointing turned back; the normals stand in the
-- table turned round. Its entry, turned to the root, has its corners. Assumes nothing.
use Prim.Native.Nat.{ℕ, ◌+◌, ◌*◌, ◌<◌}
use native.Mathlib.Omega.{arith}
use mathlib.Core.Path.{◌≡◌, refl, sym, ap, ◌∙◌}
use Rattle.mesh.specs.Rotations.{turned_by}
use Rattle.mesh_table.proofs.Numbers.{table_row, corners_of_table}
use Rattle.mesh_lookup.proofs.TableLaws.{root_digit, child_digit, table_start, entry_of}
use Rattle.mesh_lookup.proofs.from_table.Goals as goal

small_id : (k d e : ℕ) → k < 8 → d < 4 → e < 4 → 16 * (8 + k) + 4 * d + e < 256
small_id k d e h i j = omega arith

first_id : (k d e : ℕ) → 16 * (8 + k) + 4 * d + e ≡ 128 + 16 * k + 4 * d + e
first_id k d e = omega arith

pub corners_at-requires-clause-row : goal.corners_at-requires-clause-row
corners_at-requires-clause-row c = table_row

pub returns : goal.returns
returns c =
    let p = c.args.p in
    let r = c.args.root in
    let h = c.requires.root_bound in
    let q = c.turned_back-q.result in
    let there = ap (λ k. turned_by k q) (sym c.rotation.ensures) ∙ c.turned_back-q.ensures.0 in
    let first = c.table_digit-d.ensures in
    let second = c.table_digit-e.ensures in
    let d = c.table_digit-d.result in
    let e = c.table_digit-e.result in
    let t = c.corners_at.ensures in
    let corners = t.value ∙ corners_of_table (24 * d + 6 * e) (omega (arith, first.upper_bound, second.upper_bound)) in
    let ed = first.value ∙ root_digit r h p q there refl refl refl in
    let ee = second.value ∙ child_digit r h p q there d first.upper_bound refl refl refl in
    record {
      back = there;
      pointing = c.turned_back-q.ensures.1;
      entry = entry_of d e first.upper_bound second.upper_bound _ corners;
      small = t.small_corners;
      low = small_id r d e h first.upper_bound second.upper_bound;
      goes_on = table_start p r d e _ _ h ed ee first.upper_bound second.upper_bound (first_id r d e) corners;
    }
