use Prim.Native.Nat.{ℕ, ◌*◌, ◌/◌, ◌≤◌, ◌<◌}
use native.Mathlib.Omega.{arith}
use mathlib.Core.Path.{◌≡◌, sym, ap, subst, ◌∙◌}
use mathlib.Core.List.{List, []}
use lib.Dec.{lit≤}
use lib.ListN.{length, get_or, take, drop}
use lib.Seq.{length-take-le}
use lib.IntN.{pos}
use Rattle.std.specs.Simd.{first_chunks}
use mir.Syntax.{w64}
use mir.Val.{to_z, of_z}
use Rattle.std.proofs.lemmas.List.{get_or-take}
use Rattle.algebra.proofs.Sized.{held, upto_held}
use Rattle.region.specs.Regions.{holds_halfspace}
use Rattle.region.specs.Rows.{halfspace_at}
use Rattle.region_rows.proofs.RowParts.{row_number, row_halfspace}
use Rattle.region_points.proofs.PointLaws.{Scanning, scan_start, scan_next, scan_end}
use Rattle.region_points.proofs.rows_hold.Goals as goal
use Rattle.region_points.proofs.rows_hold.Goals.{After-holds_halfspace}

-- there are as many rows as are counted
many : {X : Type 0} (n : ℕ) (fives : List X) (m : ℕ) → 5 * n ≤ m → length fives ≡ m / 5 → length (take n fives) ≡ n
many n fives m h e = length-take-le n fives (omega arith)

below : (c : After-holds_halfspace) → c.loop-row.row-index < c.args.count
below c = omega (arith, c.loop-row-test.true, many c.args.count c.as_chunks.result.0.now _ c.requires.count_in_bounds c.as_chunks.ensures.front_len)

-- the row, its number as it is handed on, and whether its halfspace holds the point
row : (c : After-holds_halfspace) → get_or (take c.args.count c.as_chunks.result.0.now) c.loop-row.row-index [] ≡ get_or (first_chunks 5 (length c.args.rows.now / 5) c.args.rows.now) c.loop-row.row-index []
row c =
    get_or-take c.args.count c.as_chunks.result.0.now c.loop-row.row-index [] (below c)
    ∙ ap (λ f. get_or f c.loop-row.row-index []) c.as_chunks.ensures.front

stands : (c : After-holds_halfspace) → c.loop-row.row-index < length c.args.rows.now / 5
stands c = omega (arith, below c, c.requires.count_in_bounds)

number : (c : After-holds_halfspace) → to_z w64 (of_z w64 c.number_at-number.result) ≡ get_or c.args.rows.now (5 * c.loop-row.row-index) (pos 0)
number c =
    (held c.number_at-number.ensures.1 tt).eq ∙ c.number_at-number.ensures.0
    ∙ ap (λ r. get_or r 0 (pos 0)) (row c) ∙ row_number c.args.rows.now _ _ [] (stands c)

here : (c : After-holds_halfspace) → c.holds_halfspace.result ≡ holds_halfspace (halfspace_at (drop (5 * c.loop-row.row-index) c.args.rows.now)) c.args.p
here c =
    c.holds_halfspace.ensures
    ∙ ap (λ h. holds_halfspace h c.args.p) (c.halfspace_at.ensures.value ∙ ap halfspace_at (row c) ∙ row_halfspace c.args.rows.now _ _ [] (stands c))

pub loop-row-init : goal.loop-row-init
loop-row-init c =
    let a = c.args in
    (scan_start a.p a.count a.rows.now, record { le = lit≤ tt })

pub holds_halfspace-requires : goal.holds_halfspace-requires
holds_halfspace-requires c = record {
  at_most = c.halfspace_at.ensures.at_most;
  small = c.requires.small;
}

pub next-s-requires : goal.next-s-requires
next-s-requires c = (c.loop-row.invariant.1, upto_held c.number_at-number.ensures.1 tt)

pub loop-row-preserved : goal.loop-row-preserved
loop-row-preserved c =
    let a = c.args in
    let v = (goal.at.loop-row-preserved c).After-holds_halfspace in (
      subst (Scanning a.p a.count a.rows.now _) (sym c.next-s.ensures.0)
          (scan_next a.p a.count a.rows.now _ _ c.loop-row.invariant.0 (below v) (number v) (here v)),
      c.next-s.ensures.1,
    )

pub returns-then-s : goal.returns-then-s
returns-then-s c =
    let a = c.args in
    c.if-s.true ∙ rw c.if-s.true at (scan_end a.p a.count a.rows.now _ _ c.loop-row.invariant.0
    (omega (arith, c.loop-row-test.false, many a.count c.as_chunks.result.0.now _ c.requires.count_in_bounds c.as_chunks.ensures.front_len)))

pub returns-else-s : goal.returns-else-s
returns-else-s c =
    let a = c.args in
    rw c.if-s.false at (scan_end a.p a.count a.rows.now _ _ c.loop-row.invariant.0
    (omega (arith, c.loop-row-test.false, many a.count c.as_chunks.result.0.now _ c.requires.count_in_bounds c.as_chunks.ensures.front_len)))
