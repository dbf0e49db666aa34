use Prim.Native.Nat.{ℕ, ◌*◌, ◌/◌, ◌≤◌, ◌<◌}
use native.Mathlib.Nat.{add-zero}
use native.Mathlib.Omega.{arith}
use mathlib.Core.Path.{◌≡◌, sym, ap, ◌∙◌}
use mathlib.Core.List.{List, []}
use lib.ListN.{length, get_or, take, drop}
use lib.Seq.{length-take-le, get_or-drop}
use lib.IntN.{ℤ, pos, nat_abs}
use Rattle.std.specs.Simd.{first_chunks}
use Rattle.std.proofs.lemmas.List.{get_or-take}
use Rattle.vector.specs.Vectors.{is_vector}
use Rattle.region.specs.Building.{is_offset}
use Rattle.region.specs.Rows.{halfspace_at}
use Rattle.region_rows.proofs.RowParts.{row_number, row_halfspace}
use Rattle.classify_prepared.specs.Measures.{prepared}
use Rattle.classify_prepared.specs.PreparedLists.{FitRow}
use Rattle.classify_prepared.proofs.PreparingLaws.{prepare_start, prepare_more, prepare_end}
use Rattle.classify_prepared.proofs.preparing.prepare_rows.Goals as goal

-- the rows of a list in fives: there are as many as are counted, and row i has the number and the halfspace that the list has there, and fits as they do
module _ (n : ℕ) (rs : List ℤ) (m : 5 * n ≤ length rs) (fives : List (List ℤ)) (e : length fives ≡ length rs / 5) where
  many : length (take n fives) ≡ n
  many = length-take-le n fives (omega arith)

  module _ (i : ℕ) (f : fives ≡ first_chunks 5 (length rs / 5) rs) (h : i < length (take n fives)) where
    below : i < n
    below = omega (arith, h, many)

    within : i < length rs / 5
    within = omega (arith, below)

    row : get_or (take n fives) i [] ≡ get_or (first_chunks 5 (length rs / 5) rs) i []
    row = get_or-take n fives i [] below ∙ ap (λ f. get_or f i []) f

    number : get_or (get_or (take n fives) i []) 0 (pos 0) ≡ get_or (drop (5 * i) rs) 0 (pos 0)
    number =
        ap (λ r. get_or r 0 (pos 0)) row ∙ row_number rs _ i [] within
        ∙ sym (get_or-drop (5 * i) rs 0 (pos 0) ∙ ap (λ m. get_or rs m (pos 0)) (add-zero (5 * i)))

    halfspace : halfspace_at (get_or (take n fives) i []) ≡ halfspace_at (drop (5 * i) rs)
    halfspace = ap halfspace_at row ∙ row_halfspace rs _ i [] within

    fit : FitRow (drop (5 * i) rs) → FitRow (get_or (take n fives) i [])
    fit r = record {
      vector = ap (λ v. is_vector v.n) halfspace ∙ r.vector;
      offset = ap (λ v. is_offset v.d) halfspace ∙ r.offset;
      place = r.place;
      number = number ∙ r.number;
      few = r.few;
    }

pub convex_of-k-requires : goal.convex_of-k-requires
convex_of-k-requires c =
    let a = c.as_chunks.ensures in
    let n = c.requires.n_in_bounds.0 in
    fit _ _ n _ a.front_len _ a.front c.loop-i-test.true (c.requires.fit_rows _ (below _ _ n _ a.front_len _ a.front c.loop-i-test.true))

pub prepared_of-requires : goal.prepared_of-requires
prepared_of-requires c =
    let a = c.as_chunks.ensures in
    let n = c.requires.n_in_bounds.0 in
    fit _ _ n _ a.front_len _ a.front c.loop-i-test.true (c.requires.fit_rows _ (below _ _ n _ a.front_len _ a.front c.loop-i-test.true))

pub loop-i-init : goal.loop-i-init
loop-i-init c = prepare_start _ _ _ _

pub loop-i-preserved : goal.loop-i-preserved
loop-i-preserved c =
    let a = c.as_chunks.ensures in
    let n = c.requires.n_in_bounds.0 in
    let k = c.convex_of-k.ensures in
    prepare_more _ _ _ _ _ _ _ _ c.loop-i.invariant (below _ _ n _ a.front_len _ a.front c.loop-i-test.true)
    (c.prepared_of.ensures ∙ ap prepared (halfspace _ _ n _ a.front_len _ a.front c.loop-i-test.true))
    (k.0 ∙ ap nat_abs (number _ _ n _ a.front_len _ a.front c.loop-i-test.true)) k.1

pub returns : goal.returns
returns c =
    let e = many _ _ c.requires.n_in_bounds.0 _ c.as_chunks.ensures.front_len in
    let both = prepare_end _ _ _ _ _ _ _ _ c.loop-i.invariant (omega (arith, e, c.loop-i-test.false)) in
    record {
      halfspaces_after = both.0;
      ends_after = both.1;
      convexes = (both.2, c.loop-i.invariant.most);
    }
