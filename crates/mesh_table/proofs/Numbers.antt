-- The table and its rows as they are read: all numbers of the table are those of the cutting rule, which is computed; so its vector k is corner or normal number k of
-- the rule, and each number of a row is within ±K, since corners and normals are small. Assumes nothing.
use Prim.Native.Nat.{ℕ, zero, suc, ◌+◌, ◌*◌, ◌/◌, ◌%◌, ◌<◌}
use native.Mathlib.Nat.{add-zero}
use native.Mathlib.Omega.{arith}
use mathlib.Core.Path.{◌≡◌, refl, sym, ap, subst, ◌∙◌}
use mathlib.Core.List.{List, []}
use lib.IntN.{ℤ, pos}
use lib.ListN.{get_or, length}
use Rattle.vector.specs.declared.Vec3.{Vec3}
use Rattle.vector.specs.Numbers.{root, root_in}
use Rattle.vector.specs.Vectors.{vec, three, unit, scale}
use Rattle.vector.proofs.Sizes.{Small}
use Rattle.mesh.specs.declared.Trixel.{Trixel}
use Rattle.mesh.specs.Trixels.{root_trixel, cut, child}
use Rattle.mesh.specs.Identifiers.{trixel}
use Rattle.mesh_trixels.specs.Corners.{triple_of, SmallTrixel}
use Rattle.mesh_trixels.proofs.SmallTrixels.{trixel_small}
use Rattle.mesh_table.specs.Table.{table_from, row_of, Row, vector_in, part_of, vector_at}
use Rattle.mesh_table.specs.declared.TheConstants.{TABLE}

-- ---- the table is that of the cutting rule

pub tested : TABLE ≡ table_from 16 128
unfolding table_from trixel root_trixel child cut unit scale root root_in
tested = refl

-- ---- vector k

-- vector number k of the trixels from the identifier i on
abbrev vector_from : ℕ → ℕ → Vec3
vector_from i k = part_of (k % 6) (trixel 2 (i + k / 6))

six_on : (i k m : ℕ) → m ≡ 6 + k → vector_from (suc i) k ≡ vector_from i m
six_on i k m e =
    let part : k % 6 ≡ m % 6 = omega arith in
    let next : suc i + k / 6 ≡ i + m / 6 = omega arith in
    λ j. part_of (part j) (trixel 2 (next j))

vector_from_law : (k n i : ℕ) → k < 6 * n → get_or (table_from n i) k [] ≡ three (vector_from i k)
unfolding table_from
vector_from_law k zero i h = absurd (omega arith)
vector_from_law zero (suc n) i h = ap (λ m. three (trixel 2 m).v0) (sym (add-zero i))
vector_from_law (suc zero) (suc n) i h = ap (λ m. three (trixel 2 m).v1) (sym (add-zero i))
vector_from_law (suc (suc zero)) (suc n) i h = ap (λ m. three (trixel 2 m).v2) (sym (add-zero i))
vector_from_law (suc (suc (suc zero))) (suc n) i h = ap (λ m. three (trixel 2 m).p0) (sym (add-zero i))
vector_from_law (suc (suc (suc (suc zero)))) (suc n) i h = ap (λ m. three (trixel 2 m).p1) (sym (add-zero i))
vector_from_law (suc (suc (suc (suc (suc zero))))) (suc n) i h = ap (λ m. three (trixel 2 m).p2) (sym (add-zero i))
vector_from_law (suc (suc (suc (suc (suc (suc k)))))) (suc n) i h =
    vector_from_law k n (suc i) (omega arith) ∙ ap three (six_on i k (suc (suc (suc (suc (suc (suc k)))))) (omega arith))

-- vector number k of a list of vectors that has v there
vector_is : (l : List (List ℤ)) (k : ℕ) {v : Vec3} → get_or l k [] ≡ three v → vector_in l k ≡ v
vector_is l k e = ap (λ x. vec (get_or x 0 (pos 0)) (get_or x 1 (pos 0)) (get_or x 2 (pos 0))) e

-- row number d begins at vector 24 d
pub row_vector : (d k : ℕ) → k < 24 → vector_in (row_of d) k ≡ vector_at (24 * d + k)
unfolding vector_at
row_vector d k h =
    let part : k % 6 ≡ (24 * d + k) % 6 = omega arith in
    let next : 128 + 4 * d + k / 6 ≡ 128 + (24 * d + k) / 6 = omega arith in
    vector_is (row_of d) k (vector_from_law k 4 (128 + 4 * d) h) ∙ (λ j. part_of (part j) (trixel 2 (next j)))

pub table_vector : (k : ℕ) → k < 96 → get_or TABLE k [] ≡ three (vector_at k)
unfolding vector_at
table_vector k h = ap (λ l. get_or l k []) tested ∙ vector_from_law k 16 128 (omega arith)

-- the table is a row
pub table_row : Row TABLE
table_row = record { n = 16; i = 128; is = tested }

pub vector_of_table : (k : ℕ) → k < 96 → vector_in TABLE k ≡ vector_at k
vector_of_table k h = vector_is TABLE k (table_vector k h)

pub corners_of_table : (i : ℕ) → i + 2 < 96
    → triple_of (vector_in TABLE i) (vector_in TABLE (i + 1)) (vector_in TABLE (i + 2)) ≡ triple_of (vector_at i) (vector_at (i + 1)) (vector_at (i + 2))
corners_of_table i h =
    λ j. triple_of (vector_of_table i (omega (arith, h)) j) (vector_of_table (i + 1) (omega (arith, h)) j) (vector_of_table (i + 2) h j)

-- ---- its size

part_small : (a : ℕ) {t : Trixel} → a < 6 → SmallTrixel t → Small (part_of a t)
part_small zero l h = h.v0
part_small (suc zero) l h = h.v1
part_small (suc (suc zero)) l h = h.v2
part_small (suc (suc (suc zero))) l h = h.p0
part_small (suc (suc (suc (suc zero)))) l h = h.p1
part_small (suc (suc (suc (suc (suc zero))))) l h = h.p2
part_small (suc (suc (suc (suc (suc (suc a)))))) l h = absurd (omega arith)

pub vector_small : (k : ℕ) → Small (vector_at k)
unfolding vector_at
vector_small k = part_small (k % 6) (omega arith) (trixel_small 2 (128 + k / 6))

length_from : (n i : ℕ) → length (table_from n i) ≡ 6 * n
unfolding table_from
length_from zero i = refl
length_from (suc n) i = omega (arith, length_from n (suc i))

-- what is read of a row: a vector of the rule, whose numbers are small
module _ {l : List (List ℤ)} (r : Row l) (k : ℕ) (h : k < length l) where
  within : k < 6 * r.n
  within = omega (arith, h, ap length r.is, length_from r.n r.i)

  pub small_numbers : Small (vector_in l k)
  small_numbers =
      let e : vector_in l k ≡ vector_from r.i k = vector_is l k (ap (λ l. get_or l k []) r.is ∙ vector_from_law k r.n r.i within) in
      subst Small (sym e) (part_small (k % 6) (omega arith) (trixel_small 2 (r.i + k / 6)))
