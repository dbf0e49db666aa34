-- The table of the trixels of depth 3 under S0, by the cutting rule. Document 01, 'Pointings and the mesh'; document 02, F-6.
--   vectors_of t   corners and normals of a trixel, v0 v1 v2 p0 p1 p2, each as its numbers x y z
--   table_from     those of so many trixels of depth 3; those of the 16 under S0, 128 to 143, are the table
--   row_of d       those of the four trixels below child number d of S0; Row xs, that xs are those of some trixels of depth 3
--   vector_in xs k the vector number k of a row
--   vector_at k    the corner or normal number k of these trixels, six for each
use Rattle.std.specs.Prelude.{ℕ, zero, suc, ◌+◌, ◌*◌, ◌/◌, ◌%◌, ◌≡◌, cond, List, [], ◌∷◌, ◌++◌, eqb, ℤ, pos, get_or}
use Rattle.vector.specs.declared.Vec3.{Vec3}
use Rattle.vector.specs.Vectors.{vec, three}
use Rattle.mesh.specs.declared.Trixel.{Trixel}
use Rattle.mesh.specs.Identifiers.{trixel}

abbrev pub vectors_of : Trixel → List (List ℤ)
vectors_of t = three t.v0 ∷ three t.v1 ∷ three t.v2 ∷ three t.p0 ∷ three t.p1 ∷ three t.p2 ∷ []

-- of n trixels of depth 3, from the identifier i on
unfoldable pub table_from : ℕ → ℕ → List (List ℤ)
table_from zero i = []
table_from (suc n) i = vectors_of (trixel 2 i) ++ table_from n (suc i)

-- the part of the table below child number d of S0
abbrev pub row_of : ℕ → List (List ℤ)
row_of d = table_from 4 (128 + 4 * d)

pub record Row (xs : List (List ℤ)) : Type 0 where
  pub n : ℕ
  pub i : ℕ
  pub is : xs ≡ table_from n i

-- vector number k of a row
abbrev pub vector_in : List (List ℤ) → ℕ → Vec3
vector_in xs k = vec (get_or (get_or xs k []) 0 (pos 0)) (get_or (get_or xs k []) 1 (pos 0)) (get_or (get_or xs k []) 2 (pos 0))

-- corner or normal number a of a trixel: v0 v1 v2 p0 p1 p2
abbrev pub part_of : ℕ → Trixel → Vec3
part_of a t = cond (eqb a 0) t.v0 (cond (eqb a 1) t.v1 (cond (eqb a 2) t.v2 (cond (eqb a 3) t.p0 (cond (eqb a 4) t.p1 t.p2))))

unfoldable pub vector_at : ℕ → Vec3
vector_at k = part_of (k % 6) (trixel 2 (128 + k / 6))
