-- The identifier from the root and from the table, and the lookup's answer by its checks. Assumes nothing.
use Prim.Native.Nat.{ℕ, suc, ◌+◌, ◌-◌, ◌≤◌}
use native.Mathlib.Omega.{arith}
use mathlib.Core.Path.{◌≡◌, ap, ◌∙◌}
use mathlib.Core.Bool.{true, false}
use Rattle.answer.specs.Answer.{refused, gives, Depth, Vector}
use Rattle.vector.specs.declared.Vec3.{Vec3}
use Rattle.vector.specs.Numbers.{is_depth}
use Rattle.vector.specs.Vectors.{is_vector}
use Rattle.mesh.specs.declared.Corners.{Corners}
use Rattle.mesh.specs.Trixels.{root_trixel}
use Rattle.mesh.specs.Identifiers.{corners_of}
use Rattle.mesh.specs.Lookup.{root_number, descend, identifier, lookup}
use Rattle.mesh_trixels.specs.Corners.{bare}
use Rattle.mesh_trixels.proofs.CornerLaws.{descend_corners}
use Rattle.mesh_lookup.specs.declared.TableTrixel.{TableTrixel}
use Rattle.mesh_lookup.specs.LookupSteps.{turned_corners, TableStart}

module _ (p : Vec3) (d k : ℕ) (root : k ≡ root_number p) where
  pub at_root : d ≡ 1 → 8 + k ≡ identifier p d
  unfolding identifier descend
  at_root e =
      let z : 0 ≡ d - 1 = omega arith in
      ap (λ m. descend p m (root_trixel k) (8 + k)) z ∙ ap (λ m. descend p (d - 1) (root_trixel m) (8 + m)) root

  pub from_root : (c : Corners) → c ≡ corners_of (root_trixel k) → descend p (d - 1) (bare c) (8 + k) ≡ identifier p d
  unfolding identifier
  from_root c e =
      descend_corners p (d - 1) (bare c) (root_trixel k) (8 + k) e
      ∙ ap (λ m. descend p (d - 1) (root_trixel m) (8 + m)) root

  pub from_table_start : (s : TableTrixel) → 3 ≤ d → TableStart p k s → descend p (d - 3) (bare (turned_corners k s.entry)) s.id ≡ identifier p d
  unfolding identifier
  from_table_start s h t =
      let e : suc (suc (d - 3)) ≡ d - 1 = omega arith in
      t.goes_on (d - 3) ∙ ap (λ m. descend p m (root_trixel k) (8 + k)) e ∙ ap (λ m. descend p (d - 1) (root_trixel m) (8 + m)) root

  pub at_three : (s : TableTrixel) → d ≡ 3 → TableStart p k s → s.id ≡ identifier p d
  unfolding descend
  at_three s e t =
      let z : 0 ≡ d - 3 = omega arith in
      ap (λ m. descend p m (bare (turned_corners k s.entry)) s.id) z ∙ from_table_start s (omega arith) t

module _ (p : Vec3) (d : ℕ) where
  pub no_depth : is_depth d ≡ false → refused Depth ≡ lookup p d
  unfolding lookup
  no_depth e = simp e

  module _ (depth : is_depth d ≡ true) where
    pub no_vector_law : is_vector p ≡ false → refused Vector ≡ lookup p d
    unfolding lookup
    no_vector_law e = simp (depth, e)

    pub looked_up : {i : ℕ} → is_vector p ≡ true → i ≡ identifier p d → gives i ≡ lookup p d
    unfolding lookup
    looked_up v e = simp (depth, v) (ap gives e)
