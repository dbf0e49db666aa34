-- One level of the descent, from the corners: the three tests in their order give the digit, and with it the child's corners. Assumes nothing.
use native.Mathlib.Omega.{arith}
use mathlib.Core.Path.{◌≡◌, sym, ap₂, ◌∙◌}
use mathlib.Core.Bool.{Bool, true, false}
use lib.Dec.{lit<}
use Rattle.vector.specs.declared.Vec3.{Vec3}
use Rattle.vector.specs.Vectors.{plus, dot, cross, unit, scale}
use Rattle.vector.proofs.Sizes.{Small}
use Rattle.mesh.specs.declared.Corners.{Corners}
use Rattle.mesh.specs.Trixels.{cut}
use Rattle.mesh.specs.Lookup.{not_negative, digit}
use Rattle.mesh_trixels.specs.Corners.{bare, SmallCorners}
use Rattle.mesh_trixels.proofs.CornerLaws.{child_0, child_1, child_2, child_3}
use Rattle.mesh_lookup.specs.LookupSteps.{ChildStep}

-- the side of the cut between two midpoints
abbrev side : Vec3 → Vec3 → Vec3 → Bool
side p a b = not_negative (dot (scale (cross a b)) p)

module _ (p : Vec3) (c : Corners) where
  abbrev m0 : Vec3
  m0 = unit (plus c.v1 c.v2)

  abbrev m1 : Vec3
  m1 = unit (plus c.v0 c.v2)

  abbrev m2 : Vec3
  m2 = unit (plus c.v0 c.v1)

  -- the digit by the tests
  first : side p m2 m1 ≡ true → 0 ≡ digit p (bare c)
  unfolding digit cut
  first a = rw a

  second : side p m2 m1 ≡ false → side p m0 m2 ≡ true → 1 ≡ digit p (bare c)
  unfolding digit cut
  second a b = rw (a, b)

  third : side p m2 m1 ≡ false → side p m0 m2 ≡ false → side p m1 m0 ≡ true → 2 ≡ digit p (bare c)
  unfolding digit cut
  third a b d = rw (a, b, d)

  last : side p m2 m1 ≡ false → side p m0 m2 ≡ false → side p m1 m0 ≡ false → 3 ≡ digit p (bare c)
  unfolding digit cut
  last a b d = rw (a, b, d)

  -- a test of the cut by a and b, which are a' and b'
  tested : {a b a' b' : Vec3} {t : Bool} → a ≡ a' → b ≡ b' → side p a b ≡ t → side p a' b' ≡ t
  tested ea eb h = sym (ap₂ (side p) ea eb) ∙ h

  module _ (small : SmallCorners c) {w1 w2 : Vec3} (e1 : w1 ≡ m1) (e2 : w2 ≡ m2) (s1 : Small w1) (s2 : Small w2) where
    pub child_step_0 : side p w2 w1 ≡ true → ChildStep p c (record { digit = 0; corners = record { v0 = c.v0; v1 = w2; v2 = w1 } })
    child_step_0 t0 =
        let d = first (tested e2 e1 t0) in
        record { is = d; child = child_0 c (sym d) e1 e2; small = record { v0 = small.v0; v1 = s2; v2 = s1 }; low = lit< tt }

    module _ (t0 : side p w2 w1 ≡ false) {w0 : Vec3} (e0 : w0 ≡ m0) (s0 : Small w0) where
      pub child_step_1 : side p w0 w2 ≡ true → ChildStep p c (record { digit = 1; corners = record { v0 = c.v1; v1 = w0; v2 = w2 } })
      child_step_1 t1 =
          let d = second (tested e2 e1 t0) (tested e0 e2 t1) in
          record { is = d; child = child_1 c (sym d) e0 e2; small = record { v0 = small.v1; v1 = s0; v2 = s2 }; low = lit< tt }

      module _ (t1 : side p w0 w2 ≡ false) where
        pub child_step_2 : side p w1 w0 ≡ true → ChildStep p c (record { digit = 2; corners = record { v0 = c.v2; v1 = w1; v2 = w0 } })
        child_step_2 t2 =
            let d = third (tested e2 e1 t0) (tested e0 e2 t1) (tested e1 e0 t2) in
            record { is = d; child = child_2 c (sym d) e0 e1; small = record { v0 = small.v2; v1 = s1; v2 = s0 }; low = lit< tt }

        pub child_step_3 : side p w1 w0 ≡ false → ChildStep p c (record { digit = 3; corners = record { v0 = w0; v1 = w1; v2 = w2 } })
        child_step_3 t2 =
            let d = last (tested e2 e1 t0) (tested e0 e2 t1) (tested e1 e0 t2) in
            record { is = d; child = child_3 c (omega arith) e0 e1 e2; small = record { v0 = s0; v1 = s1; v2 = s2 }; low = lit< tt }
