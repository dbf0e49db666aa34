-- Vectors. Document 01, 'Pointings and the mesh'.
--   vec x y z, three a        a vector of three numbers, and its three numbers
--   plus, minus, dot, cross   of vectors; `minus a` is −a
--   unit s                    Unit(s): K times s, divided by the greatest n with n² at most s·s; zero if n is 0
--   scale c                   Scale(c): K times c, divided by the largest absolute component; zero if that is 0
--   is_vector p                the rule of a pointing and of a halfspace direction
use Rattle.std.specs.Prelude.{ℕ, max, Bool, cond, ◌&&◌, List, [], ◌∷◌, eqb, ℤ, pos, neg_ℤ, nat_abs, ◌+ℤ◌, ◌-ℤ◌, ◌*ℤ◌}
use Rattle.vector.specs.declared.Vec3.{Vec3}
use Rattle.vector.specs.Numbers.{K, quot, between, root}

abbrev pub vec : ℤ → ℤ → ℤ → Vec3
vec x y z = record { x = x; y = y; z = z }

abbrev pub three : Vec3 → List ℤ
three a = a.x ∷ a.y ∷ a.z ∷ []

abbrev pub plus : Vec3 → Vec3 → Vec3
plus a b = vec (a.x +ℤ b.x) (a.y +ℤ b.y) (a.z +ℤ b.z)

abbrev pub minus : Vec3 → Vec3
minus a = vec (neg_ℤ a.x) (neg_ℤ a.y) (neg_ℤ a.z)

abbrev pub dot : Vec3 → Vec3 → ℤ
dot a b = a.x *ℤ b.x +ℤ a.y *ℤ b.y +ℤ a.z *ℤ b.z

abbrev pub cross : Vec3 → Vec3 → Vec3
cross a b = vec (a.y *ℤ b.z -ℤ a.z *ℤ b.y) (a.z *ℤ b.x -ℤ a.x *ℤ b.z) (a.x *ℤ b.y -ℤ a.y *ℤ b.x)

-- K times each component, divided by n; all zero if n is 0
abbrev pub divided_by : ℕ → Vec3 → Vec3
divided_by n s = cond (eqb n 0) (vec (pos 0) (pos 0) (pos 0)) (vec (quot (K *ℤ s.x) (pos n)) (quot (K *ℤ s.y) (pos n)) (quot (K *ℤ s.z) (pos n)))

unfoldable pub unit : Vec3 → Vec3
unit s = divided_by (root (nat_abs (dot s s))) s

-- the largest absolute component
abbrev pub largest : Vec3 → ℕ
largest c = max (max (nat_abs c.x) (nat_abs c.y)) (nat_abs c.z)

unfoldable pub scale : Vec3 → Vec3
scale c = divided_by (largest c) c

unfoldable pub is_vector : Vec3 → Bool
is_vector p =
    between (neg_ℤ K) K p.x && between (neg_ℤ K) K p.y && between (neg_ℤ K) K p.z
    && between ((K -ℤ pos 2) *ℤ (K -ℤ pos 2)) ((K +ℤ pos 2) *ℤ (K +ℤ pos 2)) (dot p p)
