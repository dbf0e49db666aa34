-- One level of the jump at a trixel of the mesh: where the numbers follow p and one is beyond the margin of its level, the rule's test at that cut has the sign
-- of the number, so that the rule's digit is known; and the numbers of that child follow p at its corners. Assumes nothing.
--   Moves i v w a     a number that is made less by the bend a fits the edge from v to w
use Prim.Native.Nat.{ℕ, zero, suc, ◌+◌, ◌*◌, ◌/◌, ◌%◌, ◌<◌, ◌≤◌}
use native.Mathlib.Nat.{div-add-mod', mod-lt}
use native.Mathlib.Omega.{arith}
use mathlib.Core.Path.{◌≡◌, refl, sym, ap, subst}
use mathlib.Core.List.{[], ◌∷◌}
use mathlib.Core.Bool.{Bool, true, false}
use lib.Dec.{T, leb→le, le→leb, ltb→lt, lit<}
use lib.IntN.{ℤ, pos, negsuc, neg_ℤ, nat_abs, ◌+ℤ◌, ◌-ℤ◌, ◌*ℤ◌}
use lib.Signed.{◌≤ℤ◌, ◌<ℤ◌, le_z_yes}
use Rattle.algebra.proofs.Ring.{Expr, con, ◌:+◌, ◌:-◌, ◌:*◌, :neg}
use Rattle.algebra.proofs.Claim.{◌:≤◌, ◌:<◌, ◌:≡◌, nat, hyp, eqn, ◌⊕◌, ◌⊗◌, ring, prove}
use Rattle.algebra.proofs.Inequalities.{`0, `1, <ℤ→≤ℤ}
use Rattle.algebra.proofs.Order.{nn_pos, nn_add}
use Rattle.algebra.proofs.Sizes.{Upto}
use Rattle.algebra.proofs.Vec.{V3}
use Rattle.jump.proofs.Jump.{Size}
use Rattle.jump.proofs.JumpInvariant.{Moved, Bend, both}
use Rattle.jump.proofs.JumpChild.{flat_moved, bent_moved, turned}
use Rattle.jump.proofs.Lengths.{Long, difference_of, flip, long_x, long_y, long_z}
use Rattle.jump.proofs.JumpShape.{Corner, bend}
use Rattle.jump.proofs.JumpLevel.{New, Pointing, InS0, Stands, Here, Wide, stands_turned, here_turned, new_swapped, cut_of, normal_long, here_above, here_below, child_follows, middle_follows, stands_child, stands_middle}
use Rattle.jump.proofs.JumpConstants.{u, δ, D, least, constants_at, edge_at, part_at, bounds_at, margin_at, level_of, wide_of, bent_of, half_of, halving_of, unlost_of, behind_of, ahead_of}
use Rattle.jump.proofs.UnitLaws.{three, lack, unit_new, unit_octant, unit_lack}
use Rattle.jump.proofs.SideLaws.{scale_above, scale_below}
use Rattle.vector.specs.declared.Vec3.{Vec3}
use Rattle.vector.specs.Numbers.{K, root}
use Rattle.vector.specs.Vectors.{plus, dot, cross, unit, largest, scale}
use Rattle.vector.proofs.Sizes.{Small}
use Rattle.vector.proofs.SizeLaws.{largest_bound}
use Rattle.vector.proofs.RootLaws.{root_greatest}
use Rattle.mesh.specs.declared.Trixel.{Trixel}
use Rattle.mesh.specs.Trixels.{cut, child}
use Rattle.mesh.specs.Lookup.{not_negative, digit}
use Rattle.mesh_jump.specs.Jumps.{less_of, StandsAt, FollowsAt}

-- ---- a normal that is at most m long, and a product beyond 3 m

size_upto : (m : ℕ) (z : ℤ) → Size (pos m) z → Upto m z
size_upto m (pos a) s = record { le = leb→le a m s.high.le }
size_upto zero (negsuc a) s = absurd s.low.le
size_upto (suc m) (negsuc a) s = record { le = omega (arith, leb→le a m s.low.le) }

is_true : (b : Bool) → T b → b ≡ true
is_true true t = refl
is_true false t = absurd t

negative : (z : ℤ) → z <ℤ pos 0 → not_negative z ≡ false
negative (pos n) h = absurd (omega (arith, ltb→lt n 0 h.lt))
negative (negsuc n) h = refl

module _ (c p : Vec3) (m : ℕ) (small : Small p) (long : Long (pos m) (three c)) where
  largest_most : pos (3 * largest c) ≤ℤ (pos 3 *ℤ pos m)
  largest_most =
      let h : largest c ≤ m = largest_bound (record { x = size_upto m c.x (long_x long); y = size_upto m c.y (long_y long); z = size_upto m c.z (long_z long) }) in
      le_z_yes (le→leb (3 * largest c) (3 * m) (omega arith))

  side_true : (pos 3 *ℤ pos m) <ℤ dot c p → not_negative (dot (scale c) p) ≡ true
  side_true h = is_true _ (<ℤ→≤ℤ (scale_above c p small (within (pos (3 * largest c)) (pos 3 *ℤ pos m) (dot c p) largest_most h))).le
    where
      within : (a b d : ℤ) → a ≤ℤ b → b <ℤ d → a <ℤ d
      within = prove 3 (λ a b d. record { given = (a :≤ b) ∷ (b :< d) ∷ []; goal = a :< d; cert = hyp 0 ⊕ hyp 1 }) refl

  side_false : dot c p <ℤ neg_ℤ (pos 3 *ℤ pos m) → not_negative (dot (scale c) p) ≡ false
  side_false h = negative _ (scale_below c p small (within (pos (3 * largest c)) (pos 3 *ℤ pos m) (dot c p) largest_most h))
    where
      within : (a b d : ℤ) → a ≤ℤ b → d <ℤ neg_ℤ b → d <ℤ neg_ℤ a
      within = prove 3 (λ a b d. record { given = (a :≤ b) ∷ (d :< :neg b) ∷ []; goal = d :< :neg a; cert = hyp 0 ⊕ hyp 1 }) refl

-- ---- the sum of two corners is not zero

abbrev dot_v : V3 → V3 → ℤ
dot_v a b = a.x *ℤ b.x +ℤ a.y *ℤ b.y +ℤ a.z *ℤ b.z

sum_square : (a b : V3) → dot_v (both a b) (both a b) +ℤ dot_v (difference_of a b) (difference_of a b) ≡ pos 2 *ℤ (dot_v a a +ℤ dot_v b b)
sum_square a b = ring 6
    (λ x y z p q r. (x :+ p) :* (x :+ p) :+ (y :+ q) :* (y :+ q) :+ (z :+ r) :* (z :+ r) :+ ((x :- p) :* (x :- p) :+ (y :- q) :* (y :- q) :+ (z :- r) :* (z :- r))
    :≡ con (pos 2) :* (x :* x :+ y :* y :+ z :* z :+ (p :* p :+ q :* q :+ r :* r)))
    refl a.x a.y a.z b.x b.y b.z

some_by : (k A c s t o mm : ℤ) → mm +ℤ o ≡ pos 2 *ℤ (s +ℤ t) → o ≤ℤ (c *ℤ c) → ((k -ℤ pos 2) *ℤ (k -ℤ pos 2)) ≤ℤ s → ((k -ℤ pos 2) *ℤ (k -ℤ pos 2)) ≤ℤ t
    → ((pos 2 *ℤ k +ℤ pos 2 -ℤ A) *ℤ (pos 2 *ℤ k +ℤ pos 2 -ℤ A) +ℤ c *ℤ c) ≤ℤ (pos 4 *ℤ ((k -ℤ pos 2) *ℤ (k -ℤ pos 2))) → A ≤ℤ k → pos 4 ≤ℤ k → pos 1 ≤ℤ mm
some_by = prove 7
    (λ k A c s t o mm. record {
      given = (mm :+ o :≡ `2 :* (s :+ t)) ∷ (o :≤ c :* c) ∷ ((k :- `2) :* (k :- `2) :≤ s) ∷ ((k :- `2) :* (k :- `2) :≤ t)
          ∷ ((`2 :* k :+ `2 :- A) :* (`2 :* k :+ `2 :- A) :+ c :* c :≤ con (pos 4) :* ((k :- `2) :* (k :- `2))) ∷ (A :≤ k) ∷ (con (pos 4) :≤ k) ∷ [];
      goal = `1 :≤ mm;
      cert = eqn 0 (:neg `1) ⊕ hyp 1 ⊕ nat 2 ⊗ hyp 2 ⊕ nat 2 ⊗ hyp 3 ⊕ hyp 4 ⊕ (hyp 5 ⊕ hyp 6) ⊗ (hyp 5 ⊕ hyp 6) ⊕ nat 12 ⊗ (hyp 5 ⊕ hyp 6) ⊕ nat 35;
    })
    refl
  where
    `2 : Expr
    `2 = con (pos 2)

size_some : (z : ℤ) → pos 1 ≤ℤ z → 1 ≤ nat_abs z
size_some (pos n) h = leb→le 1 n h.le
size_some (negsuc n) h = absurd h.le

-- ---- what is known of a trixel, of the numbers, and of an edge

-- 2 K − n of the midpoint of an edge
abbrev pub lack_of : Vec3 → Vec3 → ℤ
lack_of v w = lack (root (nat_abs (dot (plus v w) (plus v w))))

abbrev pub Moves : ℕ → Vec3 → Vec3 → ℤ → Type 0
Moves i v w a = (z : ℤ) → pos 0 ≤ℤ z → Moved K (constants_at i).lost (constants_at i).behind (constants_at i).ahead (lack_of v w) z (less_of z a)

-- ---- new corners of a level

module _ (i : ℕ) (h : i < 9) (g : ℤ) (large : least ≤ℤ g) (v w : Vec3) (p : Corner K (three v)) (q : Corner K (three w)) (e : Long (pos (edge_at i)) (difference_of (three v) (three w)))
    (o : InS0 (three v)) (o' : InS0 (three w)) where
  root_some : 0 < root (nat_abs (dot (plus v w) (plus v w)))
  root_some = root_greatest (nat_abs (dot (plus v w) (plus v w))) 1
      (size_some (dot (plus v w) (plus v w))
      (some_by K (constants_at i).bend (pos (edge_at i)) (dot v v) (dot w w) (dot_v (difference_of (three v) (three w)) (difference_of (three v) (three w))) (dot (plus v w) (plus v w))
      (sum_square (three v) (three w)) e.square p.least q.least (bent_of i h g large) (half_of i h g large) (le_z_yes tt)))

  octant : InS0 (three (plus v w))
  octant = record { x = nn_add o.x o'.x; y = nn_add o.y o'.y; z = out v.z w.z o.z o'.z }
    where
      out : (a b : ℤ) → pos 0 ≤ℤ neg_ℤ a → pos 0 ≤ℤ neg_ℤ b → pos 0 ≤ℤ neg_ℤ (a +ℤ b)
      out = prove 2 (λ a b. record { given = (`0 :≤ :neg a) ∷ (`0 :≤ :neg b) ∷ []; goal = `0 :≤ :neg (a :+ b); cert = hyp 0 ⊕ hyp 1 }) refl

  pub new : New K (both (three v) (three w)) (three (unit (plus v w)))
  new = unit_new (plus v w) octant root_some

  pub new_octant : InS0 (three (unit (plus v w)))
  new_octant = unit_octant (plus v w) octant root_some

  pub new_h : new.h ≡ lack_of v w
  unfolding new
  new_h = unit_lack (plus v w) octant root_some

  -- its n is at most 2 K + 2, and not much less than 2 K
  pub bends : (n : New K (both (three v) (three w)) (three (unit (plus v w)))) → Bend (constants_at i).bend n.h
  bends n = bend (three v) (three w) (le_z_yes tt) p q e n.rooted (bent_of i h g large)

-- ---- numbers that are made less

-- with a bend that fits
pub moves_bent : (i : ℕ) (v w : Vec3) (a : ℤ) → pos 0 ≤ℤ a → a ≤ℤ (constants_at i).lost → (constants_at i).lost ≤ℤ (pos 16 *ℤ K) → neg_ℤ (constants_at i).behind ≤ℤ (pos 8 *ℤ lack_of v w -ℤ a)
    → (pos 8 *ℤ lack_of v w -ℤ a) ≤ℤ (constants_at i).ahead → Moves i v w a
moves_bent i v w a nn most some low high (pos n) z-nn =
    let e : n ≡ 16777216 * (n / 16777216) + n % 16777216 = split n in
    bent_moved K (constants_at i).lost (constants_at i).behind (constants_at i).ahead (lack_of v w) (pos n) (pos (n / 16777216)) (pos (n % 16777216)) a
    (ap pos e) (nn_pos (n % 16777216)) (le_z_yes (le→leb (n % 16777216) 16777216 (below n))) (nn_pos (n / 16777216)) nn most some low high
  where
    split : (n : ℕ) → n ≡ 16777216 * (n / 16777216) + n % 16777216
    split n = let d = div-add-mod' n 16777216 in omega arith

    below : (n : ℕ) → n % 16777216 ≤ 16777216
    below n =
        let some : 0 < 16777216 = lit< tt in
        let r = mod-lt n some in
        omega arith
moves_bent i v w a nn most some low high (negsuc n) z-nn = absurd z-nn.le

-- without: from depth 7 on
unbent : (z t : ℤ) → z ≡ z -ℤ t *ℤ pos 0
unbent = ring 2 (λ z t. z :≡ z :- t :* `0) refl

pub moves_flat : (i : ℕ) → i < 5 → (g : ℤ) → least ≤ℤ g → (v w : Vec3) → Bend (constants_at (4 + i)).bend (lack_of v w) → Moves (4 + i) v w (pos 0)
moves_flat i h g large v w b z nn = subst (λ y. Moved K (constants_at (4 + i)).lost (constants_at (4 + i)).behind (constants_at (4 + i)).ahead (lack_of v w) z y)
    (unbent z (pos (nat_abs z / 16777216)))
    (flat_moved K (constants_at (4 + i)).lost (constants_at (4 + i)).behind (constants_at (4 + i)).ahead z b (behind_of i h g large) (ahead_of i h g large) (le_z_yes tt)
    (subst (λ a. pos 0 ≤ℤ a) (sym (unlost_of i h g large)) (le_z_yes tt)) nn)

-- ---- one level

module _ (i : ℕ) (h : i < 9) (g : ℤ) (large : least ≤ℤ g) (p : Vec3) (small : Small p) (pt : Pointing K (three p)) (x : Trixel) (stands : StandsAt i g x)
    (below : (k : ℕ) → k < 4 → StandsAt (suc i) g (child k x)) (a0 a1 a2 : ℤ) (m0 : Moves i x.v1 x.v2 a0) (m1 : Moves i x.v0 x.v2 a1) (m2 : Moves i x.v0 x.v1 a2)
    (d0 d1 d2 : ℤ) (f : FollowsAt i g p x d0 d1 d2) where
  abbrev V0 : V3
  V0 = three x.v0

  abbrev V1 : V3
  V1 = three x.v1

  abbrev V2 : V3
  V2 = three x.v2

  abbrev w0 : Vec3
  w0 = unit (plus x.v1 x.v2)

  abbrev w1 : Vec3
  w1 = unit (plus x.v0 x.v2)

  abbrev w2 : Vec3
  w2 = unit (plus x.v0 x.v1)

  abbrev side : Vec3 → Vec3 → Bool
  side a b = not_negative (dot (scale (cross a b)) p)

  abbrev edge02 : Long (pos (edge_at i)) (difference_of V0 V2)
  edge02 = flip V2 V0 stands.shape.edge20

  n0 : New K (both V1 V2) (three w0)
  n0 = new i h g large x.v1 x.v2 stands.shape.corner1 stands.shape.corner2 stands.shape.edge12 stands.octant1 stands.octant2

  n1 : New K (both V0 V2) (three w1)
  n1 = new i h g large x.v0 x.v2 stands.shape.corner0 stands.shape.corner2 edge02 stands.octant0 stands.octant2

  n2 : New K (both V0 V1) (three w2)
  n2 = new i h g large x.v0 x.v1 stands.shape.corner0 stands.shape.corner1 stands.shape.edge01 stands.octant0 stands.octant1

  low0 : neg_ℤ (pos 2) ≤ℤ n0.h
  low0 = (bends i h g large x.v1 x.v2 stands.shape.corner1 stands.shape.corner2 stands.shape.edge12 stands.octant1 stands.octant2 n0).low

  low1 : neg_ℤ (pos 2) ≤ℤ n1.h
  low1 = (bends i h g large x.v0 x.v2 stands.shape.corner0 stands.shape.corner2 edge02 stands.octant0 stands.octant2 n1).low

  low2 : neg_ℤ (pos 2) ≤ℤ n2.h
  low2 = (bends i h g large x.v0 x.v1 stands.shape.corner0 stands.shape.corner1 stands.shape.edge01 stands.octant0 stands.octant1 n2).low

  -- the moves, at what the new corners have
  move0 : (z : ℤ) → pos 0 ≤ℤ z → Moved K (constants_at i).lost (constants_at i).behind (constants_at i).ahead n0.h z (less_of z a0)
  unfolding n0
  move0 z nn = subst (λ h. Moved K (constants_at i).lost (constants_at i).behind (constants_at i).ahead h z (less_of z a0))
      (sym (new_h i h g large x.v1 x.v2 stands.shape.corner1 stands.shape.corner2 stands.shape.edge12 stands.octant1 stands.octant2)) (m0 z nn)

  move1 : (z : ℤ) → pos 0 ≤ℤ z → Moved K (constants_at i).lost (constants_at i).behind (constants_at i).ahead n1.h z (less_of z a1)
  unfolding n1
  move1 z nn = subst (λ h. Moved K (constants_at i).lost (constants_at i).behind (constants_at i).ahead h z (less_of z a1))
      (sym (new_h i h g large x.v0 x.v2 stands.shape.corner0 stands.shape.corner2 edge02 stands.octant0 stands.octant2)) (m1 z nn)

  move2 : (z : ℤ) → pos 0 ≤ℤ z → Moved K (constants_at i).lost (constants_at i).behind (constants_at i).ahead n2.h z (less_of z a2)
  unfolding n2
  move2 z nn = subst (λ h. Moved K (constants_at i).lost (constants_at i).behind (constants_at i).ahead h z (less_of z a2))
      (sym (new_h i h g large x.v0 x.v1 stands.shape.corner0 stands.shape.corner1 stands.shape.edge01 stands.octant0 stands.octant1)) (m2 z nn)

  n0' : New K (both V2 V1) (three w0)
  n0' = new_swapped V1 V2 n0

  n1' : New K (both V2 V0) (three w1)
  n1' = new_swapped V0 V2 n1

  n2' : New K (both V1 V0) (three w2)
  n2' = new_swapped V0 V1 n2

  abbrev m : ℕ
  m = 1048577 * edge_at (suc i)

  abbrev M : ℤ
  M = margin_at i

  abbrev P : V3
  P = three p

  abbrev wide : Wide K u δ D (pos (edge_at i)) (pos (edge_at (suc i))) (part_at (suc i) *ℤ g) (constants_at i).normal (constants_at i).error (margin_at i) (bounds_at i g)
  wide = wide_of i h g large

  here : Here K u δ D (pos (edge_at i)) (part_at i *ℤ g) (bounds_at i g) d0 d1 d2 V0 V1 V2 P
  here = record { follows = f; stands = stands }

  stands0 : Stands K (pos (edge_at (suc i))) D (part_at (suc i) *ℤ g) V0 (three w2) (three w1)
  unfolding child cut
  stands0 = below 0 (lit< tt)

  stands1 : Stands K (pos (edge_at (suc i))) D (part_at (suc i) *ℤ g) V1 (three w0) (three w2)
  unfolding child cut
  stands1 = below 1 (lit< tt)

  stands2 : Stands K (pos (edge_at (suc i))) D (part_at (suc i) *ℤ g) V2 (three w1) (three w0)
  unfolding child cut
  stands2 = below 2 (lit< tt)

  stands3 : Stands K (pos (edge_at (suc i))) D (part_at (suc i) *ℤ g) (three w0) (three w1) (three w2)
  unfolding child cut
  stands3 = below 3 (lit< tt)

  above_0 : M <ℤ (d0 -ℤ d1 -ℤ d2) → side w2 w1 ≡ true
  above_0 l = side_true (cross w2 w1) p m small (normal_long δ P wide pt here n1 n2 low1 low2 (cut_of stands0)) (here_above δ P wide pt here n1 n2 low1 low2 (cut_of stands0) l)

  below_0 : M <ℤ neg_ℤ (d0 -ℤ d1 -ℤ d2) → side w2 w1 ≡ false
  below_0 l = side_false (cross w2 w1) p m small (normal_long δ P wide pt here n1 n2 low1 low2 (cut_of stands0)) (here_below δ P wide pt here n1 n2 low1 low2 (cut_of stands0) l)

  -- the other two cuts: the same of the corners turned round
  here1 : Here K u δ D (pos (edge_at i)) (part_at i *ℤ g) (bounds_at i g) d1 d2 d0 V1 V2 V0 P
  here1 = here_turned δ P here

  here2 : Here K u δ D (pos (edge_at i)) (part_at i *ℤ g) (bounds_at i g) d2 d0 d1 V2 V0 V1 P
  here2 = here_turned δ P here1

  low0' : neg_ℤ (pos 2) ≤ℤ n0'.h
  unfolding n0' new_swapped
  low0' = low0

  low1' : neg_ℤ (pos 2) ≤ℤ n1'.h
  unfolding n1' new_swapped
  low1' = low1

  low2' : neg_ℤ (pos 2) ≤ℤ n2'.h
  unfolding n2' new_swapped
  low2' = low2

  above_1 : M <ℤ (d1 -ℤ d2 -ℤ d0) → side w0 w2 ≡ true
  above_1 l = side_true (cross w0 w2) p m small (normal_long δ P wide pt here1 n2' n0 low2' low0 (cut_of stands1)) (here_above δ P wide pt here1 n2' n0 low2' low0 (cut_of stands1) l)

  below_1 : M <ℤ neg_ℤ (d1 -ℤ d2 -ℤ d0) → side w0 w2 ≡ false
  below_1 l = side_false (cross w0 w2) p m small (normal_long δ P wide pt here1 n2' n0 low2' low0 (cut_of stands1)) (here_below δ P wide pt here1 n2' n0 low2' low0 (cut_of stands1) l)

  above_2 : M <ℤ (d2 -ℤ d0 -ℤ d1) → side w1 w0 ≡ true
  above_2 l = side_true (cross w1 w0) p m small (normal_long δ P wide pt here2 n0' n1' low0' low1' (cut_of stands2)) (here_above δ P wide pt here2 n0' n1' low0' low1' (cut_of stands2) l)

  below_2 : M <ℤ neg_ℤ (d2 -ℤ d0 -ℤ d1) → side w1 w0 ≡ false
  below_2 l = side_false (cross w1 w0) p m small (normal_long δ P wide pt here2 n0' n1' low0' low1' (cut_of stands2)) (here_below δ P wide pt here2 n0' n1' low0' low1' (cut_of stands2) l)

  -- ---- the rule's digit
  pub digit_0 : M <ℤ (d0 -ℤ d1 -ℤ d2) → digit p x ≡ 0
  unfolding digit cut
  digit_0 l = rw (above_0 l) refl

  module _ (not0 : M <ℤ neg_ℤ (d0 -ℤ d1 -ℤ d2)) where
    pub digit_1 : M <ℤ (d1 -ℤ d2 -ℤ d0) → digit p x ≡ 1
    unfolding digit cut
    digit_1 l = rw (below_0 not0, above_1 l) refl

    module _ (not1 : M <ℤ neg_ℤ (d1 -ℤ d2 -ℤ d0)) where
      pub digit_2 : M <ℤ (d2 -ℤ d0 -ℤ d1) → digit p x ≡ 2
      unfolding digit cut
      digit_2 l = rw (below_0 not0, below_1 not1, above_2 l) refl

      pub digit_3 : M <ℤ neg_ℤ (d2 -ℤ d0 -ℤ d1) → digit p x ≡ 3
      unfolding digit cut
      digit_3 l = rw (below_0 not0, below_1 not1, below_2 l) refl

  -- ---- and the numbers of the child follow p at its corners

  twice_nn : (d : ℤ) → pos 0 ≤ℤ d → pos 0 ≤ℤ (pos 2 *ℤ d)
  twice_nn = prove 1 (λ d. record { given = (`0 :≤ d) ∷ []; goal = `0 :≤ con (pos 2) :* d; cert = nat 2 ⊗ hyp 0 }) refl

  pub follows_0 : pos 0 ≤ℤ (d0 -ℤ d1 -ℤ d2) → FollowsAt (suc i) g p (child 0 x) (d0 -ℤ d1 -ℤ d2) (less_of (pos 2 *ℤ d1) a2) (less_of (pos 2 *ℤ d2) a1)
  unfolding child cut
  follows_0 nn = child_follows (level_of i h g large) f nn n1 n2 (move2 (pos 2 *ℤ d1) (twice_nn d1 f.d1_nn)) (move1 (pos 2 *ℤ d2) (twice_nn d2 f.d2_nn)) stands0.shape

  pub follows_1 : pos 0 ≤ℤ (d1 -ℤ d2 -ℤ d0) → FollowsAt (suc i) g p (child 1 x) (d1 -ℤ d2 -ℤ d0) (less_of (pos 2 *ℤ d2) a0) (less_of (pos 2 *ℤ d0) a2)
  unfolding child cut n2' new_swapped
  follows_1 nn = child_follows (level_of i h g large) (turned f) nn n2' n0 (move0 (pos 2 *ℤ d2) (twice_nn d2 f.d2_nn)) (move2 (pos 2 *ℤ d0) (twice_nn d0 f.d0_nn)) stands1.shape

  pub follows_2 : pos 0 ≤ℤ (d2 -ℤ d0 -ℤ d1) → FollowsAt (suc i) g p (child 2 x) (d2 -ℤ d0 -ℤ d1) (less_of (pos 2 *ℤ d0) a1) (less_of (pos 2 *ℤ d1) a0)
  unfolding child cut n0' n1' new_swapped
  follows_2 nn = child_follows (level_of i h g large) (turned (turned f)) nn n0' n1' (move1 (pos 2 *ℤ d0) (twice_nn d0 f.d0_nn)) (move0 (pos 2 *ℤ d1) (twice_nn d1 f.d1_nn)) stands2.shape

  pub follows_3 : pos 0 ≤ℤ (d1 +ℤ d2 -ℤ d0) → pos 0 ≤ℤ (d0 +ℤ d2 -ℤ d1) → pos 0 ≤ℤ (d0 +ℤ d1 -ℤ d2)
      → FollowsAt (suc i) g p (child 3 x) (less_of (d1 +ℤ d2 -ℤ d0) a0) (less_of (d0 +ℤ d2 -ℤ d1) a1) (less_of (d0 +ℤ d1 -ℤ d2) a2)
  unfolding child cut
  follows_3 z0 z1 z2 = middle_follows (level_of i h g large) f n0 n1 n2 (move0 (d1 +ℤ d2 -ℤ d0) z0) (move1 (d0 +ℤ d2 -ℤ d1) z1) (move2 (d0 +ℤ d1 -ℤ d2) z2) stands3.shape

-- ---- the children of a trixel of depth 7 or more stand where they should

module _ (i : ℕ) (h : i < 5) (g : ℤ) (large : least ≤ℤ g) (x : Trixel) (stands : StandsAt (4 + i) g x) where
  low : 4 + i < 9
  low = omega arith

  abbrev W0 : V3
  W0 = three (unit (plus x.v1 x.v2))

  abbrev W1 : V3
  W1 = three (unit (plus x.v0 x.v2))

  abbrev W2 : V3
  W2 = three (unit (plus x.v0 x.v1))

  abbrev long02 : Long (pos (edge_at (4 + i))) (difference_of (three x.v0) (three x.v2))
  long02 = flip (three x.v2) (three x.v0) stands.shape.edge20

  new0 : New K (both (three x.v1) (three x.v2)) W0
  new0 = new (4 + i) low g large x.v1 x.v2 stands.shape.corner1 stands.shape.corner2 stands.shape.edge12 stands.octant1 stands.octant2

  new1 : New K (both (three x.v0) (three x.v2)) W1
  new1 = new (4 + i) low g large x.v0 x.v2 stands.shape.corner0 stands.shape.corner2 long02 stands.octant0 stands.octant2

  new2 : New K (both (three x.v0) (three x.v1)) W2
  new2 = new (4 + i) low g large x.v0 x.v1 stands.shape.corner0 stands.shape.corner1 stands.shape.edge01 stands.octant0 stands.octant1

  in0 : InS0 W0
  in0 = new_octant (4 + i) low g large x.v1 x.v2 stands.shape.corner1 stands.shape.corner2 stands.shape.edge12 stands.octant1 stands.octant2

  in1 : InS0 W1
  in1 = new_octant (4 + i) low g large x.v0 x.v2 stands.shape.corner0 stands.shape.corner2 long02 stands.octant0 stands.octant2

  in2 : InS0 W2
  in2 = new_octant (4 + i) low g large x.v0 x.v1 stands.shape.corner0 stands.shape.corner1 stands.shape.edge01 stands.octant0 stands.octant1

  pub stands_below : (k : ℕ) → k < 4 → StandsAt (suc (4 + i)) g (child k x)
  unfolding child cut
  stands_below zero l = stands_child (halving_of i h g large) stands new1 new2 in1 in2
  stands_below (suc zero) l = stands_child (halving_of i h g large) (stands_turned stands) (new_swapped (three x.v0) (three x.v1) new2) new0 in2 in0
  stands_below (suc (suc zero)) l = stands_child (halving_of i h g large) (stands_turned (stands_turned stands)) (new_swapped (three x.v1) (three x.v2) new0) (new_swapped (three x.v0) (three x.v2) new1) in0 in1
  stands_below (suc (suc (suc zero))) l = stands_middle (halving_of i h g large) stands new1 new2 in1 in2 new0 in0
  stands_below (suc (suc (suc (suc k)))) l = absurd (omega arith)

  -- and no bend is needed there
  pub flat_moves : Moves (4 + i) x.v1 x.v2 (pos 0) × Moves (4 + i) x.v0 x.v2 (pos 0) × Moves (4 + i) x.v0 x.v1 (pos 0)
  unfolding new0 new1 new2
  flat_moves = (
    moves_flat i h g large x.v1 x.v2 (subst (λ z. Bend (constants_at (4 + i)).bend z)
        (new_h (4 + i) low g large x.v1 x.v2 stands.shape.corner1 stands.shape.corner2 stands.shape.edge12 stands.octant1 stands.octant2)
        (bends (4 + i) low g large x.v1 x.v2 stands.shape.corner1 stands.shape.corner2 stands.shape.edge12 stands.octant1 stands.octant2 new0)),
    moves_flat i h g large x.v0 x.v2 (subst (λ z. Bend (constants_at (4 + i)).bend z)
        (new_h (4 + i) low g large x.v0 x.v2 stands.shape.corner0 stands.shape.corner2 long02 stands.octant0 stands.octant2)
        (bends (4 + i) low g large x.v0 x.v2 stands.shape.corner0 stands.shape.corner2 long02 stands.octant0 stands.octant2 new1)),
    moves_flat i h g large x.v0 x.v1 (subst (λ z. Bend (constants_at (4 + i)).bend z)
        (new_h (4 + i) low g large x.v0 x.v1 stands.shape.corner0 stands.shape.corner1 stands.shape.edge01 stands.octant0 stands.octant1)
        (bends (4 + i) low g large x.v0 x.v1 stands.shape.corner0 stands.shape.corner1 stands.shape.edge01 stands.octant0 stands.octant1 new2)),
  )
