-- The jump level by level. At the four levels below the table what is known of the trixel is computed (mesh_bends/proofs); from depth 7 on it follows from the
-- level above. Assumes nothing.
--   Next          one level: the rule's digit, where the child stands, and that its numbers follow p
--   next_known    at a level whose trixels are known, with their bends
--   next_flat     at a level from depth 7 on, without bends
use Prim.Native.Nat.{ℕ, zero, suc, ◌+◌, ◌≤◌, ◌<◌}
use native.Mathlib.Omega.{arith}
use mathlib.Core.Path.{◌≡◌, refl, subst}
use mathlib.Core.List.{[], ◌∷◌}
use lib.Dec.{lit<}
use lib.IntN.{ℤ, pos, neg_ℤ, ◌+ℤ◌, ◌-ℤ◌}
use lib.Signed.{◌≤ℤ◌, ◌<ℤ◌, le_z_yes}
use Rattle.algebra.proofs.Ring.{◌:+◌, ◌:-◌, :neg}
use Rattle.algebra.proofs.Claim.{◌:≤◌, ◌:<◌, nat, hyp, ◌⊕◌, prove}
use Rattle.algebra.proofs.Inequalities.{`0}
use Rattle.algebra.proofs.Order.{≤ℤ-trans}
use Rattle.jump.proofs.JumpLevel.{Pointing, InS0}
use Rattle.jump.proofs.JumpConstants.{least, constants_at, margin_at, wide_of}
use Rattle.jump.proofs.UnitLaws.{three}
use Rattle.vector.specs.declared.Vec3.{Vec3}
use Rattle.vector.specs.Numbers.{K}
use Rattle.vector.specs.Vectors.{plus}
use Rattle.vector.proofs.Sizes.{Small}
use Rattle.mesh.specs.declared.Trixel.{Trixel}
use Rattle.mesh.specs.Trixels.{child}
use Rattle.mesh.specs.Lookup.{digit}
use Rattle.mesh_bends.specs.declared.Bends.{Bends}
use Rattle.mesh_bends.proofs.BendFacts.{Octant, Fit, Facts, limits_at}
use Rattle.mesh_bends.proofs.Known.{Known, facts, below, volume_large}
use Rattle.mesh_jump.specs.declared.Numbers.{Numbers}
use Rattle.mesh_jump.specs.Jumps.{Sure, at0, at1, at2, at3, StandsAt, FollowsAt}
use Rattle.mesh_jump.proofs.JumpLaws.{Moves, moves_bent, digit_0, digit_1, digit_2, digit_3, follows_0, follows_1, follows_2, follows_3, stands_below, flat_moves}

-- ---- what is computed, as the laws read it

in_octant : (v : Vec3) → Octant v → InS0 (three v)
in_octant v o = record { x = o.x; y = o.y; z = prove 1 (λ z. record { given = (z :≤ `0) ∷ []; goal = `0 :≤ :neg z; cert = hyp 0 }) refl v.z o.z }

pub stands_known : (i : ℕ) → i ≤ 4 → {a : Bends} {g : ℤ} {x : Trixel} → Facts i a g x → StandsAt i g x
unfolding constants_at
stands_known zero h {x = x} f = record { shape = f.shape; large = f.large; octant0 = in_octant x.v0 f.octant0; octant1 = in_octant x.v1 f.octant1; octant2 = in_octant x.v2 f.octant2 }
stands_known (suc zero) h {x = x} f = record { shape = f.shape; large = f.large; octant0 = in_octant x.v0 f.octant0; octant1 = in_octant x.v1 f.octant1; octant2 = in_octant x.v2 f.octant2 }
stands_known (suc (suc zero)) h {x = x} f = record { shape = f.shape; large = f.large; octant0 = in_octant x.v0 f.octant0; octant1 = in_octant x.v1 f.octant1; octant2 = in_octant x.v2 f.octant2 }
stands_known (suc (suc (suc zero))) h {x = x} f = record { shape = f.shape; large = f.large; octant0 = in_octant x.v0 f.octant0; octant1 = in_octant x.v1 f.octant1; octant2 = in_octant x.v2 f.octant2 }
stands_known (suc (suc (suc (suc zero)))) h {x = x} f = record { shape = f.shape; large = f.large; octant0 = in_octant x.v0 f.octant0; octant1 = in_octant x.v1 f.octant1; octant2 = in_octant x.v2 f.octant2 }
stands_known (suc (suc (suc (suc (suc i))))) h f = absurd (omega arith)

fits_moves : (i : ℕ) → i < 4 → (v w : Vec3) (a : ℤ) → Fit (limits_at i) a (plus v w) → Moves i v w a
unfolding constants_at
fits_moves zero h v w a f = moves_bent 0 v w a f.least (≤ℤ-trans f.most (le_z_yes tt)) (le_z_yes tt) f.behind f.ahead
fits_moves (suc zero) h v w a f = moves_bent 1 v w a f.least (≤ℤ-trans f.most (le_z_yes tt)) (le_z_yes tt) f.behind f.ahead
fits_moves (suc (suc zero)) h v w a f = moves_bent 2 v w a f.least (≤ℤ-trans f.most (le_z_yes tt)) (le_z_yes tt) f.behind f.ahead
fits_moves (suc (suc (suc zero))) h v w a f = moves_bent 3 v w a f.least (≤ℤ-trans f.most (le_z_yes tt)) (le_z_yes tt) f.behind f.ahead
fits_moves (suc (suc (suc (suc i)))) h v w a f = absurd (omega arith)

-- ---- one level

pub record Next (g : ℤ) (p : Vec3) (i : ℕ) (x : Trixel) (k : ℕ) (m : Numbers) : Type 0 where
  pub low : k < 4
  pub is : digit p x ≡ k
  pub follows : FollowsAt (suc i) g p (child k x) m.d0 m.d1 m.d2

module _ (i : ℕ) (h : i < 9) (g : ℤ) (large : least ≤ℤ g) (p : Vec3) (small : Small p) (pt : Pointing K (three p)) (x : Trixel) (stands : StandsAt i g x)
    (under : (k : ℕ) → k < 4 → StandsAt (suc i) g (child k x)) (a : Bends) (m0 : Moves i x.v1 x.v2 a.a0) (m1 : Moves i x.v0 x.v2 a.a1) (m2 : Moves i x.v0 x.v1 a.a2)
    (d : Numbers) (margin : d.margin ≡ margin_at i) (f : FollowsAt i g p x d.d0 d.d1 d.d2) where
  M-nn : pos 0 ≤ℤ margin_at i
  M-nn = (wide_of i h g large).M-nn

  beyond : {f : ℤ} → margin_at i <ℤ f → pos 0 ≤ℤ f
  beyond {f} l = prove 2 (λ m f. record { given = (`0 :≤ m) ∷ (m :< f) ∷ []; goal = `0 :≤ f; cert = hyp 0 ⊕ hyp 1 ⊕ nat 1 }) refl (margin_at i) f M-nn l

  -- what is taken from two is the negative of what is left of one
  other : (a b c : ℤ) → margin_at i <ℤ neg_ℤ (a -ℤ b -ℤ c) → pos 0 ≤ℤ (b +ℤ c -ℤ a)
  other a b c l = prove 4 (λ m a b c. record { given = (`0 :≤ m) ∷ (m :< :neg (a :- b :- c)) ∷ []; goal = `0 :≤ b :+ c :- a; cert = hyp 0 ⊕ hyp 1 ⊕ nat 1 }) refl (margin_at i) a b c M-nn l

  swapped : (a b c : ℤ) → pos 0 ≤ℤ (b +ℤ c -ℤ a) → pos 0 ≤ℤ (c +ℤ b -ℤ a)
  swapped = prove 3 (λ a b c. record { given = (`0 :≤ b :+ c :- a) ∷ []; goal = `0 :≤ c :+ b :- a; cert = hyp 0 }) refl

  abbrev at : {z : ℤ} → d.margin <ℤ z → margin_at i <ℤ z
  at {z} l = subst (λ m. m <ℤ z) margin l

  pub next : (s : ℕ) (m : Numbers) → Sure d a s m → Next g p i x s m
  next _ _ (at0 l) = record {
    low = lit< tt;
    is = digit_0 i h g large p small pt x stands under a.a0 a.a1 a.a2 m0 m1 m2 d.d0 d.d1 d.d2 f (at l);
    follows = follows_0 i h g large p small pt x stands under a.a0 a.a1 a.a2 m0 m1 m2 d.d0 d.d1 d.d2 f (beyond (at l));
  }
  next _ _ (at1 b l) = record {
    low = lit< tt;
    is = digit_1 i h g large p small pt x stands under a.a0 a.a1 a.a2 m0 m1 m2 d.d0 d.d1 d.d2 f (at b) (at l);
    follows = follows_1 i h g large p small pt x stands under a.a0 a.a1 a.a2 m0 m1 m2 d.d0 d.d1 d.d2 f (beyond (at l));
  }
  next _ _ (at2 b c l) = record {
    low = lit< tt;
    is = digit_2 i h g large p small pt x stands under a.a0 a.a1 a.a2 m0 m1 m2 d.d0 d.d1 d.d2 f (at b) (at c) (at l);
    follows = follows_2 i h g large p small pt x stands under a.a0 a.a1 a.a2 m0 m1 m2 d.d0 d.d1 d.d2 f (beyond (at l));
  }
  next _ _ (at3 b c l) = record {
    low = lit< tt;
    is = digit_3 i h g large p small pt x stands under a.a0 a.a1 a.a2 m0 m1 m2 d.d0 d.d1 d.d2 f (at b) (at c) (at l);
    follows = follows_3 i h g large p small pt x stands under a.a0 a.a1 a.a2 m0 m1 m2 d.d0 d.d1 d.d2 f (other d.d0 d.d1 d.d2 (at b))
        (swapped d.d1 d.d2 d.d0 (other d.d1 d.d2 d.d0 (at c))) (other d.d2 d.d0 d.d1 (at l));
  }

-- ---- at a known trixel, and from depth 7 on

pub next_known : (i : ℕ) → i < 4 → (g : ℤ) (p : Vec3) → Small p → Pointing K (three p) → (x : Trixel) (a : Bends) → Known i a g x → (d : Numbers) → d.margin ≡ margin_at i
    → FollowsAt i g p x d.d0 d.d1 d.d2 → (s : ℕ) (m : Numbers) → Sure d a s m → Next g p i x s m
next_known i h g p small pt x a k d e f =
    let t = facts k (omega arith) in
    next i (omega arith) g (volume_large k) p small pt x (stands_known i (omega arith) t) (λ j l. stands_known (suc i) (omega arith) (facts (below k h j l) (omega arith)))
    a (fits_moves i h x.v1 x.v2 a.a0 t.fit0) (fits_moves i h x.v0 x.v2 a.a1 t.fit1) (fits_moves i h x.v0 x.v1 a.a2 t.fit2) d e f

pub next_flat : (i : ℕ) → i < 5 → (g : ℤ) → least ≤ℤ g → (p : Vec3) → Small p → Pointing K (three p) → (x : Trixel) → StandsAt (4 + i) g x → (d : Numbers) → d.margin ≡ margin_at (4 + i)
    → FollowsAt (4 + i) g p x d.d0 d.d1 d.d2 → (s : ℕ) (m : Numbers) → Sure d (record { a0 = pos 0; a1 = pos 0; a2 = pos 0 }) s m → Next g p (4 + i) x s m
next_flat i h g large p small pt x stands d e f =
    let t = flat_moves i h g large x stands in
    next (4 + i) (omega arith) g large p small pt x stands (stands_below i h g large x stands) (record { a0 = pos 0; a1 = pos 0; a2 = pos 0 }) t.0 t.1 t.2 d e f
