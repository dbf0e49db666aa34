-- The invariant of the jump, in records. Numbers d0 d1 d2 ≥ 0 at the corners v0 v1 v2 of a trixel follow a place p: there are e, l > 0 so that e (Σ di vi) is l p,
-- up to low / u · e S behind it and high / u · e S ahead of it in each component, S = d0 + d1 + d2. Components are measured as in S0: x, y and −z, none below 0.
--   Near       one component of that
--   Cornered   one component of a new corner w: n w = K m − rest, n = 2 K − h, the rest from 0 to n
--   Moved      the number y of a child whose flat number is z, at a corner with n = 2 K − h: what is left of the bending, x = h z − 2 K (z − y), is small
--   Bounds     the bounds of a level: low, high; most bounds D l / e, floor is below S
--   Level      the constants of one step from the bounds b to b': A bounds the part of 16 K that a number loses, Γ0 and Γ1 what is left of the bending, L the
--              components of the child's edges
--   Follows    the invariant
--   Made       n w = K m − rest in each component
--   Quotients  the same in the true components, the rest at most n in size; rests has them as a vector
--   Bend       2 K − n of a new corner, from −2 to A − 2
--   Apart      two corners whose difference is at most L in each component
--   pushed     p moved outward, by δ in each component
use mathlib.Core.Path.{◌≡◌, refl}
use mathlib.Core.List.{[], ◌∷◌}
use lib.IntN.{ℤ, pos, neg_ℤ, ◌+ℤ◌, ◌-ℤ◌, ◌*ℤ◌}
use lib.Signed.{◌≤ℤ◌, ◌<ℤ◌}
use Rattle.algebra.proofs.Ring.{◌:-◌, ◌:*◌, :neg}
use Rattle.algebra.proofs.Claim.{◌:≤◌, ◌:≡◌, nat, hyp, eqn, ◌⊕◌, ◌⊗◌, prove}
use Rattle.algebra.proofs.Inequalities.{`0, `1}
use Rattle.algebra.proofs.Vec.{V3}
use Rattle.jump.proofs.Jump.{Size}

pub record Near (u low high e l S P p : ℤ) : Type 0 where
  pub behind : neg_ℤ (low *ℤ e *ℤ S) ≤ℤ (u *ℤ (e *ℤ P -ℤ l *ℤ p))
  pub ahead : (u *ℤ (e *ℤ P -ℤ l *ℤ p)) ≤ℤ (high *ℤ e *ℤ S)

pub record Cornered (k h m w : ℤ) : Type 0 where
  pub rest : ℤ
  pub is : (pos 2 *ℤ k -ℤ h) *ℤ w ≡ k *ℤ m -ℤ rest
  pub nn : pos 0 ≤ℤ rest
  pub most : rest ≤ℤ (pos 2 *ℤ k -ℤ h)

-- what is left of the bending
abbrev pub left_of : (k h z y : ℤ) → ℤ
left_of k h z y = h *ℤ z -ℤ pos 2 *ℤ k *ℤ (z -ℤ y)

pub record Moved (k A Γ0 Γ1 h z y : ℤ) : Type 0 where
  pub nn : pos 0 ≤ℤ y
  pub most : y ≤ℤ z
  pub lost : ((pos 16 *ℤ k -ℤ A) *ℤ z) ≤ℤ (pos 16 *ℤ k *ℤ y)
  pub low : neg_ℤ (Γ0 *ℤ z) ≤ℤ (pos 8 *ℤ left_of k h z y)
  pub high : (pos 8 *ℤ left_of k h z y) ≤ℤ (Γ1 *ℤ z +ℤ pos 16 *ℤ k *ℤ A)

pub record Bounds : Type 0 where
  pub low : ℤ
  pub high : ℤ
  pub most : ℤ
  pub floor : ℤ

pub record Level (k u L A Γ0 Γ1 : ℤ) (b b' : Bounds) : Type 0 where
  pub k_positive : pos 0 <ℤ k
  pub u_nn : pos 0 ≤ℤ u
  pub A-nn : pos 0 ≤ℤ A
  pub Γ0-nn : pos 0 ≤ℤ Γ0
  pub Γ1-nn : pos 0 ≤ℤ Γ1
  pub L-nn : pos 0 ≤ℤ L
  pub low_nn : pos 0 ≤ℤ b.low
  pub high_nn : pos 0 ≤ℤ b.high
  pub most_nn : pos 0 ≤ℤ b.most
  pub floor_positive : pos 0 <ℤ b'.floor
  pub rounded : (pos 6 *ℤ (pos 16 *ℤ k *ℤ A)) ≤ℤ b.floor
  pub positive : (Γ0 +ℤ Γ1 +ℤ pos 1) <ℤ (pos 16 *ℤ k -ℤ A)
  pub more : u ≤ℤ b'.low
  pub grows_low : (pos 48 *ℤ k *ℤ (b.low *ℤ (pos 16 *ℤ k -ℤ A)) +ℤ pos 16 *ℤ k *ℤ (u *ℤ ((Γ0 +ℤ Γ1 +ℤ pos 1) *ℤ L)))
      ≤ℤ (pos 3 *ℤ (pos 16 *ℤ k -ℤ A) *ℤ ((b'.low -ℤ u) *ℤ (pos 16 *ℤ k -ℤ A -ℤ (Γ0 +ℤ Γ1 +ℤ pos 1))))
  pub grows_high : (pos 48 *ℤ k *ℤ (b.high *ℤ (pos 16 *ℤ k -ℤ A)) +ℤ pos 16 *ℤ k *ℤ (u *ℤ ((Γ0 +ℤ Γ1 +ℤ pos 1) *ℤ L)))
      ≤ℤ (pos 3 *ℤ (pos 16 *ℤ k -ℤ A) *ℤ (b'.high *ℤ (pos 16 *ℤ k -ℤ A -ℤ (Γ0 +ℤ Γ1 +ℤ pos 1))))
  pub grows_most : (b.most *ℤ (pos 16 *ℤ k -ℤ A)) ≤ℤ (b'.most *ℤ (pos 16 *ℤ k -ℤ A -ℤ (Γ0 +ℤ Γ1 +ℤ pos 1)))
  pub falls : (pos 16 *ℤ k *ℤ b'.floor) ≤ℤ ((pos 16 *ℤ k -ℤ A) *ℤ b.floor)

pub record Follows (u D : ℤ) (b : Bounds) (d0 d1 d2 : ℤ) (v0 v1 v2 p : V3) : Type 0 where
  pub e : ℤ
  pub l : ℤ
  pub e_positive : pos 0 <ℤ e
  pub l_positive : pos 0 <ℤ l
  pub held : (D *ℤ l) ≤ℤ (e *ℤ b.most)
  pub d0_nn : pos 0 ≤ℤ d0
  pub d1_nn : pos 0 ≤ℤ d1
  pub d2_nn : pos 0 ≤ℤ d2
  pub large : b.floor ≤ℤ (d0 +ℤ d1 +ℤ d2)
  pub x : Near u b.low b.high e l (d0 +ℤ d1 +ℤ d2) (d0 *ℤ v0.x +ℤ d1 *ℤ v1.x +ℤ d2 *ℤ v2.x) p.x
  pub y : Near u b.low b.high e l (d0 +ℤ d1 +ℤ d2) (d0 *ℤ v0.y +ℤ d1 *ℤ v1.y +ℤ d2 *ℤ v2.y) p.y
  pub z : Near u b.low b.high e l (d0 +ℤ d1 +ℤ d2) (d0 *ℤ neg_ℤ v0.z +ℤ d1 *ℤ neg_ℤ v1.z +ℤ d2 *ℤ neg_ℤ v2.z) (neg_ℤ p.z)

abbrev pub both : V3 → V3 → V3
both a b = record { x = a.x +ℤ b.x; y = a.y +ℤ b.y; z = a.z +ℤ b.z }

pub record Made (k h : ℤ) (m w : V3) : Type 0 where
  pub x : Cornered k h m.x w.x
  pub y : Cornered k h m.y w.y
  pub z : Cornered k h (neg_ℤ m.z) (neg_ℤ w.z)

pub record Quotient (k h m w : ℤ) : Type 0 where
  pub rest : ℤ
  pub is : (pos 2 *ℤ k -ℤ h) *ℤ w ≡ k *ℤ m -ℤ rest
  pub size : Size (pos 2 *ℤ k -ℤ h) rest

pub record Quotients (k h : ℤ) (m w : V3) : Type 0 where
  pub x : Quotient k h m.x w.x
  pub y : Quotient k h m.y w.y
  pub z : Quotient k h m.z w.z

abbrev pub rests : {k h : ℤ} {m w : V3} → Quotients k h m w → V3
rests q = record { x = q.x.rest; y = q.y.rest; z = q.z.rest }

abbrev pub quotient : {k h m w : ℤ} → Cornered k h m w → Quotient k h m w
quotient {k} {h} c = record {
  rest = c.rest;
  is = c.is;
  size = record {
    low = prove 2 (λ n r. record { given = (`0 :≤ r) ∷ (r :≤ n) ∷ []; goal = :neg n :≤ r; cert = nat 2 ⊗ hyp 0 ⊕ hyp 1 }) refl (pos 2 *ℤ k -ℤ h) c.rest c.nn c.most;
    high = c.most;
  };
}

abbrev pub turned_quotient : {k h m w : ℤ} → Quotient k h (neg_ℤ m) (neg_ℤ w) → Quotient k h m w
turned_quotient {k} {h} {m} {w} c = record {
  rest = neg_ℤ c.rest;
  is = prove 5
      (λ n k m w r. record { given = (n :* :neg w :≡ k :* :neg m :- r) ∷ []; goal = n :* w :≡ k :* m :- :neg r; cert = eqn 0 (:neg `1) })
      refl (pos 2 *ℤ k -ℤ h) k m w c.rest c.is;
  size = record {
    low = prove 2 (λ n r. record { given = (r :≤ n) ∷ []; goal = :neg n :≤ :neg r; cert = hyp 0 }) refl (pos 2 *ℤ k -ℤ h) c.rest c.size.high;
    high = prove 2 (λ n r. record { given = (:neg n :≤ r) ∷ []; goal = :neg r :≤ n; cert = hyp 0 }) refl (pos 2 *ℤ k -ℤ h) c.rest c.size.low;
  };
}

abbrev pub quotients : {k h : ℤ} {m w : V3} → Made k h m w → Quotients k h m w
quotients a = record { x = quotient a.x; y = quotient a.y; z = turned_quotient (quotient a.z) }

pub record Bend (A h : ℤ) : Type 0 where
  pub low : neg_ℤ (pos 2) ≤ℤ h
  pub high : (h +ℤ pos 2) ≤ℤ A

pub record Apart (L : ℤ) (a b : V3) : Type 0 where
  pub x : Size L (a.x -ℤ b.x)
  pub y : Size L (a.y -ℤ b.y)
  pub z : Size L (a.z -ℤ b.z)

abbrev pub pushed : ℤ → V3 → V3
pushed δ p = record { x = p.x +ℤ δ; y = p.y +ℤ δ; z = p.z -ℤ δ }
