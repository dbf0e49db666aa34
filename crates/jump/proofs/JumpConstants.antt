-- The numbers of the jump from the table's corners of depth 3 to depth 12: nine levels. Edges, volumes and bends of the first levels are those that
-- mesh_bends/proofs computes; from depth 7 on they follow from level to level, and the numbers are not bent. 64ths of a unit for low and high; volumes and growth
-- as parts of 2³⁰ of the volume g of the trixel of depth 3. Each comparison is computed. Assumes nothing.
--   level_of, wide_of, bent_of    they are the constants that the laws of a level ask for
--   halving_of                    and, from depth 7 on, those of shape and volume
use mathlib.Core.Path.{◌≡◌, refl}
use mathlib.Core.List.{[], ◌∷◌}
use Prim.Native.Nat.{ℕ, zero, suc, ◌+◌, ◌<◌}
use native.Mathlib.Omega.{arith}
use lib.IntN.{ℤ, pos, ◌+ℤ◌, ◌-ℤ◌, ◌*ℤ◌}
use lib.Signed.{◌≤ℤ◌, ◌<ℤ◌, le_z_yes, lt_z_yes}
use Rattle.algebra.proofs.Ring.{◌:+◌, ◌:-◌, ◌:*◌}
use Rattle.algebra.proofs.Order.{≤ℤ-trans, nn_mul}
use Rattle.algebra.proofs.Claim.{◌:≤◌, ◌:<◌, hyp, ◌⊕◌, ◌⊗◌, prove}
use Rattle.algebra.proofs.Inequalities.{`0}
use Rattle.jump.proofs.JumpInvariant.{Bounds, Level}
use Rattle.jump.proofs.JumpShape.{Shaping}
use Rattle.jump.proofs.JumpVolume.{Shrinking}
use Rattle.jump.proofs.JumpLevel.{Wide, part_s, part_l, Halving}
pub use Rattle.jump.proofs.JumpNumbers.{k, u, δ, j, D, least, Constants, edge_at, part_at, bounds_at}
unfoldable pub use Rattle.jump.proofs.JumpNumbers.{constants_at, margin_at}

-- ---- what holds of them, computed for each level

abbrev kept : ℕ → ℤ
kept i = pos 16 *ℤ k -ℤ (constants_at i).lost

abbrev Γ : ℕ → ℤ
Γ i = (constants_at i).behind +ℤ (constants_at i).ahead +ℤ pos 1

-- the bounds without the volume
abbrev b : ℕ → Bounds
b i = record { low = (constants_at i).low; high = (constants_at i).high; most = (constants_at i).grow; floor = (constants_at i).floor }

abbrev c : ℕ → ℤ
c i = pos (constants_at i).edge

abbrev S : ℕ → ℤ
S i = part_s k u (c i) (b i)

abbrev L : ℤ
L = part_l k u δ

record Computed (i : ℕ) : Type 0 where
  pub lost_nn : pos 0 ≤ℤ (constants_at i).lost
  pub behind_nn : pos 0 ≤ℤ (constants_at i).behind
  pub ahead_nn : pos 0 ≤ℤ (constants_at i).ahead
  pub edge_nn : pos 0 ≤ℤ c (suc i)
  pub low_nn : pos 0 ≤ℤ (b i).low
  pub high_nn : pos 0 ≤ℤ (b i).high
  pub grow_nn : pos 0 ≤ℤ (b i).most
  pub floor_positive : pos 0 <ℤ (b (suc i)).floor
  pub floor_nn : pos 0 ≤ℤ (b i).floor
  pub rounded : (pos 6 *ℤ (pos 16 *ℤ k *ℤ (constants_at i).lost)) ≤ℤ (b i).floor
  pub positive : Γ i <ℤ kept i
  pub more : u ≤ℤ (b (suc i)).low
  pub grows_low : (pos 48 *ℤ k *ℤ ((b i).low *ℤ kept i) +ℤ pos 16 *ℤ k *ℤ (u *ℤ (Γ i *ℤ c (suc i)))) ≤ℤ (pos 3 *ℤ kept i *ℤ (((b (suc i)).low -ℤ u) *ℤ (kept i -ℤ Γ i)))
  pub grows_high : (pos 48 *ℤ k *ℤ ((b i).high *ℤ kept i) +ℤ pos 16 *ℤ k *ℤ (u *ℤ (Γ i *ℤ c (suc i)))) ≤ℤ (pos 3 *ℤ kept i *ℤ ((b (suc i)).high *ℤ (kept i -ℤ Γ i)))
  pub grows_most : ((b i).most *ℤ kept i) ≤ℤ ((b (suc i)).most *ℤ (kept i -ℤ Γ i))
  pub falls : (pos 16 *ℤ k *ℤ (b (suc i)).floor) ≤ℤ (kept i *ℤ (b i).floor)
  pub bent : ((pos 2 *ℤ k +ℤ pos 2 -ℤ (constants_at i).bend) *ℤ (pos 2 *ℤ k +ℤ pos 2 -ℤ (constants_at i).bend) +ℤ c i *ℤ c i) ≤ℤ (pos 4 *ℤ ((k -ℤ pos 2) *ℤ (k -ℤ pos 2)))
  pub half : (constants_at i).bend ≤ℤ k
  pub S-positive : pos 0 <ℤ S i
  pub part_positive : pos 0 <ℤ (constants_at (suc i)).part
  pub error_nn : pos 0 ≤ℤ (constants_at i).error
  pub normal_nn : pos 0 ≤ℤ (constants_at i).normal
  pub margin_nn : pos 0 ≤ℤ margin_at i
  pub normal_large : (pos 3 *ℤ ((k +ℤ pos 1) *ℤ c (suc i) *ℤ ((k +ℤ pos 1) *ℤ c (suc i)))) ≤ℤ ((constants_at i).normal *ℤ (constants_at i).normal)
  pub error_behind : (L *ℤ (u *ℤ (pos 2 *ℤ k +ℤ pos 2) +ℤ k *ℤ (b i).low)) ≤ℤ ((constants_at i).error +ℤ S i *ℤ (k *ℤ u *ℤ δ))
  pub error_ahead : (L *ℤ (k *ℤ (b i).high) +ℤ S i *ℤ (k *ℤ u *ℤ δ)) ≤ℤ (constants_at i).error
  pub wide : ((b i).most *ℤ ((constants_at i).normal *ℤ (constants_at i).error +ℤ pos 3 *ℤ ((k +ℤ pos 1) *ℤ c (suc i)) *ℤ (S i *ℤ u *ℤ k)))
      ≤ℤ (S i *ℤ u *ℤ k *ℤ margin_at i *ℤ (constants_at (suc i)).part)

computed : (i : ℕ) → i < 9 → Computed i
unfolding constants_at margin_at
computed zero h = record { lost_nn = le_z_yes tt; behind_nn = le_z_yes tt; ahead_nn = le_z_yes tt; edge_nn = le_z_yes tt; low_nn = le_z_yes tt; high_nn = le_z_yes tt; grow_nn = le_z_yes tt; floor_positive = lt_z_yes tt; floor_nn = le_z_yes tt; rounded = le_z_yes tt; positive = lt_z_yes tt; more = le_z_yes tt; grows_low = le_z_yes tt; grows_high = le_z_yes tt; grows_most = le_z_yes tt; falls = le_z_yes tt; bent = le_z_yes tt; half = le_z_yes tt; S-positive = lt_z_yes tt; part_positive = lt_z_yes tt; error_nn = le_z_yes tt; normal_nn = le_z_yes tt; margin_nn = le_z_yes tt; normal_large = le_z_yes tt; error_behind = le_z_yes tt; error_ahead = le_z_yes tt; wide = le_z_yes tt }
computed (suc zero) h = record { lost_nn = le_z_yes tt; behind_nn = le_z_yes tt; ahead_nn = le_z_yes tt; edge_nn = le_z_yes tt; low_nn = le_z_yes tt; high_nn = le_z_yes tt; grow_nn = le_z_yes tt; floor_positive = lt_z_yes tt; floor_nn = le_z_yes tt; rounded = le_z_yes tt; positive = lt_z_yes tt; more = le_z_yes tt; grows_low = le_z_yes tt; grows_high = le_z_yes tt; grows_most = le_z_yes tt; falls = le_z_yes tt; bent = le_z_yes tt; half = le_z_yes tt; S-positive = lt_z_yes tt; part_positive = lt_z_yes tt; error_nn = le_z_yes tt; normal_nn = le_z_yes tt; margin_nn = le_z_yes tt; normal_large = le_z_yes tt; error_behind = le_z_yes tt; error_ahead = le_z_yes tt; wide = le_z_yes tt }
computed (suc (suc zero)) h = record { lost_nn = le_z_yes tt; behind_nn = le_z_yes tt; ahead_nn = le_z_yes tt; edge_nn = le_z_yes tt; low_nn = le_z_yes tt; high_nn = le_z_yes tt; grow_nn = le_z_yes tt; floor_positive = lt_z_yes tt; floor_nn = le_z_yes tt; rounded = le_z_yes tt; positive = lt_z_yes tt; more = le_z_yes tt; grows_low = le_z_yes tt; grows_high = le_z_yes tt; grows_most = le_z_yes tt; falls = le_z_yes tt; bent = le_z_yes tt; half = le_z_yes tt; S-positive = lt_z_yes tt; part_positive = lt_z_yes tt; error_nn = le_z_yes tt; normal_nn = le_z_yes tt; margin_nn = le_z_yes tt; normal_large = le_z_yes tt; error_behind = le_z_yes tt; error_ahead = le_z_yes tt; wide = le_z_yes tt }
computed (suc (suc (suc zero))) h = record { lost_nn = le_z_yes tt; behind_nn = le_z_yes tt; ahead_nn = le_z_yes tt; edge_nn = le_z_yes tt; low_nn = le_z_yes tt; high_nn = le_z_yes tt; grow_nn = le_z_yes tt; floor_positive = lt_z_yes tt; floor_nn = le_z_yes tt; rounded = le_z_yes tt; positive = lt_z_yes tt; more = le_z_yes tt; grows_low = le_z_yes tt; grows_high = le_z_yes tt; grows_most = le_z_yes tt; falls = le_z_yes tt; bent = le_z_yes tt; half = le_z_yes tt; S-positive = lt_z_yes tt; part_positive = lt_z_yes tt; error_nn = le_z_yes tt; normal_nn = le_z_yes tt; margin_nn = le_z_yes tt; normal_large = le_z_yes tt; error_behind = le_z_yes tt; error_ahead = le_z_yes tt; wide = le_z_yes tt }
computed (suc (suc (suc (suc zero)))) h = record { lost_nn = le_z_yes tt; behind_nn = le_z_yes tt; ahead_nn = le_z_yes tt; edge_nn = le_z_yes tt; low_nn = le_z_yes tt; high_nn = le_z_yes tt; grow_nn = le_z_yes tt; floor_positive = lt_z_yes tt; floor_nn = le_z_yes tt; rounded = le_z_yes tt; positive = lt_z_yes tt; more = le_z_yes tt; grows_low = le_z_yes tt; grows_high = le_z_yes tt; grows_most = le_z_yes tt; falls = le_z_yes tt; bent = le_z_yes tt; half = le_z_yes tt; S-positive = lt_z_yes tt; part_positive = lt_z_yes tt; error_nn = le_z_yes tt; normal_nn = le_z_yes tt; margin_nn = le_z_yes tt; normal_large = le_z_yes tt; error_behind = le_z_yes tt; error_ahead = le_z_yes tt; wide = le_z_yes tt }
computed (suc (suc (suc (suc (suc zero))))) h = record { lost_nn = le_z_yes tt; behind_nn = le_z_yes tt; ahead_nn = le_z_yes tt; edge_nn = le_z_yes tt; low_nn = le_z_yes tt; high_nn = le_z_yes tt; grow_nn = le_z_yes tt; floor_positive = lt_z_yes tt; floor_nn = le_z_yes tt; rounded = le_z_yes tt; positive = lt_z_yes tt; more = le_z_yes tt; grows_low = le_z_yes tt; grows_high = le_z_yes tt; grows_most = le_z_yes tt; falls = le_z_yes tt; bent = le_z_yes tt; half = le_z_yes tt; S-positive = lt_z_yes tt; part_positive = lt_z_yes tt; error_nn = le_z_yes tt; normal_nn = le_z_yes tt; margin_nn = le_z_yes tt; normal_large = le_z_yes tt; error_behind = le_z_yes tt; error_ahead = le_z_yes tt; wide = le_z_yes tt }
computed (suc (suc (suc (suc (suc (suc zero)))))) h = record { lost_nn = le_z_yes tt; behind_nn = le_z_yes tt; ahead_nn = le_z_yes tt; edge_nn = le_z_yes tt; low_nn = le_z_yes tt; high_nn = le_z_yes tt; grow_nn = le_z_yes tt; floor_positive = lt_z_yes tt; floor_nn = le_z_yes tt; rounded = le_z_yes tt; positive = lt_z_yes tt; more = le_z_yes tt; grows_low = le_z_yes tt; grows_high = le_z_yes tt; grows_most = le_z_yes tt; falls = le_z_yes tt; bent = le_z_yes tt; half = le_z_yes tt; S-positive = lt_z_yes tt; part_positive = lt_z_yes tt; error_nn = le_z_yes tt; normal_nn = le_z_yes tt; margin_nn = le_z_yes tt; normal_large = le_z_yes tt; error_behind = le_z_yes tt; error_ahead = le_z_yes tt; wide = le_z_yes tt }
computed (suc (suc (suc (suc (suc (suc (suc zero))))))) h = record { lost_nn = le_z_yes tt; behind_nn = le_z_yes tt; ahead_nn = le_z_yes tt; edge_nn = le_z_yes tt; low_nn = le_z_yes tt; high_nn = le_z_yes tt; grow_nn = le_z_yes tt; floor_positive = lt_z_yes tt; floor_nn = le_z_yes tt; rounded = le_z_yes tt; positive = lt_z_yes tt; more = le_z_yes tt; grows_low = le_z_yes tt; grows_high = le_z_yes tt; grows_most = le_z_yes tt; falls = le_z_yes tt; bent = le_z_yes tt; half = le_z_yes tt; S-positive = lt_z_yes tt; part_positive = lt_z_yes tt; error_nn = le_z_yes tt; normal_nn = le_z_yes tt; margin_nn = le_z_yes tt; normal_large = le_z_yes tt; error_behind = le_z_yes tt; error_ahead = le_z_yes tt; wide = le_z_yes tt }
computed (suc (suc (suc (suc (suc (suc (suc (suc zero)))))))) h = record { lost_nn = le_z_yes tt; behind_nn = le_z_yes tt; ahead_nn = le_z_yes tt; edge_nn = le_z_yes tt; low_nn = le_z_yes tt; high_nn = le_z_yes tt; grow_nn = le_z_yes tt; floor_positive = lt_z_yes tt; floor_nn = le_z_yes tt; rounded = le_z_yes tt; positive = lt_z_yes tt; more = le_z_yes tt; grows_low = le_z_yes tt; grows_high = le_z_yes tt; grows_most = le_z_yes tt; falls = le_z_yes tt; bent = le_z_yes tt; half = le_z_yes tt; S-positive = lt_z_yes tt; part_positive = lt_z_yes tt; error_nn = le_z_yes tt; normal_nn = le_z_yes tt; margin_nn = le_z_yes tt; normal_large = le_z_yes tt; error_behind = le_z_yes tt; error_ahead = le_z_yes tt; wide = le_z_yes tt }
computed (suc (suc (suc (suc (suc (suc (suc (suc (suc i))))))))) h = absurd (omega arith)

-- ---- the same with the volume

times_nn : (x g : ℤ) → pos 0 ≤ℤ x → least ≤ℤ g → pos 0 ≤ℤ (x *ℤ g)
times_nn x g h l = nn_mul h (≤ℤ-trans {b = least} (le_z_yes tt) l)

times_most : (x y z w g : ℤ) → (x *ℤ y) ≤ℤ (z *ℤ w) → pos 0 ≤ℤ g → (x *ℤ g *ℤ y) ≤ℤ (z *ℤ g *ℤ w)
times_most = prove 5 (λ x y z w g. record { given = (x :* y :≤ z :* w) ∷ (`0 :≤ g) ∷ []; goal = x :* g :* y :≤ z :* g :* w; cert = hyp 1 ⊗ hyp 0 }) refl

times_wide : (x y z w g : ℤ) → (x *ℤ y) ≤ℤ (z *ℤ w) → pos 0 ≤ℤ g → (x *ℤ g *ℤ y) ≤ℤ (z *ℤ (w *ℤ g))
times_wide = prove 5 (λ x y z w g. record { given = (x :* y :≤ z :* w) ∷ (`0 :≤ g) ∷ []; goal = x :* g :* y :≤ z :* (w :* g); cert = hyp 1 ⊗ hyp 0 }) refl

times_positive : (x v g : ℤ) → pos 0 <ℤ x → pos 0 <ℤ v → v ≤ℤ g → pos 0 <ℤ (x *ℤ g)
times_positive = prove 3 (λ x v g. record { given = (`0 :< x) ∷ (`0 :< v) ∷ (v :≤ g) ∷ []; goal = `0 :< x :* g; cert = hyp 0 ⊗ (hyp 1 ⊕ hyp 2) ⊕ hyp 0 ⊕ hyp 1 ⊕ hyp 2 }) refl

module _ (i : ℕ) (h : i < 9) (g : ℤ) (large : least ≤ℤ g) where
  abbrev known : Computed i
  known = computed i h

  g_nn : pos 0 ≤ℤ g
  g_nn = ≤ℤ-trans {b = least} (le_z_yes tt) large

  pub level_of : Level k u (pos (edge_at (suc i))) (constants_at i).lost (constants_at i).behind (constants_at i).ahead (bounds_at i g) (bounds_at (suc i) g)
  level_of = record {
    k_positive = lt_z_yes tt;
    u_nn = le_z_yes tt;
    A-nn = known.lost_nn;
    Γ0-nn = known.behind_nn;
    Γ1-nn = known.ahead_nn;
    L-nn = known.edge_nn;
    low_nn = known.low_nn;
    high_nn = known.high_nn;
    most_nn = times_nn (constants_at i).grow g known.grow_nn large;
    floor_positive = known.floor_positive;
    rounded = known.rounded;
    positive = known.positive;
    more = known.more;
    grows_low = known.grows_low;
    grows_high = known.grows_high;
    grows_most = times_most (constants_at i).grow (kept i) (constants_at (suc i)).grow (kept i -ℤ Γ i) g known.grows_most g_nn;
    falls = known.falls;
  }

  pub wide_of : Wide k u δ D (pos (edge_at i)) (pos (edge_at (suc i))) (part_at (suc i) *ℤ g) (constants_at i).normal (constants_at i).error (margin_at i) (bounds_at i g)
  wide_of = record {
    k_some = le_z_yes tt;
    u_positive = lt_z_yes tt;
    δ_nn = le_z_yes tt;
    D-positive = lt_z_yes tt;
    S-positive = known.S-positive;
    G'-positive = times_positive (constants_at (suc i)).part least g known.part_positive (lt_z_yes tt) large;
    low_nn = known.low_nn;
    high_nn = known.high_nn;
    floor_nn = known.floor_nn;
    E-nn = known.error_nn;
    t_nn = known.normal_nn;
    M-nn = known.margin_nn;
    t_large = known.normal_large;
    behind = known.error_behind;
    ahead = known.error_ahead;
    wide = times_wide (constants_at i).grow ((constants_at i).normal *ℤ (constants_at i).error +ℤ pos 3 *ℤ ((k +ℤ pos 1) *ℤ c (suc i)) *ℤ (S i *ℤ u *ℤ k))
        (S i *ℤ u *ℤ k *ℤ margin_at i) (constants_at (suc i)).part g known.wide g_nn;
  }

  -- the edges are short enough for the bend, and the bend is below K
  pub bent_of : ((pos 2 *ℤ k +ℤ pos 2 -ℤ (constants_at i).bend) *ℤ (pos 2 *ℤ k +ℤ pos 2 -ℤ (constants_at i).bend) +ℤ pos (edge_at i) *ℤ pos (edge_at i))
      ≤ℤ (pos 4 *ℤ ((k -ℤ pos 2) *ℤ (k -ℤ pos 2)))
  bent_of = known.bent

  pub half_of : (constants_at i).bend ≤ℤ k
  half_of = known.half

-- ---- shape and volume from depth 7 on

abbrev N : ℤ
N = pos 2 *ℤ k +ℤ pos 2

-- what the rests may take from a child's volume, and from the middle one's, with edges of c
abbrev taken : ℤ → ℤ
taken c = D *ℤ (pos 2 *ℤ k *ℤ (j *ℤ ((k +ℤ pos 1) *ℤ c)) +ℤ (k +ℤ pos 1) *ℤ (j *ℤ j))

abbrev taken_middle : ℤ → ℤ
taken_middle c = D *ℤ (pos 3 *ℤ k *ℤ k *ℤ (j *ℤ ((k +ℤ pos 1 +ℤ (k +ℤ pos 1)) *ℤ c)) +ℤ pos 3 *ℤ k *ℤ ((k +ℤ pos 1 +ℤ (k +ℤ pos 1)) *ℤ (j *ℤ j)) +ℤ j *ℤ (j *ℤ j))

-- what holds at the least volume holds at every larger one; the literal factors stand before g
grown_to : (n o x y r v g : ℤ) → v ≤ℤ g → pos 0 ≤ℤ (o *ℤ y -ℤ n *ℤ x) → (n *ℤ x *ℤ v +ℤ r) ≤ℤ (o *ℤ y *ℤ v) → (n *ℤ (x *ℤ g) +ℤ r) ≤ℤ (o *ℤ (y *ℤ g))
grown_to = prove 7
    (λ n o x y r v g. record {
      given = (v :≤ g) ∷ (`0 :≤ o :* y :- n :* x) ∷ (n :* x :* v :+ r :≤ o :* y :* v) ∷ [];
      goal = n :* (x :* g) :+ r :≤ o :* (y :* g);
      cert = hyp 0 ⊗ hyp 1 ⊕ hyp 2;
    })
    refl

record Shrinks (i : ℕ) : Type 0 where
  pub A-nn : pos 0 ≤ℤ (constants_at i).bend
  pub A-below : pos 0 <ℤ (pos 2 *ℤ k -ℤ (constants_at i).bend)
  pub half : (constants_at i).bend ≤ℤ k
  pub two : (pos 0 +ℤ pos 2) ≤ℤ (constants_at i).bend
  pub edge_nn : pos 0 ≤ℤ c (suc i)
  pub bent : ((pos 2 *ℤ k +ℤ pos 2 -ℤ (constants_at i).bend) *ℤ (pos 2 *ℤ k +ℤ pos 2 -ℤ (constants_at i).bend) +ℤ c i *ℤ c i) ≤ℤ (pos 4 *ℤ ((k -ℤ pos 2) *ℤ (k -ℤ pos 2)))
  pub halved : (k *ℤ c i +ℤ ((constants_at i).bend *ℤ (k +ℤ pos 1) +ℤ (j +ℤ j))) ≤ℤ ((pos 2 *ℤ k -ℤ (constants_at i).bend) *ℤ c (suc i))
  pub unlost : (constants_at i).lost ≡ pos 0
  pub behind : (pos 8 *ℤ pos 2) ≤ℤ (constants_at i).behind
  pub ahead : (pos 8 *ℤ (constants_at i).bend) ≤ℤ (constants_at i).ahead
  pub some : pos 0 <ℤ (constants_at (suc i)).part
  pub child_spare : pos 0 ≤ℤ (k *ℤ k *ℤ (constants_at i).part -ℤ N *ℤ N *ℤ (constants_at (suc i)).part)
  pub child : (N *ℤ N *ℤ (constants_at (suc i)).part *ℤ least +ℤ taken (c i)) ≤ℤ (k *ℤ k *ℤ (constants_at i).part *ℤ least)
  pub middle_spare : pos 0 ≤ℤ (pos 2 *ℤ k *ℤ k *ℤ k *ℤ (constants_at i).part -ℤ N *ℤ N *ℤ N *ℤ (constants_at (suc i)).part)
  pub middle : (N *ℤ N *ℤ N *ℤ (constants_at (suc i)).part *ℤ least +ℤ taken_middle (c i)) ≤ℤ (pos 2 *ℤ k *ℤ k *ℤ k *ℤ (constants_at i).part *ℤ least)

shrinks : (i : ℕ) → i < 5 → Shrinks (4 + i)
unfolding constants_at
shrinks zero h = record { A-nn = le_z_yes tt; A-below = lt_z_yes tt; half = le_z_yes tt; two = le_z_yes tt; edge_nn = le_z_yes tt; bent = le_z_yes tt; halved = le_z_yes tt; unlost = refl; behind = le_z_yes tt; ahead = le_z_yes tt; some = lt_z_yes tt; child_spare = le_z_yes tt; child = le_z_yes tt; middle_spare = le_z_yes tt; middle = le_z_yes tt }
shrinks (suc zero) h = record { A-nn = le_z_yes tt; A-below = lt_z_yes tt; half = le_z_yes tt; two = le_z_yes tt; edge_nn = le_z_yes tt; bent = le_z_yes tt; halved = le_z_yes tt; unlost = refl; behind = le_z_yes tt; ahead = le_z_yes tt; some = lt_z_yes tt; child_spare = le_z_yes tt; child = le_z_yes tt; middle_spare = le_z_yes tt; middle = le_z_yes tt }
shrinks (suc (suc zero)) h = record { A-nn = le_z_yes tt; A-below = lt_z_yes tt; half = le_z_yes tt; two = le_z_yes tt; edge_nn = le_z_yes tt; bent = le_z_yes tt; halved = le_z_yes tt; unlost = refl; behind = le_z_yes tt; ahead = le_z_yes tt; some = lt_z_yes tt; child_spare = le_z_yes tt; child = le_z_yes tt; middle_spare = le_z_yes tt; middle = le_z_yes tt }
shrinks (suc (suc (suc zero))) h = record { A-nn = le_z_yes tt; A-below = lt_z_yes tt; half = le_z_yes tt; two = le_z_yes tt; edge_nn = le_z_yes tt; bent = le_z_yes tt; halved = le_z_yes tt; unlost = refl; behind = le_z_yes tt; ahead = le_z_yes tt; some = lt_z_yes tt; child_spare = le_z_yes tt; child = le_z_yes tt; middle_spare = le_z_yes tt; middle = le_z_yes tt }
shrinks (suc (suc (suc (suc zero)))) h = record { A-nn = le_z_yes tt; A-below = lt_z_yes tt; half = le_z_yes tt; two = le_z_yes tt; edge_nn = le_z_yes tt; bent = le_z_yes tt; halved = le_z_yes tt; unlost = refl; behind = le_z_yes tt; ahead = le_z_yes tt; some = lt_z_yes tt; child_spare = le_z_yes tt; child = le_z_yes tt; middle_spare = le_z_yes tt; middle = le_z_yes tt }
shrinks (suc (suc (suc (suc (suc i))))) h = absurd (omega arith)

module _ (i : ℕ) (h : i < 5) (g : ℤ) (large : least ≤ℤ g) where
  abbrev known_shape : Shrinks (4 + i)
  known_shape = shrinks i h

  shaping_of : Shaping k (constants_at (4 + i)).bend (pos (edge_at (4 + i))) (pos (edge_at (suc (4 + i)))) j
  shaping_of = record {
    k_some = le_z_yes tt;
    c'_nn = known_shape.edge_nn;
    j_nn = le_z_yes tt;
    rest = le_z_yes tt;
    A-nn = known_shape.A-nn;
    A-below = known_shape.A-below;
    bent = known_shape.bent;
    halved = known_shape.halved;
  }

  shrinking_of : Shrinking k (pos (edge_at (4 + i))) j D (part_at (4 + i) *ℤ g) (part_at (suc (4 + i)) *ℤ g)
  shrinking_of = record {
    D-nn = le_z_yes tt;
    some = times_positive (constants_at (suc (4 + i))).part least g known_shape.some (lt_z_yes tt) large;
    child = grown_to (N *ℤ N) (k *ℤ k) (constants_at (suc (4 + i))).part (constants_at (4 + i)).part (taken (c (4 + i))) least g large known_shape.child_spare known_shape.child;
    middle = grown_to (N *ℤ N *ℤ N) (pos 2 *ℤ k *ℤ k *ℤ k) (constants_at (suc (4 + i))).part (constants_at (4 + i)).part (taken_middle (c (4 + i))) least g large
        known_shape.middle_spare known_shape.middle;
  }

  pub halving_of : Halving k (constants_at (4 + i)).bend (pos (edge_at (4 + i))) (pos (edge_at (suc (4 + i)))) j D (part_at (4 + i) *ℤ g) (part_at (suc (4 + i)) *ℤ g)
  halving_of = record { shaping = shaping_of; shrinking = shrinking_of; half = known_shape.half; two = known_shape.two }

  -- nothing is lost there, and what is left of the bending is the bending itself
  pub unlost_of : (constants_at (4 + i)).lost ≡ pos 0
  unlost_of = known_shape.unlost

  pub behind_of : (pos 8 *ℤ pos 2) ≤ℤ (constants_at (4 + i)).behind
  behind_of = known_shape.behind

  pub ahead_of : (pos 8 *ℤ (constants_at (4 + i)).bend) ≤ℤ (constants_at (4 + i)).ahead
  ahead_of = known_shape.ahead
