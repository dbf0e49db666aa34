-- The jump level by level: what is left of the descent from the trixel reached is what it was from the start, and the numbers follow p at that trixel.
-- Assumes nothing.
--   Jumping    after k of n levels from the corners c and the identifier i₀
--   starting, known_at       the start, with what is known of an entry of the table
--   advance_bent, advance_flat   a level whose trixels are known, with their bends; a level from depth 7 on
--   within, not_negative, far_below   no number leaves its type
use Prim.Native.Nat.{ℕ, suc, ◌+◌, ◌-◌, ◌*◌, ◌/◌, ◌%◌, ◌^◌, ◌≤◌, ◌<◌}
use native.Mathlib.Nat.{mul_comm, mul_assoc, pow-suc, pow-le-pow_right}
use native.Mathlib.Numerals.{add-one}
use native.Mathlib.Omega.{arith}
use mathlib.Core.Path.{◌≡◌, refl, sym, ap, subst, ◌∙◌}
use mathlib.Core.List.{[], ◌∷◌}
use lib.Dec.{eqb, lit<, lit≤}
use lib.IntN.{ℤ, pos, nat_abs, ◌+ℤ◌, ◌-ℤ◌, ◌*ℤ◌}
use lib.Signed.{◌≤ℤ◌, le_z_yes}
use Rattle.algebra.proofs.Ring.{con, ◌:+◌, ◌:-◌, ◌:*◌}
use Rattle.algebra.proofs.Claim.{◌:≤◌, hyp, ◌⊕◌, ◌⊗◌, prove}
use Rattle.algebra.proofs.Inequalities.{`0}
use Rattle.algebra.proofs.Order.{nn_pos}
use Rattle.algebra.proofs.Sizes.{Upto}
use Rattle.jump.proofs.JumpConstants.{margin_at}
use Rattle.jump.proofs.JumpStart.{start}
use Rattle.jump.proofs.UnitLaws.{three}
use Rattle.vector.specs.declared.Vec3.{Vec3}
use Rattle.vector.proofs.Sizes.{Small}
use Rattle.mesh.specs.declared.Trixel.{Trixel}
use Rattle.mesh.specs.declared.Corners.{Corners}
use Rattle.mesh.specs.Trixels.{child}
use Rattle.mesh.specs.Lookup.{descend}
use Rattle.mesh_trixels.specs.Corners.{bare}
use Rattle.mesh_bends.specs.declared.Bends.{Bends}
use Rattle.mesh_bends.specs.Bends.{bends_of, bends_below}
use Rattle.mesh_bends.proofs.Known.{Known, facts, below, volume_large, known_bare}
use Rattle.mesh_bends.proofs.Computed.{known_start}
use Rattle.mesh_jump.specs.declared.Numbers.{Numbers}
use Rattle.mesh_jump.specs.declared.BentDigits.{BentDigits}
use Rattle.mesh_jump.specs.Jumps.{less_of, begin_of, Within, NotNegative, Started, unbent, Sure, at0, at1, at2, at3, Entry, along, volume_of, StandsAt, FollowsAt, Following, Jumped, Reached}
use Rattle.mesh_jump.proofs.StartLaws.{pointing, upto_of, sum_most}
use Rattle.mesh_jump.proofs.JumpLaws.{stands_below}
use Rattle.mesh_jump.proofs.JumpPath.{Next, stands_known, next_known, next_flat}

pub record Jumping (p : Vec3) (c : Corners) (n i₀ i k : ℕ) (d : Numbers) : Type 0 where
  pub upto : k ≤ n
  pub room : (b : ℕ) → i₀ < b → i < b * 4 ^ k
  pub left : (m : ℕ) → descend p (k + m) (bare c) i₀ ≡ descend p m (along k i (bare c)) i
  pub following : Following p c k i d

-- ---- the trixel along the digits

along_next : (k i s : ℕ) (t : Trixel) → s < 4 → along (k + 1) (4 * i + s) t ≡ child s (along k i t)
unfolding along
along_next k i s t h =
    let last : (4 * i + s) % 4 ≡ s = omega arith in
    let rest : (4 * i + s) / 4 ≡ i = omega arith in
    ap (λ m. along m (4 * i + s) t) (add-one k) ∙ (λ j. child (last j) (along k (rest j) t))

-- ---- numbers

margin_next : (k : ℕ) → pos 2 *ℤ margin_at k ≡ margin_at (k + 1)
unfolding margin_at
margin_next k =
    let w : 2 ^ (k + 1) ≡ 2 ^ k * 2 = ap (λ m. 2 ^ m) (add-one k) ∙ pow-suc 2 k in
    let e : 2 * (26388279066624 * 2 ^ k) ≡ 26388279066624 * 2 ^ (k + 1) = omega arith in
    ap pos e

margin_upto : (k : ℕ) → k ≤ 9 → Upto (2 ^ 61) (margin_at k)
unfolding margin_at
margin_upto k h =
    let w : 2 ^ k ≤ 2 ^ 9 = pow-le-pow_right {n = 2} (lit< tt) {i = k} {j = 9} h in
    record { le = omega arith }

margin_nn : (k : ℕ) → pos 0 ≤ℤ margin_at k
unfolding margin_at
margin_nn k = nn_pos (26388279066624 * 2 ^ k)

-- a number that is made less is not made more
less_most : (z t a : ℤ) → pos 0 ≤ℤ t → pos 0 ≤ℤ a → (z -ℤ t *ℤ a) ≤ℤ z
less_most = prove 3 (λ z t a. record { given = (`0 :≤ t) ∷ (`0 :≤ a) ∷ []; goal = z :- t :* a :≤ z; cert = hyp 0 ⊗ hyp 1 }) refl

pub record BendsNn (a : Bends) : Type 0 where
  pub a0 : pos 0 ≤ℤ a.a0
  pub a1 : pos 0 ≤ℤ a.a1
  pub a2 : pos 0 ≤ℤ a.a2

lessened : (z a : ℤ) → pos 0 ≤ℤ a → less_of z a ≤ℤ z
lessened z a h = less_most z (pos (nat_abs z / 16777216)) a (nn_pos (nat_abs z / 16777216)) h

corner_sum : (d0 d1 d2 y z S : ℤ) → y ≤ℤ (pos 2 *ℤ d1) → z ≤ℤ (pos 2 *ℤ d2) → (d0 +ℤ d1 +ℤ d2) ≤ℤ S → (d0 -ℤ d1 -ℤ d2 +ℤ y +ℤ z) ≤ℤ S
corner_sum = prove 6
    (λ d0 d1 d2 y z S. record {
      given = (y :≤ con (pos 2) :* d1) ∷ (z :≤ con (pos 2) :* d2) ∷ (d0 :+ d1 :+ d2 :≤ S) ∷ [];
      goal = d0 :- d1 :- d2 :+ y :+ z :≤ S;
      cert = hyp 0 ⊕ hyp 1 ⊕ hyp 2;
    })
    refl

middle_sum : (d0 d1 d2 x y z S : ℤ) → x ≤ℤ (d1 +ℤ d2 -ℤ d0) → y ≤ℤ (d0 +ℤ d2 -ℤ d1) → z ≤ℤ (d0 +ℤ d1 -ℤ d2) → (d0 +ℤ d1 +ℤ d2) ≤ℤ S → (x +ℤ y +ℤ z) ≤ℤ S
middle_sum = prove 7
    (λ d0 d1 d2 x y z S. record {
      given = (x :≤ d1 :+ d2 :- d0) ∷ (y :≤ d0 :+ d2 :- d1) ∷ (z :≤ d0 :+ d1 :- d2) ∷ (d0 :+ d1 :+ d2 :≤ S) ∷ [];
      goal = x :+ y :+ z :≤ S;
      cert = hyp 0 ⊕ hyp 1 ⊕ hyp 2 ⊕ hyp 3;
    })
    refl

turned_sum : (a b c S : ℤ) → (a +ℤ b +ℤ c) ≤ℤ S → (b +ℤ c +ℤ a) ≤ℤ S
turned_sum = prove 4 (λ a b c S. record { given = (a :+ b :+ c :≤ S) ∷ []; goal = b :+ c :+ a :≤ S; cert = hyp 0 }) refl

-- the sum of the numbers does not grow
sum_kept : (d : Numbers) (a : Bends) → BendsNn a → (s : ℕ) (m : Numbers) → Sure d a s m → (S : ℤ) → (d.d0 +ℤ d.d1 +ℤ d.d2) ≤ℤ S → (m.d0 +ℤ m.d1 +ℤ m.d2) ≤ℤ S
sum_kept d a n _ _ (at0 l) S h = corner_sum d.d0 d.d1 d.d2 _ _ S (lessened (pos 2 *ℤ d.d1) a.a2 n.a2) (lessened (pos 2 *ℤ d.d2) a.a1 n.a1) h
sum_kept d a n _ _ (at1 b l) S h = corner_sum d.d1 d.d2 d.d0 _ _ S (lessened (pos 2 *ℤ d.d2) a.a0 n.a0) (lessened (pos 2 *ℤ d.d0) a.a2 n.a2) (turned_sum d.d0 d.d1 d.d2 S h)
sum_kept d a n _ _ (at2 b c l) S h =
    corner_sum d.d2 d.d0 d.d1 _ _ S (lessened (pos 2 *ℤ d.d0) a.a1 n.a1) (lessened (pos 2 *ℤ d.d1) a.a0 n.a0)
    (turned_sum d.d1 d.d2 d.d0 S (turned_sum d.d0 d.d1 d.d2 S h))
sum_kept d a n _ _ (at3 b c l) S h =
    middle_sum d.d0 d.d1 d.d2 _ _ _ S (lessened (d.d1 +ℤ d.d2 -ℤ d.d0) a.a0 n.a0) (lessened (d.d0 +ℤ d.d2 -ℤ d.d1) a.a1 n.a1) (lessened (d.d0 +ℤ d.d1 -ℤ d.d2) a.a2 n.a2) h

-- the margin doubles
margin_doubled : (d : Numbers) (a : Bends) (s : ℕ) (m : Numbers) → Sure d a s m → m.margin ≡ pos 2 *ℤ d.margin
margin_doubled d a _ _ (at0 l) = refl
margin_doubled d a _ _ (at1 b l) = refl
margin_doubled d a _ _ (at2 b c l) = refl
margin_doubled d a _ _ (at3 b c l) = refl

-- each of three numbers that are not below 0 is at most their sum
part_most : (a b c s : ℤ) → (a +ℤ b +ℤ c) ≤ℤ s → pos 0 ≤ℤ a → pos 0 ≤ℤ b → pos 0 ≤ℤ c → (a ≤ℤ s) × (b ≤ℤ s) × (c ≤ℤ s)
part_most a b c s e x y z = (
  prove 4 (λ a b c s. record { given = (a :+ b :+ c :≤ s) ∷ (`0 :≤ b) ∷ (`0 :≤ c) ∷ []; goal = a :≤ s; cert = hyp 0 ⊕ hyp 1 ⊕ hyp 2 }) refl a b c s e y z,
  prove 4 (λ a b c s. record { given = (a :+ b :+ c :≤ s) ∷ (`0 :≤ a) ∷ (`0 :≤ c) ∷ []; goal = b :≤ s; cert = hyp 0 ⊕ hyp 1 ⊕ hyp 2 }) refl a b c s e x z,
  prove 4 (λ a b c s. record { given = (a :+ b :+ c :≤ s) ∷ (`0 :≤ a) ∷ (`0 :≤ b) ∷ []; goal = c :≤ s; cert = hyp 0 ⊕ hyp 1 ⊕ hyp 2 }) refl a b c s e x y,
)

module _ {p : Vec3} {c : Corners} {k i : ℕ} {d : Numbers} (f : Following p c k i d) (h : k ≤ 9) where
  pub within : Within d
  within =
      let g = f.follows in
      let parts = part_most d.d0 d.d1 d.d2 (pos (2 ^ 61)) f.sum g.d0_nn g.d1_nn g.d2_nn in
      record {
        d0 = upto_of (2 ^ 61) d.d0 g.d0_nn parts.0;
        d1 = upto_of (2 ^ 61) d.d1 g.d1_nn parts.1;
        d2 = upto_of (2 ^ 61) d.d2 g.d2_nn parts.2;
        margin = subst (Upto (2 ^ 61)) (sym f.margin) (margin_upto k h);
      }

  pub not_negative : NotNegative d
  not_negative = record { d0 = f.follows.d0_nn; d1 = f.follows.d1_nn; d2 = f.follows.d2_nn; margin = subst (λ z. pos 0 ≤ℤ z) (sym f.margin) (margin_nn k) }

-- ---- the start

known_entry : (c : Corners) → Entry c → Known 0 (bends_of c) (volume_of c) (bare c)
known_entry c e = subst (λ c. Known 0 (bends_of c) (volume_of c) (bare c)) (sym e.is) (known_bare (known_start e.d e.e e.d_low e.e_low))

pub known_at : (c : Corners) (i : ℕ) → Entry c → Known 0 (bends_of c) (volume_of c) (along 0 i (bare c))
unfolding along
known_at c i e = known_entry c e

pub starting : (p : Vec3) (c : Corners) → Entry c → (n₀ : Numbers) → n₀ ≡ begin_of p c → Started p n₀ → (n i : ℕ) → Jumping p c n i i 0 n₀
unfolding along margin_at
starting p c e n₀ is s n i =
    let known = known_entry c e in
    let t = stands_known 0 (lit≤ tt) (facts known (lit≤ tt)) in
    let pt = pointing p s.vector in
    let begun = subst (Started p) is s in
    record {
      upto = omega arith;
      room = λ b h. omega arith;
      left = λ m. let e : 0 + m ≡ m = omega arith in ap (λ u. descend p u (bare c) i) e;
      following = subst (Following p c 0 i) (sym is) (record {
        vector = s.vector;
        large = volume_large known;
        follows = start (three c.v0) (three c.v1) (three c.v2) (three p) t.shape.corner0 t.shape.corner1 t.shape.corner2 pt (volume_large known) begun.d0 begun.d1 begun.d2;
        stands = t;
        sum = sum_most (three c.v0) (three c.v1) (three c.v2) (three p) t.shape pt;
        margin = refl;
      });
    }

-- ---- one level

module _ (p : Vec3) (c : Corners) (small : Small p) (n i₀ i k : ℕ) (d : Numbers) (j : Jumping p c n i₀ i k d) (most : n ≤ 9) where
  abbrev x : Trixel
  x = along k i (bare c)

  advance : k < n → (a : Bends) → BendsNn a → (s : ℕ) (m : Numbers) → Sure d a s m → Next (volume_of c) p k x s m → StandsAt (suc k) (volume_of c) (child s x)
      → Jumping p c n i₀ (4 * i + s) (k + 1) m
  unfolding descend
  advance h a nn s m sure t stands =
      let q : along (k + 1) (4 * i + s) (bare c) ≡ child s x = along_next k i s (bare c) t.low in
      let w : 4 ^ (k + 1) ≡ 4 ^ k * 4 = ap (λ m. 4 ^ m) (add-one k) ∙ pow-suc 4 k in
      let g = j.following in
      let reached : Following p c (suc k) (4 * i + s) m = record {
        vector = g.vector;
        large = g.large;
        follows = subst (λ x. FollowsAt (suc k) (volume_of c) p x m.d0 m.d1 m.d2) (sym (sym (ap (λ u. along u (4 * i + s) (bare c)) (add-one k)) ∙ q)) t.follows;
        stands = subst (StandsAt (suc k) (volume_of c)) (sym (sym (ap (λ u. along u (4 * i + s) (bare c)) (add-one k)) ∙ q)) stands;
        sum = sum_kept d a nn s m sure (pos (2 ^ 61)) g.sum;
        margin = margin_doubled d a s m sure ∙ ap (λ z. pos 2 *ℤ z) g.margin ∙ margin_next k ∙ ap margin_at (add-one k);
      } in
      record {
        upto = omega arith;
        room = λ b l. let x : b * 4 ^ (k + 1) ≡ 4 * (b * 4 ^ k) = ap (λ z. b * z) w ∙ sym (mul_assoc b (4 ^ k) 4) ∙ mul_comm (b * 4 ^ k) 4 in omega (arith, j.room b l, t.low);
        left = λ l.
            let one : k + 1 + l ≡ k + suc l = omega arith in
            ap (λ u. descend p u (bare c) i₀) one
            ∙ j.left (suc l)
            ∙ ap (λ u. descend p l (child u x) (4 * i + u)) t.is
            ∙ ap (λ x. descend p l x (4 * i + s)) (sym q);
        following = subst (λ u. Following p c u (4 * i + s) m) (sym (add-one k)) reached;
      }

  pub advance_bent : k < n → k < 4 → (a : Bends) → Known k a (volume_of c) x → (s : ℕ) (m : Numbers) → Sure d a s m
      → Jumping p c n i₀ (4 * i + s) (k + 1) m × Known (k + 1) (bends_below (eqb k 0) s a) (volume_of c) (along (k + 1) (4 * i + s) (bare c))
  advance_bent h l a known s m sure =
      let g = j.following in
      let t = next_known k l (volume_of c) p small (pointing p g.vector) x a known d g.margin g.follows s m sure in
      let fit = facts known (omega arith) in
      let under = below known l s t.low in (
        advance h a (record { a0 = fit.fit0.least; a1 = fit.fit1.least; a2 = fit.fit2.least }) s m sure t (stands_known (suc k) (omega arith) (facts under (omega arith))),
        subst (Known (k + 1) (bends_below (eqb k 0) s a) (volume_of c)) (sym (along_next k i s (bare c) t.low)) (subst (λ u. Known u (bends_below (eqb k 0) s a) (volume_of c) (child s x)) (sym (add-one k)) under),
      )

  pub advance_flat : k < n → 4 ≤ k → (s : ℕ) (m : Numbers) → Sure d unbent s m → Jumping p c n i₀ (4 * i + s) (k + 1) m
  advance_flat h l s m sure =
      let e : 4 + (k - 4) ≡ k = omega arith in
      let g = j.following in
      let five : k - 4 < 5 = omega arith in
      let stands = subst (λ u. StandsAt u (volume_of c) x) (sym e) g.stands in
      let t = next_flat (k - 4) five (volume_of c) g.large p small (pointing p g.vector) x stands d (g.margin ∙ ap margin_at (sym e))
      (subst (λ u. FollowsAt u (volume_of c) p x d.d0 d.d1 d.d2) (sym e) g.follows) s m sure in
      advance h unbent (record { a0 = le_z_yes tt; a1 = le_z_yes tt; a2 = le_z_yes tt }) s m sure
      (subst (λ u. Next (volume_of c) p u x s m) e t)
      (subst (λ u. StandsAt (suc u) (volume_of c) (child s x)) e (stands_below (k - 4) five (volume_of c) g.large x stands s t.low))

  pub jumped : Jumped p c i₀ n (record { count = k; id = i })
  jumped = record { upto = j.upto; room = j.room; goes_on = j.left }

  -- far below 2⁶⁴
  pub far_below : i₀ < 2 ^ 40 → i < 2 ^ 58
  far_below h =
      let w : 4 ^ k ≤ 4 ^ 9 = pow-le-pow_right {n = 4} (lit< tt) {i = k} {j = 9} (omega (arith, j.upto)) in
      let r : i < 2 ^ 40 * 4 ^ k = j.room (2 ^ 40) h in
      omega arith

-- after the bent levels
pub reached : {p : Vec3} {c : Corners} {n i₀ : ℕ} (r : BentDigits) → Reached p c i₀ n r → 4 ≤ r.sure.count → Jumping p c n i₀ r.sure.id r.sure.count r.numbers
reached {p} {c} r h four =
    let e : r.sure.count ≡ 4 = omega (arith, h.most) in
    record {
      upto = h.jumped.upto;
      room = h.jumped.room;
      left = h.jumped.goes_on;
      following = subst (λ k. Following p c k r.sure.id r.numbers) (sym e) (h.following e);
    }

-- no digit
pub none : (p : Vec3) (c : Corners) (i n : ℕ) → Jumped p c i n (record { count = 0; id = i })
unfolding along
none p c i n = record { upto = omega arith; room = λ b h. omega arith; goes_on = λ m. let e : 0 + m ≡ m = omega arith in ap (λ u. descend p u (bare c) i) e }

-- ---- the corners along the digits

pub along_none : (n i : ℕ) (t : Trixel) → n ≡ 0 → t ≡ along n i t
unfolding along
along_none n i t e = ap (λ m. along m i t) (sym e)

pub along_child : (n i : ℕ) (t : Trixel) → (n ≡ 0 → ⊥) → child (i % 4) (along (n - 1) (i / 4) t) ≡ along n i t
unfolding along
along_child n i t f = let s : suc (n - 1) ≡ n = omega arith in ap (λ m. along m i t) s
