-- The descent level by level: what is left of it from the trixel reached is what it was from the start. A jump's sure digits are the first of it. Assumes
-- nothing.
use Prim.Native.Nat.{ℕ, suc, ◌+◌, ◌-◌, ◌*◌, ◌^◌, ◌≤◌, ◌<◌}
use native.Mathlib.Nat.{mul_comm, mul_assoc, pow-suc, pow-le-pow_right}
use native.Mathlib.Numerals.{add-one}
use native.Mathlib.Omega.{arith}
use mathlib.Core.Path.{◌≡◌, sym, ap, subst, ◌∙◌}
use lib.Dec.{lit<}
use Rattle.vector.specs.declared.Vec3.{Vec3}
use Rattle.mesh.specs.declared.Corners.{Corners}
use Rattle.mesh.specs.Trixels.{child}
use Rattle.mesh.specs.Lookup.{digit, descend}
use Rattle.mesh.specs.Rotations.{turned}
use Rattle.mesh_trixels.specs.Corners.{bare, SmallCorners}
use Rattle.mesh_trixels.proofs.CornerLaws.{descend_corners}
use Rattle.mesh_jump.specs.declared.SureDigits.{SureDigits}
use Rattle.mesh_jump.specs.Jumps.{along, Jumped}
use Rattle.mesh_lookup.specs.declared.Child.{Child}
use Rattle.mesh_lookup.specs.LookupSteps.{ChildStep, Descent, turned_corners}
use Rattle.mesh_lookup.proofs.TurnedLaws.{turned_descent, turned_along}

-- after k levels from the corners c₀ and the identifier i₀
pub record Descending (p : Vec3) (c₀ : Corners) (i₀ : ℕ) (c : Corners) (i k : ℕ) : Type 0 where
  pub room : (b : ℕ) → i₀ < b → i < b * 4 ^ k
  pub small : SmallCorners c
  pub left : (m : ℕ) → descend p m (bare c) i ≡ descend p (k + m) (bare c₀) i₀

one_level : (p : Vec3) (m : ℕ) (c : Corners) (i : ℕ) (s : Child) → ChildStep p c s → descend p m (bare s.corners) (4 * i + s.digit) ≡ descend p (suc m) (bare c) i
unfolding descend
one_level p m c i s h =
    descend_corners p m (bare s.corners) (child (digit p (bare c)) (bare c)) (4 * i + s.digit) h.child
    ∙ ap (λ d. descend p m (child (digit p (bare c)) (bare c)) (4 * i + d)) h.is

module _ (p : Vec3) (c₀ : Corners) (i₀ : ℕ) (c : Corners) (i k : ℕ) (d : Descending p c₀ i₀ c i k) where
  pub next : (s : Child) → ChildStep p c s → Descending p c₀ i₀ s.corners (4 * i + s.digit) (k + 1)
  next s t =
      let w : 4 ^ (k + 1) ≡ 4 ^ k * 4 = ap (λ m. 4 ^ m) (add-one k) ∙ pow-suc 4 k in
      record {
        room = λ b h.
            let x : b * 4 ^ (k + 1) ≡ 4 * (b * 4 ^ k) = ap (λ z. b * z) w ∙ sym (mul_assoc b (4 ^ k) 4) ∙ mul_comm (b * 4 ^ k) 4 in
            omega (arith, d.room b h, t.low);
        small = t.small;
        left = λ m.
            let e : k + suc m ≡ k + 1 + m = omega arith in
            one_level p m c i s t ∙ d.left (suc m) ∙ ap (λ l. descend p l (bare c₀) i₀) e;
      }

  -- eleven levels below an identifier of 40 bits it is far below 2⁶⁴
  pub far_below : i₀ < 2 ^ 40 → k ≤ 11 → i < 4611686018427387904
  far_below l h =
      let w : 4 ^ k ≤ 4 ^ 11 = pow-le-pow_right {n = 4} (lit< tt) {i = k} {j = 11} h in
      let r : i < 1099511627776 * 4 ^ k = d.room 1099511627776 l in
      omega arith

  pub end : (n : ℕ) → n ≡ k → Descent p c₀ i₀ n (record { id = i; corners = c })
  unfolding descend
  end n e =
      let z : k + 0 ≡ n = omega arith in
      record {
        is = d.left 0 ∙ ap (λ l. descend p l (bare c₀) i₀) z;
        goes_on = λ m. d.left m ∙ ap (λ l. descend p (l + m) (bare c₀) i₀) (sym e);
        small = d.small;
        room = subst (λ l. (b : ℕ) → i₀ < b → i < b * 4 ^ l) (sym e) d.room;
      }

-- ---- below the table: the sure digits, and those that are left

module _ (r : ℕ) (h : r < 8) (p q : Vec3) (back : turned r q ≡ p) (c : Corners) (i n : ℕ) (s : SureDigits) (j : Jumped q c i n s) where
  pub all_sure : s.count ≡ n → s.id ≡ descend p n (bare (turned_corners r c)) i
  unfolding descend
  all_sure e =
      let z : s.count + 0 ≡ n = omega arith in
      sym (j.goes_on 0) ∙ ap (λ l. descend q l (bare c) i) z ∙ sym (turned_descent r h p q back n i c)

  pub some_left : descend p (n - s.count) (along s.count s.id (bare (turned_corners r c))) s.id ≡ descend p n (bare (turned_corners r c)) i
  some_left =
      let z : s.count + (n - s.count) ≡ n = omega (arith, j.upto) in
      turned_along r h p q back (n - s.count) s.count s.id s.id c
      ∙ sym (j.goes_on (n - s.count))
      ∙ ap (λ l. descend q l (bare c) i) z
      ∙ sym (turned_descent r h p q back n i c)

  pub sure_below : i < 256 → n ≤ 9 → s.id < 2 ^ 40
  sure_below h l =
      let w : 4 ^ s.count ≤ 4 ^ 9 = pow-le-pow_right {n = 4} (lit< tt) {i = s.count} {j = 9} (omega (arith, j.upto)) in
      let b : s.id < 256 * 4 ^ s.count = j.room 256 h in
      omega arith
