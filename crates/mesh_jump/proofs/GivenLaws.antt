-- What is known where the numbers give a child. Assumes nothing.
--   above_0 .. above_2, below-all   which sides of the cuts the place is on
--   cornered    the numbers at a corner, the bends as their bits have them
--   sure_0 .. sure_3   the numbers of that child
use Prim.Native.Nat.{ℕ, ◌^◌, ◌<◌}
use native.Mathlib.Omega.{arith}
use mathlib.Core.List.{[], ◌∷◌}
use mathlib.Core.Path.{◌≡◌, refl, sym, subst}
use lib.IntN.{ℤ, pos, neg_ℤ, ◌+ℤ◌, ◌-ℤ◌}
use lib.Signed.{◌≤ℤ◌, ◌<ℤ◌}
use mir.Syntax.{w64}
use mir.Val.{to_z, of_z}
use Rattle.std.specs.Prelude.{Some}
use Rattle.algebra.proofs.Ring.{◌:+◌, ◌:-◌, :neg}
use Rattle.algebra.proofs.Claim.{◌:≤◌, ◌:<◌, nat, hyp, ◌⊕◌, prove}
use Rattle.algebra.proofs.Inequalities.{`0}
use Rattle.algebra.proofs.Sizes.{Upto}
use Rattle.algebra.proofs.Sized.{held}
use Rattle.mesh_bends.specs.declared.Bends.{Bends}
use Rattle.mesh_jump.specs.declared.Numbers.{Numbers}
use Rattle.mesh_jump.specs.Jumps.{Below, turned_of, at_corner, InMiddle, in_middle, Given, given0, given1, given2, given3, Sure, at0, at1, at2, at3}

pub cornered : {m : Numbers} {b c : ℤ} (n : Numbers) → n ≡ m → Upto (2 ^ 20) b → Upto (2 ^ 20) c → at_corner n (to_z w64 (of_z w64 b)) (to_z w64 (of_z w64 c)) ≡ at_corner m b c
cornered n e p q = λ i. at_corner (e i) ((held p tt).eq i) ((held q tt).eq i)

-- below all three cuts
middle : (n : Numbers) → pos 0 ≤ℤ n.margin → Below n → Below (turned_of n) → Below (turned_of (turned_of n)) → InMiddle n
middle n h a b c = record {
  at0 = first n.margin n.d0 n.d1 n.d2 h a;
  at1 = second n.margin n.d1 n.d2 n.d0 h b;
  at2 = first n.margin n.d2 n.d0 n.d1 h c;
}
  where
    first : (m a b c : ℤ) → pos 0 ≤ℤ m → m <ℤ neg_ℤ (a -ℤ b -ℤ c) → pos 0 ≤ℤ (b +ℤ c -ℤ a)
    first = prove 4 (λ m a b c. record { given = (`0 :≤ m) ∷ (m :< :neg (a :- b :- c)) ∷ []; goal = `0 :≤ b :+ c :- a; cert = hyp 0 ⊕ hyp 1 ⊕ nat 1 }) refl

    second : (m a b c : ℤ) → pos 0 ≤ℤ m → m <ℤ neg_ℤ (a -ℤ b -ℤ c) → pos 0 ≤ℤ (c +ℤ b -ℤ a)
    second = prove 4 (λ m a b c. record { given = (`0 :≤ m) ∷ (m :< :neg (a :- b :- c)) ∷ []; goal = `0 :≤ c :+ b :- a; cert = hyp 0 ⊕ hyp 1 ⊕ nat 1 }) refl

module _ (n : Numbers) (a : Bends) (m : Numbers) where
  pub sure_0 : (k : ℕ) → Given n (Some k) → k ≡ 0 → m ≡ at_corner n a.a2 a.a1 → Sure n a k m
  sure_0 _ (given0 l) e h = subst (Sure n a 0) (sym h) (at0 l)
  sure_0 _ (given1 b l) e h = absurd (omega (arith, e))
  sure_0 _ (given2 b c l) e h = absurd (omega (arith, e))
  sure_0 _ (given3 b c l) e h = absurd (omega (arith, e))

  pub sure_1 : (k : ℕ) → Given n (Some k) → k ≡ 1 → m ≡ at_corner (turned_of n) a.a0 a.a2 → Sure n a k m
  sure_1 _ (given0 l) e h = absurd (omega (arith, e))
  sure_1 _ (given1 b l) e h = subst (Sure n a 1) (sym h) (at1 b l)
  sure_1 _ (given2 b c l) e h = absurd (omega (arith, e))
  sure_1 _ (given3 b c l) e h = absurd (omega (arith, e))

  pub sure_2 : (k : ℕ) → Given n (Some k) → k ≡ 2 → m ≡ at_corner (turned_of (turned_of n)) a.a1 a.a0 → Sure n a k m
  sure_2 _ (given0 l) e h = absurd (omega (arith, e))
  sure_2 _ (given1 b l) e h = absurd (omega (arith, e))
  sure_2 _ (given2 b c l) e h = subst (Sure n a 2) (sym h) (at2 b c l)
  sure_2 _ (given3 b c l) e h = absurd (omega (arith, e))

  pub sure_3 : (k : ℕ) → Given n (Some k) → k ≡ 3 → m ≡ in_middle n a → Sure n a k m
  sure_3 _ (given0 l) e h = absurd (omega (arith, e))
  sure_3 _ (given1 b l) e h = absurd (omega (arith, e))
  sure_3 _ (given2 b c l) e h = absurd (omega (arith, e))
  sure_3 _ (given3 b c l) e h = subst (Sure n a 3) (sym h) (at3 b c l)

pub in_the_middle : (n : Numbers) → pos 0 ≤ℤ n.margin → (k : ℕ) → Given n (Some k) → k ≡ 3 → InMiddle n
in_the_middle n h _ (given0 l) e = absurd (omega (arith, e))
in_the_middle n h _ (given1 b l) e = absurd (omega (arith, e))
in_the_middle n h _ (given2 b c l) e = absurd (omega (arith, e))
in_the_middle n h _ (given3 b c l) e = middle n h b c l

pub given_low : {n : Numbers} {k : ℕ} → Given n (Some k) → k < 4
given_low (given0 l) = omega arith
given_low (given1 b l) = omega arith
given_low (given2 b c l) = omega arith
given_low (given3 b c l) = omega arith
