-- Whether f is far from the bounding cap of a trixel, without E. Document 01, 'Classifying': `far` of classify/specs/Shape holds from some number on, and
-- E is the greatest number that is reached. So f is far where the least number at which it is far is reached (proofs/LeastFarLaws).
--   far_by D p c B n     D·n − c > 0 and p (B − n²) < (D·n − c)²: with p = f·f − D², c = f·b and B = b·b it is `far` at n
--   FarBounds D p c B    how large these numbers are: D is at most K, and it, p and B have no sign
--   LeastFar ..         n is the least number at which f is far, and at most K
use Rattle.std.specs.Prelude.{ℕ, ◌*◌, ◌^◌, ◌≤ℤ◌, ◌≤◌, ◌<◌, ◌≡◌, Bool, true, false, ◌&&◌, ℤ, pos, ◌-ℤ◌, ◌*ℤ◌}
use Rattle.std.specs.Int.Signed.{lt_z}
use Rattle.algebra.proofs.Sizes.{Upto}
use Rattle.vector.specs.Numbers.{Kℕ}
use Rattle.classify.specs.Shape.{square, positive}
use Rattle.classify_prepared.specs.Measures.{Rest}

unfoldable pub far_by : ℤ → ℤ → ℤ → ℤ → ℕ → Bool
far_by D p c B n = positive (D *ℤ pos n -ℤ c) && lt_z (p *ℤ (B -ℤ square (pos n))) (square (D *ℤ pos n -ℤ c))

pub record FarBounds (D p c B : ℤ) : Type 0 where
  pub low : Upto Kℕ D
  pub sign : pos 0 ≤ℤ D
  pub rest : Rest p
  pub along : Upto (3 * 2 ^ 40) c
  pub square : Rest B

pub record LeastFar (D p c B : ℤ) (n : ℕ) : Type 0 where
  pub most : n ≤ Kℕ
  pub far : far_by D p c B n ≡ true
  pub below : (m : ℕ) → m < n → far_by D p c B m ≡ false
