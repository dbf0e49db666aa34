-- The sizes of a prepared halfspace's numbers: f and d are within ±K, D is at most K and G at most K + 4. Assumes nothing.
use Prim.Native.Nat.{ℕ, ◌+◌, ◌^◌, ◌≤◌}
use native.Mathlib.Omega.{arith}
use mathlib.Core.Path.{sym, subst}
use mathlib.Core.Bool.{Bool, true, false, cond}
use lib.Dec.{lit≤}
use lib.IntN.{pos, nat_abs}
use lib.Signed.{non_neg}
use Rattle.algebra.proofs.Sizes.{Upto}
use Rattle.algebra.proofs.Sized.{upto_mono}
use Rattle.vector.specs.declared.Vec3.{Vec3}
use Rattle.vector.specs.Numbers.{Kℕ}
use Rattle.vector.specs.Vectors.{minus}
use Rattle.vector.proofs.Sizes.{Small}
use Rattle.vector.proofs.SizeLaws.{at_most_minus, between_upto}
use Rattle.vector.proofs.VectorLaws.{vector_small}
use Rattle.classify_prepared.specs.declared.PreparedHalfspace.{PreparedHalfspace}
use Rattle.classify.specs.Shape.{DOf, GOf}
use Rattle.classify_prepared.specs.Measures.{SoundHalfspace}

-- n or −n
turned_small : (b : Bool) (n : Vec3) → Small n → Small (cond b n (minus n))
turned_small true n h = h
turned_small false n h = at_most_minus h

-- D and G
pub low_most : {e : ℕ} → e ≤ Kℕ → Upto Kℕ (DOf (pos e))
low_most h = record { le = omega arith }

near_most : {e : ℕ} → e ≤ Kℕ → Upto (Kℕ + 4) (GOf (pos e))
near_most h = record { le = omega arith }

pub high_most : {e : ℕ} → e ≤ Kℕ → Upto (2 ^ 21) (GOf (pos e))
high_most h = upto_mono (lit≤ tt) (near_most h)

-- ---- of a sound halfspace

pub sound_small : {q : PreparedHalfspace} → SoundHalfspace q → Small q.f
sound_small s = subst (λ q. Small q.f) (sym s.is) (turned_small (non_neg s.halfspace.d) s.halfspace.n (vector_small s.halfspace.n s.vector))

pub sound_offset : {q : PreparedHalfspace} → SoundHalfspace q → Upto Kℕ q.d
sound_offset s = subst (λ q. Upto Kℕ q.d) (sym s.is) (between_upto s.halfspace.d s.offset)

pub sound_near : {q : PreparedHalfspace} → SoundHalfspace q → Upto (Kℕ + 4) q.high
sound_near s =
    let e : nat_abs s.halfspace.d ≤ Kℕ = (between_upto s.halfspace.d s.offset).le in
    subst (λ q. Upto (Kℕ + 4) q.high) (sym s.is) (near_most e)

pub sound_high : {q : PreparedHalfspace} → SoundHalfspace q → Upto (2 ^ 21) q.high
sound_high s = upto_mono (lit≤ tt) (sound_near s)
