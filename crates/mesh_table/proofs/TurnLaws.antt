-- A rotation undone: each sign taken twice is none, and so is the swapping. And signs of numbers that are handed on by their bits.
-- Assumes nothing.
use mathlib.Core.Path.{◌≡◌, refl, sym, ap, subst, ◌∙◌}
use mathlib.Core.Bool.{Bool, true, false, cond}
use lib.IntN.{ℤ, neg_ℤ-neg_ℤ}
use mir.Syntax.{w64}
use mir.Val.{to_z, of_z}
use Rattle.algebra.proofs.Sizes.{Upto}
use Rattle.algebra.proofs.Sized.{held}
use Rattle.vector.specs.Numbers.{Kℕ}
use Rattle.vector.specs.declared.Vec3.{Vec3}
use Rattle.vector.specs.Vectors.{vec}
use Rattle.vector.proofs.Sizes.{Small}
use Rattle.mesh.specs.declared.Rotation.{Rotation}
use Rattle.mesh.specs.Rotations.{negated_if, turned_by}

twice : (b : Bool) (a : ℤ) → negated_if b (negated_if b a) ≡ a
twice true a = neg_ℤ-neg_ℤ a
twice false a = refl

swapped_back : (s : Bool) (a b : ℤ) → (cond s (cond s a b) (cond s b a) ≡ a)
swapped_back true a b = refl
swapped_back false a b = refl

-- x and y swapped where s says so
abbrev pub swapped_by : Bool → Vec3 → Vec3
swapped_by s a = vec (cond s a.y a.x) (cond s a.x a.y) a.z

abbrev pub signed_by : Rotation → Vec3 → Vec3
signed_by k a = vec (negated_if k.x a.x) (negated_if k.y a.y) (negated_if k.z a.z)

-- the signs first, then the swapping
pub turned_there : (k : Rotation) (p : Vec3) → turned_by k (swapped_by k.swaps (signed_by k p)) ≡ p
turned_there k p =
    let x = negated_if k.x p.x in
    let y = negated_if k.y p.y in
    let z = negated_if k.z p.z in
    (λ j. vec (negated_if k.x (swapped_back k.swaps x y j)) (negated_if k.y (swapped_back k.swaps y x j)) (negated_if k.z z))
    ∙ (λ j. vec (twice k.x p.x j) (twice k.y p.y j) (twice k.z p.z j))

-- ---- by their bits

abbrev bits : ℤ → ℤ
bits z = to_z w64 (of_z w64 z)

pub sign : (b : Bool) {n m r : ℤ} → Upto Kℕ n → r ≡ negated_if b (bits n) → n ≡ m → r ≡ negated_if b m
sign b h e is = e ∙ ap (negated_if b) ((held h tt).eq ∙ is)

pub built : {x y z : ℤ} {v : Vec3} → Upto Kℕ x → Upto Kℕ y → Upto Kℕ z → vec x y z ≡ v
    → (vec (bits x) (bits y) (bits z) ≡ v) × Small (vec (bits x) (bits y) (bits z))
built {x} {y} {z} hx hy hz e =
    let same : vec (bits x) (bits y) (bits z) ≡ vec x y z = λ j. vec ((held hx tt).eq j) ((held hy tt).eq j) ((held hz tt).eq j) in
    (same ∙ e, subst Small (sym same) (record { x = hx; y = hy; z = hz }))
