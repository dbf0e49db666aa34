-- Identifiers that the lookup gives: each step of the descent adds a digit, so what lies n levels below i is from i times 4^n to under (i + 1) times 4^n, an
-- identifier divided by 4^n is the one n levels above, and an identifier to depth 12 is below 2^26. What is looked up is a vector, at a depth from 1 to 12. Assumes nothing.
use Prim.Native.Nat.{ℕ, zero, suc, ◌+◌, ◌-◌, ◌*◌, ◌/◌, ◌^◌, ◌≤◌, ◌<◌}
use native.Mathlib.Nat.{pow-suc, pow-le-pow_right, mul-le-mul, mul-le-mul_right, div-eq_of_lt-le}
use native.Mathlib.Omega.{arith}
use mathlib.Core.Path.{◌≡◌, refl, ap, ◌∙◌}
use mathlib.Core.Bool.{Bool, true, false, cond}
use lib.Dec.{lit<}
use lib.IntN.{pos, nat_abs}
use Rattle.algebra.proofs.Ring.{con, ◌:+◌, ◌:*◌}
use Rattle.algebra.proofs.Claim.{◌:≡◌, ring}
use Rattle.algebra.proofs.Inequalities.{`1}
use Rattle.answer.specs.Answer.{gives, check, Depth, Vector}
use Rattle.answer.proofs.AnswerLaws.{check_passed, check_gives, same_value}
use Rattle.vector.specs.declared.Vec3.{Vec3}
use Rattle.vector.specs.Numbers.{is_depth}
use Rattle.vector.specs.Vectors.{is_vector}
use Rattle.vector.proofs.DepthLaws.{depth_range}
use Rattle.mesh.specs.declared.Trixel.{Trixel}
use Rattle.mesh.specs.Trixels.{child, root_trixel}
use Rattle.mesh.specs.Lookup.{not_negative, north_root, south_root, root_number, digit, descend, identifier, lookup}
use Rattle.mesh.proofs.Path.{digit_small}

-- ---- the digits and the descent

pub four_low : (i n : ℕ) → i * 4 ^ suc n ≡ 4 * i * 4 ^ n
four_low i n = ap (λ x. i * x) (pow-suc 4 n) ∙ ap nat_abs (ring 2 (λ i q. i :* (q :* con (pos 4)) :≡ con (pos 4) :* i :* q) refl (pos i) (pos (4 ^ n)))

pub four_high : (i n : ℕ) → (i + 1) * 4 ^ suc n ≡ (4 * i + 4) * 4 ^ n
four_high i n = ap (λ x. (i + 1) * x) (pow-suc 4 n) ∙ ap nat_abs (ring 2 (λ i q. (i :+ `1) :* (q :* con (pos 4)) :≡ (con (pos 4) :* i :+ con (pos 4)) :* q) refl (pos i) (pos (4 ^ n)))

small_root : (z y x : Bool) → cond z (north_root x y) (south_root x y) < 8
small_root true true true = lit< tt
small_root true true false = lit< tt
small_root true false true = lit< tt
small_root true false false = lit< tt
small_root false true true = lit< tt
small_root false true false = lit< tt
small_root false false true = lit< tt
small_root false false false = lit< tt

pub root_small : (p : Vec3) → root_number p < 8
unfolding root_number
root_small p = small_root (not_negative p.z) (not_negative p.y) (not_negative p.x)

pub descend_high : (p : Vec3) (n : ℕ) (t : Trixel) (i : ℕ) → descend p n t i < (i + 1) * 4 ^ n
unfolding descend
descend_high p zero t i = omega arith
descend_high p (suc n) t i =
    let e = four_high i n in
    let d = digit_small p t in
    let m : (4 * i + digit p t + 1) * 4 ^ n ≤ (4 * i + 4) * 4 ^ n = mul-le-mul_right (4 ^ n) (omega arith) in
    omega (arith, descend_high p n (child (digit p t) t) (4 * i + digit p t))

pub descend_low : (p : Vec3) (n : ℕ) (t : Trixel) (i : ℕ) → i * 4 ^ n ≤ descend p n t i
unfolding descend
descend_low p zero t i = omega arith
descend_low p (suc n) t i =
    let e = four_low i n in
    let m : 4 * i * 4 ^ n ≤ (4 * i + digit p t) * 4 ^ n = mul-le-mul_right (4 ^ n) (omega arith) in
    omega (arith, descend_low p n (child (digit p t) t) (4 * i + digit p t))

-- n levels and then m more: below the trixel that the first n lead to
descend_more : (p : Vec3) (n m : ℕ) (t : Trixel) (i : ℕ) → (s : Trixel) × (descend p (n + m) t i ≡ descend p m s (descend p n t i))
unfolding descend
descend_more p zero m t i = let e : 0 + m ≡ m = omega arith in (t, ap (λ k. descend p k t i) e)
descend_more p (suc n) m t i =
    let e : suc n + m ≡ suc (n + m) = omega arith in
    let r = descend_more p n m (child (digit p t) t) (4 * i + digit p t) in
    (r.0, ap (λ k. descend p k t i) e ∙ r.1)

-- the identifier at a lesser depth: the one at depth 12 without its last digits
pub shorter : (p : Vec3) (d : ℕ) → 1 ≤ d → d ≤ 12 → identifier p 12 / 4 ^ (12 - d) ≡ identifier p d
unfolding identifier
shorter p d l h =
    let t = root_trixel (root_number p) in
    let i = 8 + root_number p in
    let j = descend p (d - 1) t i in
    let r = descend_more p (d - 1) (12 - d) t i in
    let e : 12 - 1 ≡ d - 1 + (12 - d) = omega arith in
    ap (λ k. descend p k t i / 4 ^ (12 - d)) e ∙ ap (λ k. k / 4 ^ (12 - d)) r.1
    ∙ div-eq_of_lt-le (4 ^ (12 - d)) (descend_low p (12 - d) r.0 j) (descend_high p (12 - d) r.0 j)

pub identifier_small : (p : Vec3) (d : ℕ) → d ≤ 12 → identifier p d < 2 ^ 26
unfolding identifier
identifier_small p d h =
    let w : 4 ^ (d - 1) ≤ 4 ^ 11 = pow-le-pow_right {n = 4} (lit< tt) {i = d - 1} {j = 11} (omega arith) in
    let n = root_number p in
    let r : 8 + n + 1 ≤ 16 = omega (arith, root_small p) in
    let m : (8 + n + 1) * 4 ^ (d - 1) ≤ 16 * 4 ^ 11 = mul-le-mul r w in
    omega (arith, descend_high p (d - 1) (root_trixel n) (8 + n))

-- ---- what the lookup answers

-- what is looked up is a vector, at a depth from 1 to 12
pub lookup_is : (v : Vec3) (d i : ℕ) → lookup v d ≡ gives i → (is_vector v ≡ true) × (d ≤ 12) × (identifier v d ≡ i)
unfolding lookup
lookup_is v d i e =
    let found = gives (identifier v d) in
    let checked = check_gives Depth (is_depth d) (check Vector (is_vector v) found) i e in
    let deep = check_passed Depth (is_depth d) (check Vector (is_vector v) found) i e in
    (check_passed Vector (is_vector v) found i checked, (depth_range d deep).1, same_value (identifier v d) i (check_gives Vector (is_vector v) found i checked))
