-- The table of depth 3 as a lookup reads it: an entry of a root is that of S0, turned, and a rotation keeps dot products, so that the tests of a pointing
-- may be made in S0 with the pointing turned back. The cuts of S0 stand in the table, turned round, as the normals of its middle child: two of them in that
-- child's first child, the other in its second. Those of a trixel of depth 2 are the normals of its own middle child. Assumes nothing.
use Prim.Native.Nat.{ℕ, zero, suc, ◌+◌, ◌*◌, ◌/◌, ◌%◌, ◌-◌, ◌<◌}
use native.Mathlib.Omega.{arith}
use mathlib.Core.Path.{◌≡◌, refl, sym, ap, ◌∙◌}
use mathlib.Core.Bool.{cond}
use lib.Dec.{lit<}
use borrow.Author.Tests.{le-leb, lt-leb}
use lib.IntN.{ℤ, pos, negsuc, neg_ℤ}
use lib.Signed.{le_z}
use Rattle.vector.specs.declared.Vec3.{Vec3}
use Rattle.vector.specs.Vectors.{minus, dot}
use Rattle.vector.proofs.VectorLaws.{dot_minus}
use Rattle.mesh.specs.declared.Trixel.{Trixel}
use Rattle.mesh.specs.Trixels.{root_trixel, cut, child}
use Rattle.mesh.specs.Identifiers.{trixel}
use Rattle.mesh.specs.Lookup.{not_negative, digit, descend}
use Rattle.mesh.specs.declared.Corners.{Corners}
use Rattle.mesh.specs.Rotations.{rotation, turned, turned_trixel}
use Rattle.mesh.proofs.Path.{child_trixel}
use Rattle.mesh.proofs.RotationLaws.{turned_rotates}
use Rattle.mesh.proofs.Rotated.{rotated}
use Rattle.mesh_table.specs.Table.{part_of, vector_at}
use Rattle.mesh_trixels.specs.Corners.{triple_of, bare}
use Rattle.mesh_trixels.proofs.CornerLaws.{descend_corners}
use Rattle.mesh_jump.specs.Jumps.{entry_trixel, Entry}
use Rattle.mesh_lookup.specs.LookupSteps.{digit_by, turned_corners}

-- ---- entry e of child d of the root r is that of S0, turned

part_turned : (r a : ℕ) (t : Trixel) → a < 6 → turned r (part_of a t) ≡ part_of a (turned_trixel r t)
part_turned r zero t l = refl
part_turned r (suc zero) t l = refl
part_turned r (suc (suc zero)) t l = refl
part_turned r (suc (suc (suc zero))) t l = refl
part_turned r (suc (suc (suc (suc zero)))) t l = refl
part_turned r (suc (suc (suc (suc (suc zero))))) t l = refl
part_turned r (suc (suc (suc (suc (suc (suc a)))))) t l = absurd (omega arith)

sixth : (m a n : ℕ) → a < 6 → n ≡ 6 * m + a → (n / 6 ≡ m) × (n % 6 ≡ a)
sixth m a n h e = (omega arith, omega arith)

below_root : (r d e : ℕ) → d < 4 → e < 4 → trixel 2 ((8 + r) * 16 + (4 * d + e)) ≡ child e (child d (root_trixel r))
unfolding trixel
below_root r d e hd he =
    let i : (8 + r) * 16 + (4 * d + e) ≡ 4 * (4 * (8 + r) + d) + e = omega arith in
    let z : 8 + r - 8 ≡ r = omega arith in
    ap (trixel 2) i ∙ child_trixel 1 (4 * (8 + r) + d) e he ∙ ap (child e) (child_trixel 0 (8 + r) d hd) ∙ ap (λ k. child e (child d (root_trixel k))) z

module _ (r : ℕ) (h : r < 8) where
  pub entry : (d e a n : ℕ) → d < 4 → e < 4 → a < 6 → n ≡ 24 * d + 6 * e + a → turned r (vector_at n) ≡ part_of a (child e (child d (root_trixel r)))
  unfolding vector_at
  entry d e a n hd he ha is =
      let six = sixth (4 * d + e) a n ha (omega arith) in
      (λ j. turned r (part_of (six.1 j) (trixel 2 (128 + six.0 j))))
      ∙ part_turned r a (trixel 2 (128 + (4 * d + e))) ha
      ∙ ap (part_of a) (sym (rotated r 2 (4 * d + e) h (omega arith)) ∙ below_root r d e hd he)

-- ---- a normal turned round

turned_test : (z : ℤ) → le_z (neg_ℤ z) (pos 0) ≡ le_z (pos 0) z
turned_test (pos zero) = refl
turned_test (pos (suc n)) = sym (le-leb 0 (suc n) (omega arith))
turned_test (negsuc n) = lt-leb (suc n) 0 (omega arith)

passed : (p n c : Vec3) → n ≡ minus c → le_z (dot n p) (pos 0) ≡ not_negative (dot c p)
passed p n c e = ap (λ v. le_z (dot v p) (pos 0)) e ∙ ap (λ z. le_z z (pos 0)) (dot_minus c p) ∙ turned_test (dot c p)

-- ---- the digits from the table

digit_by_table : (p : Vec3) (t : Trixel) {a b c : Vec3} → a ≡ minus (cut t).c0 → b ≡ minus (cut t).c1 → c ≡ minus (cut t).c2 → digit_by p a b c ≡ digit p t
unfolding digit
digit_by_table p t {a} {b} {c} ea eb ec =
    λ j. cond (passed p a (cut t).c0 ea j) 0 (cond (passed p b (cut t).c1 eb j) 1 (cond (passed p c (cut t).c2 ec j) 2 3))

-- p is q, turned: the tests of q in S0 are those of p in the root
module _ (r : ℕ) (h : r < 8) (p q : Vec3) (back : turned r q ≡ p) where
  kept : (a : Vec3) → dot a q ≡ dot (turned r a) p
  kept a = sym ((turned_rotates r h).kept a q) ∙ ap (dot (turned r a)) back

  digit_turned : (a b c : Vec3) → digit_by q a b c ≡ digit_by p (turned r a) (turned r b) (turned r c)
  digit_turned a b c =
      λ j. cond (le_z (kept a j) (pos 0)) 0 (cond (le_z (kept b j) (pos 0)) 1 (cond (le_z (kept c j) (pos 0)) 2 3))

  at : (d e i n : ℕ) {a : Vec3} → d < 4 → e < 4 → i < 6 → n ≡ 24 * d + 6 * e + i → a ≡ vector_at n → turned r a ≡ part_of i (child e (child d (root_trixel r)))
  at d e i n hd he hi is ea = ap (turned r) ea ∙ entry r h d e i n hd he hi is

  pub root_digit : {a b c : Vec3} → a ≡ vector_at 83 → b ≡ vector_at 76 → c ≡ vector_at 77 → digit_by q a b c ≡ digit p (root_trixel r)
  unfolding child
  root_digit {a} {b} {c} ea eb ec =
      digit_turned a b c
      ∙ digit_by_table p (root_trixel r) (at 3 1 5 83 (lit< tt) (lit< tt) (lit< tt) refl ea) (at 3 0 4 76 (lit< tt) (lit< tt) (lit< tt) refl eb)
      (at 3 0 5 77 (lit< tt) (lit< tt) (lit< tt) refl ec)

  pub child_digit : (d : ℕ) {a b c : Vec3} → d < 4 → a ≡ vector_at (24 * d + 21) → b ≡ vector_at (24 * d + 22) → c ≡ vector_at (24 * d + 23)
      → digit_by q a b c ≡ digit p (child d (root_trixel r))
  unfolding child
  child_digit d {a} {b} {c} hd ea eb ec =
      digit_turned a b c
      ∙ digit_by_table p (child d (root_trixel r)) (at d 3 3 (24 * d + 21) hd (lit< tt) (lit< tt) (omega arith) ea)
      (at d 3 4 (24 * d + 22) hd (lit< tt) (lit< tt) (omega arith) eb) (at d 3 5 (24 * d + 23) hd (lit< tt) (lit< tt) (omega arith) ec)

-- ---- the start

-- two levels down by the digits d and e, with the corners of the entry, turned
pub table_start : (p : Vec3) (r d e i : ℕ) (c : Corners) → r < 8 → d ≡ digit p (root_trixel r) → e ≡ digit p (child d (root_trixel r)) → d < 4 → e < 4
    → i ≡ 128 + 16 * r + 4 * d + e
    → c ≡ triple_of (vector_at (24 * d + 6 * e)) (vector_at (24 * d + 6 * e + 1)) (vector_at (24 * d + 6 * e + 2))
    → (n : ℕ) → descend p n (bare (turned_corners r c)) i ≡ descend p (suc (suc n)) (root_trixel r) (8 + r)
unfolding descend
table_start p r d e i c h ed ee hd he ei ec n =
    let t = root_trixel r in
    let c0 : turned r (vector_at (24 * d + 6 * e)) ≡ (child e (child d t)).v0 = entry r h d e 0 (24 * d + 6 * e) hd he (lit< tt) (omega arith) in
    let c1 : turned r (vector_at (24 * d + 6 * e + 1)) ≡ (child e (child d t)).v1 = entry r h d e 1 (24 * d + 6 * e + 1) hd he (lit< tt) refl in
    let c2 : turned r (vector_at (24 * d + 6 * e + 2)) ≡ (child e (child d t)).v2 = entry r h d e 2 (24 * d + 6 * e + 2) hd he (lit< tt) refl in
    let i' : i ≡ 4 * (4 * (8 + r) + d) + e = omega arith in
    ap (descend p n (bare (turned_corners r c))) i'
    ∙ descend_corners p n (bare (turned_corners r c)) (child e (child d t)) (4 * (4 * (8 + r) + d) + e) (ap (turned_corners r) ec ∙ (λ j. triple_of (c0 j) (c1 j) (c2 j)))
    ∙ ap (λ m. descend p n (child m (child d t)) (4 * (4 * (8 + r) + d) + m)) ee
    ∙ ap (λ m. descend p n (child (digit p (child m t)) (child m t)) (4 * (4 * (8 + r) + m) + digit p (child m t))) ed

-- an entry of the table is one of the sixteen trixels of depth 3 below S0
pub entry_of : (d e : ℕ) → d < 4 → e < 4 → (c : Corners) → c ≡ triple_of (vector_at (24 * d + 6 * e)) (vector_at (24 * d + 6 * e + 1)) (vector_at (24 * d + 6 * e + 2)) → Entry c
unfolding rotation
entry_of d e hd he c ec =
    let c0 : vector_at (24 * d + 6 * e) ≡ (entry_trixel d e).v0 = entry 0 (lit< tt) d e 0 (24 * d + 6 * e) hd he (lit< tt) (omega arith) in
    let c1 : vector_at (24 * d + 6 * e + 1) ≡ (entry_trixel d e).v1 = entry 0 (lit< tt) d e 1 (24 * d + 6 * e + 1) hd he (lit< tt) refl in
    let c2 : vector_at (24 * d + 6 * e + 2) ≡ (entry_trixel d e).v2 = entry 0 (lit< tt) d e 2 (24 * d + 6 * e + 2) hd he (lit< tt) refl in
    record { d = d; e = e; d_low = hd; e_low = he; is = ec ∙ (λ j. triple_of (c0 j) (c1 j) (c2 j)) }
