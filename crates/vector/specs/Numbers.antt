-- Numbers. Document 01, opening and 'Pointings and the mesh'.
--   K, Kℕ          1048576, as a number with a sign and as one without
--   signed s n     n, or −n where s
--   quot a b       a divided by b, truncated toward zero
--   between a b z  a ≤ z ≤ b
--   eq_z a b        a and b are equal
--   is_depth d      a depth that is looked up and covered: 1 to 12 ('What is sent back', 5)
--   greatest f n   the greatest whole number up to n that passes the test f; 0 where none from 1 on does
--   root s         the greatest whole number whose square is at most s
--   RootGreatest   the statement that it is that number (proofs/RootLaws)
use Rattle.std.specs.Prelude.{ℕ, zero, suc, ◌+◌, ◌*◌, ◌/◌, ◌≤◌, Bool, true, false, cond, ◌&&◌, leb, eqb, ℤ, pos, negsuc, neg_ℤ}
use Rattle.std.specs.Int.Signed.{quot_z, le_z}

abbrev pub Kℕ : ℕ
Kℕ = 1048576

abbrev pub K : ℤ
K = pos Kℕ

abbrev pub signed : Bool → ℕ → ℤ
signed s n = cond s (neg_ℤ (pos n)) (pos n)

abbrev pub quot : ℤ → ℤ → ℤ
quot a b = quot_z a b

abbrev pub between : ℤ → ℤ → ℤ → Bool
between a b z = le_z a z && le_z z b

abbrev pub eq_z : ℤ → ℤ → Bool
eq_z (pos a) (pos b) = eqb a b
eq_z (pos a) (negsuc b) = false
eq_z (negsuc a) (pos b) = false
eq_z (negsuc a) (negsuc b) = eqb a b

abbrev pub is_depth : ℕ → Bool
is_depth d = leb 1 d && leb d 12

unfoldable pub greatest : (ℕ → Bool) → ℕ → ℕ
greatest f zero = 0
greatest f (suc n) = elim (f (suc n)) [ true ↦ suc n | false ↦ greatest f n ]

-- r, or r + 1 where its square is at most s too
abbrev pub or_next : ℕ → ℕ → ℕ
or_next s r = cond (leb ((r + 1) * (r + 1)) s) (r + 1) r

-- The root of 0 is 0. Else it is twice the root of a fourth of s, or one more.
-- The first argument bounds the steps; s itself is more than enough.
unfoldable pub root_in : ℕ → ℕ → ℕ
root_in zero s = 0
root_in (suc n) s = elim (eqb s 0) [ true ↦ 0 | false ↦ or_next s (2 * root_in n (s / 4)) ]

unfoldable pub root : ℕ → ℕ
root s = root_in s s

abbrev pub RootGreatest : Type 0
RootGreatest = (s : ℕ) → (root s * root s ≤ s) × ((n : ℕ) → n * n ≤ s → n ≤ root s)
