-- Filters: a product against a square by the upper bits of both, and a sum of three squares against the sum by upper bits. Plain natural numbers
-- throughout. Assumes nothing.
use Prim.Native.Nat.{ℕ, ◌+◌, ◌*◌, ◌/◌, ◌^◌, ◌≤◌, ◌<◌}
use native.Mathlib.Nat.{le_refl, le_trans, le_of_lt, lt_of_le_of_lt, lt_of_lt_of_le, mul-add, add-mul, mul-mul-mul_comm, mul-le-mul, mul-lt-mul_of_pos_left}
use native.Mathlib.Omega.{arith}
use mathlib.Core.Path.{◌≡◌, refl, subst, ◌∙◌}

-- ---- a product a b against a square x², in units k, l and m with k l = m²

mul_lt_mul : {a b c d : ℕ} → a < c → b < d → a * b < c * d
mul_lt_mul {b = b} h k = lt_of_le_of_lt (mul-le-mul (le_of_lt h) (le_refl b)) (mul-lt-mul_of_pos_left k (omega arith))

module _ (k l m : ℕ) (e : k * l ≡ m * m) (u v w : ℕ) where
  units : k * u * (l * v) ≡ m * m * (u * v)
  units = mul-mul-mul_comm k u l v ∙ (λ i. e i * (u * v))

  -- a is below u units, b below v, and x not below w: where u v ≤ w², the product is below the square
  pub surely_below : {a b x : ℕ} → a < k * u → b < l * v → m * w ≤ x → u * v ≤ w * w → a * b < x * x
  surely_below {a} {b} {x} p q r h =
      lt_of_lt_of_le (subst (λ n. a * b < n) units (mul_lt_mul p q))
      (le_trans (mul-le-mul (le_refl (m * m)) h) (subst (λ n. n ≤ x * x) (mul-mul-mul_comm m w m w) (mul-le-mul r r)))

  -- a is not below u units, nor b below v, and x is below w: where w² ≤ u v, the product is above the square
  pub surely_above : {a b x : ℕ} → k * u ≤ a → l * v ≤ b → x < m * w → w * w ≤ u * v → x * x < a * b
  surely_above {a} {b} {x} p q r h =
      lt_of_lt_of_le (subst (λ n. x * x < n) (mul-mul-mul_comm m w m w) (mul_lt_mul r r))
      (le_trans (mul-le-mul (le_refl (m * m)) h) (subst (λ n. n ≤ a * b) units (mul-le-mul p q)))

-- ---- a sum of three squares, and its height: by each number without its lower 10 bits, and of that sum without the lower 32

-- one square
square_low : (a : ℕ) → 2 ^ 20 * (a / 1024 * (a / 1024)) ≤ a * a
square_low a =
    let h : 1024 * (a / 1024) ≤ a = omega arith in
    subst (λ n. n ≤ a * a) (mul-mul-mul_comm 1024 (a / 1024) 1024 (a / 1024)) (mul-le-mul h h)

next_square : (n : ℕ) → (n + 1) * (n + 1) ≡ n * n + 2 * n + 1
next_square n = omega (arith, mul-add (n + 1) n 1, add-mul n 1 n)

square_high : (a : ℕ) → a ≤ 2 ^ 41 → a * a < 2 ^ 20 * (a / 1024 * (a / 1024) + 2 ^ 32 + 1)
square_high a l =
    let h : a < 1024 * (a / 1024 + 1) = omega arith in
    let s : a * a < 2 ^ 20 * ((a / 1024 + 1) * (a / 1024 + 1)) = subst (λ n. a * a < n) (mul-mul-mul_comm 1024 (a / 1024 + 1) 1024 (a / 1024 + 1)) (mul_lt_mul h h) in
    let e = next_square (a / 1024) in
    omega arith

abbrev height : ℕ → ℕ → ℕ → ℕ
height a b c = (a / 1024 * (a / 1024) + b / 1024 * (b / 1024) + c / 1024 * (c / 1024)) / 2 ^ 32

module _ (a b c : ℕ) where
  pub height_low : 2 ^ 52 * height a b c ≤ a * a + b * b + c * c
  height_low = omega (arith, square_low a, square_low b, square_low c)

  pub height_most : a ≤ 2 ^ 41 → b ≤ 2 ^ 41 → c ≤ 2 ^ 41 → height a b c ≤ 3 * 2 ^ 30
  height_most p q r =
      let upper : (n : ℕ) → n ≤ 2 ^ 41 → n / 1024 * (n / 1024) ≤ 2 ^ 62 = λ n l. let h : n / 1024 ≤ 2 ^ 31 = omega arith in mul-le-mul h h in
      omega (arith, upper a p, upper b q, upper c r)

  pub height_high : a ≤ 2 ^ 41 → b ≤ 2 ^ 41 → c ≤ 2 ^ 41 → a * a + b * b + c * c < 2 ^ 52 * (height a b c + 5)
  height_high p q r = omega (arith, square_high a p, square_high b q, square_high c r)

-- ---- whether g² s ≤ x²: s by its height h, g² by its upper bits, x by its upper bits

module _ (x g s h : ℕ) where
  pub reach_surely : s < 2 ^ 52 * (h + 5) → (g * g / 1024 + 1) * (h + 5) ≤ x / 2 ^ 31 * (x / 2 ^ 31) → g * g * s ≤ x * x
  reach_surely l t = le_of_lt (surely_below 1024 (2 ^ 52) (2 ^ 31) refl (g * g / 1024 + 1) (h + 5) (x / 2 ^ 31) (omega arith) l (omega arith) t)

  pub reach_surely_not : 2 ^ 52 * h ≤ s → (x / 2 ^ 31 + 1) * (x / 2 ^ 31 + 1) ≤ g * g / 1024 * h → x * x < g * g * s
  reach_surely_not l t = surely_above 1024 (2 ^ 52) (2 ^ 31) refl (g * g / 1024) h (x / 2 ^ 31 + 1) (omega arith) l (omega arith) t

-- ---- whether p q < m², each by its upper bits

module _ (m p q : ℕ) where
  pub square_surely : (p / 1024 + 1) * (q / 1024 + 1) ≤ m / 1024 * (m / 1024) → p * q < m * m
  square_surely t = surely_below 1024 1024 1024 refl (p / 1024 + 1) (q / 1024 + 1) (m / 1024) (omega arith) (omega arith) (omega arith) t

  pub square_surely_not : (m / 1024 + 1) * (m / 1024 + 1) ≤ p / 1024 * (q / 1024) → m * m < p * q
  square_surely_not t = surely_above 1024 1024 1024 refl (p / 1024) (q / 1024) (m / 1024 + 1) (omega arith) (omega arith) (omega arith) t
