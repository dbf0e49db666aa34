-- A normaliser for polynomial expressions over ℤ, with its proof: `solve` proves an identity of two expressions by computing.
-- A polynomial is a list of terms (a coefficient and a monomial), sorted by monomial; a monomial is the sorted list of its
-- variables. Nothing is proved of the order: a wrong order could only make `solve` refuse. Assumes nothing.
use mathlib.Core.Path.{◌≡◌, refl, sym, ◌∙◌, ap, ap₂}
use mathlib.Core.Bool.{Bool, true, false}
use mathlib.Core.List.{List, [], ◌∷◌}
use Prim.Native.Nat.{ℕ, zero, suc, compare, Ordering}
use lib.Dec.{T, leb, eqb→eq, compare_is_eq}
use lib.IntN.{ℤ, pos, negsuc, neg_ℤ, ◌+ℤ◌, ◌-ℤ◌, ◌*ℤ◌, +ℤ_idl, +ℤ_idr, +ℤ_assoc, zero-*ℤ, *ℤ_comm, -ℤ-+ℤ_cancel}
use Rattle.algebra.proofs.RingLaws.{+ℤ-left-comm, +ℤ-exchange, *ℤ-distrib-r, *ℤ-distrib-l, *ℤ-idr, *ℤ-idl, neg-one-*ℤ, *ℤ-assoc, *ℤ-left-comm, *ℤ-exchange}

-- ---- expressions

infixl 6 ◌:+◌ ◌:-◌
infixl 7 ◌:*◌
pub data Expr : Type 0 where
  var : ℕ → Expr
  con : ℤ → Expr
  ◌:+◌ ◌:-◌ ◌:*◌ : Expr → Expr → Expr
  :neg : Expr → Expr

-- the environment: variable i is the list's element i
abbrev pub at : List ℤ → ℕ → ℤ
at [] i = pos 0
at (x ∷ ρ) zero = x
at (x ∷ ρ) (suc i) = at ρ i

abbrev pub eval : List ℤ → Expr → ℤ
eval ρ (var i) = at ρ i
eval ρ (con c) = c
eval ρ (a :+ b) = eval ρ a +ℤ eval ρ b
eval ρ (a :- b) = eval ρ a -ℤ eval ρ b
eval ρ (a :* b) = eval ρ a *ℤ eval ρ b
eval ρ (:neg a) = neg_ℤ (eval ρ a)

-- ---- normal forms

infixr 7 ◌·◌
pub data Mono : Type 0 where
  𝟙 : Mono
  ◌·◌ : ℕ → Mono → Mono

pub data Poly : Type 0 where
  nil : Poly
  term : ℤ → Mono → Poly → Poly

-- what is chosen waits where a `let` binds it
abbrev pub pick₂ : Bool → Mono → Mono → Mono
pick₂ true a b = a
pick₂ false a b = b

abbrev pub pick₃ : Ordering → Poly → Poly → Poly → Poly
pick₃ Ordering.lt a b c = a
pick₃ Ordering.eq a b c = b
pick₃ Ordering.gt a b c = c

abbrev pub pick_o : Ordering → Ordering → Ordering
pick_o Ordering.lt o = Ordering.lt
pick_o Ordering.eq o = o
pick_o Ordering.gt o = Ordering.gt

-- the product of two monomials: a merge. `f` is the product with m
abbrev pub merge_m : ℕ → Mono → (Mono → Mono) → Mono → Mono
merge_m i m f 𝟙 = i · m
merge_m i m f (j · n) = let a = i · f (j · n) in let b = j · merge_m i m f n in pick₂ (leb i j) a b

abbrev pub mul_m : Mono → Mono → Mono
mul_m 𝟙 n = n
mul_m (i · m) n = merge_m i m (λ k. mul_m m k) n

-- the order: lexicographic, the longer one first, so that a product with a monomial keeps it
abbrev pub cmp_m : Mono → Mono → Ordering
cmp_m 𝟙 𝟙 = Ordering.eq
cmp_m 𝟙 (j · n) = Ordering.gt
cmp_m (i · m) 𝟙 = Ordering.lt
cmp_m (i · m) (j · n) = let o = cmp_m m n in pick_o (compare i j) o

-- a term, unless its coefficient is zero
abbrev pub term₀ : ℤ → Mono → Poly → Poly
term₀ (pos zero) m p = p
term₀ (pos (suc c)) m p = term (pos (suc c)) m p
term₀ (negsuc c) m p = term (negsuc c) m p

-- the sum: a merge. `f` is the sum with p
abbrev pub merge_p : ℤ → Mono → Poly → (Poly → Poly) → Poly → Poly
merge_p c m p f nil = term c m p
merge_p c m p f (term d n q) =
    let a = term c m (f (term d n q)) in
    let b = term₀ (c +ℤ d) m (f q) in
    let e = term d n (merge_p c m p f q) in
    pick₃ (cmp_m m n) a b e

abbrev pub add_p : Poly → Poly → Poly
add_p nil q = q
add_p (term c m p) q = merge_p c m p (λ r. add_p p r) q

abbrev pub scale : ℤ → Mono → Poly → Poly
scale c m nil = nil
scale c m (term d n q) = term (c *ℤ d) (mul_m m n) (scale c m q)

abbrev pub mul_p : Poly → Poly → Poly
mul_p nil q = nil
mul_p (term c m p) q = add_p (scale c m q) (mul_p p q)

abbrev pub norm : Expr → Poly
norm (var i) = term (pos 1) (i · 𝟙) nil
norm (con c) = term₀ c 𝟙 nil
norm (a :+ b) = add_p (norm a) (norm b)
norm (a :- b) = add_p (norm a) (scale (negsuc 0) 𝟙 (norm b))
norm (a :* b) = mul_p (norm a) (norm b)
norm (:neg a) = scale (negsuc 0) 𝟙 (norm a)

-- ---- their values

abbrev pub ev_m : List ℤ → Mono → ℤ
ev_m ρ 𝟙 = pos 1
ev_m ρ (i · m) = at ρ i *ℤ ev_m ρ m

abbrev pub ev_p : List ℤ → Poly → ℤ
ev_p ρ nil = pos 0
ev_p ρ (term c m p) = c *ℤ ev_m ρ m +ℤ ev_p ρ p

-- ---- the normal form has the expression's value

pick₂_ind : (t : Bool) (a b : Mono) (P : Mono → Type 0) → P a → P b → P (pick₂ t a b)
pick₂_ind true a b P x y = x
pick₂_ind false a b P x y = y

pick₃_ind : (o : Ordering) (a b c : Poly) (P : Poly → Type 0) → P a → (T (compare_is_eq o) → P b) → P c → P (pick₃ o a b c)
pick₃_ind Ordering.lt a b c P x y z = x
pick₃_ind Ordering.eq a b c P x y z = y tt
pick₃_ind Ordering.gt a b c P x y z = z

pick_o_eq : (o p : Ordering) → T (compare_is_eq (pick_o o p)) → T (compare_is_eq o) × T (compare_is_eq p)
pick_o_eq Ordering.lt p t = absurd t
pick_o_eq Ordering.eq p t = (tt, t)
pick_o_eq Ordering.gt p t = absurd t

cmp_m_eq : (m n : Mono) → T (compare_is_eq (cmp_m m n)) → m ≡ n
cmp_m_eq 𝟙 𝟙 t = refl
cmp_m_eq 𝟙 (j · n) t = absurd t
cmp_m_eq (i · m) 𝟙 t = absurd t
cmp_m_eq (i · m) (j · n) t =
    let h : T (compare_is_eq (compare i j)) × T (compare_is_eq (cmp_m m n)) = pick_o_eq (compare i j) (cmp_m m n) t in
    ap₂ ◌·◌ (eqb→eq i j h.0) (cmp_m_eq m n h.1)

module _ (ρ : List ℤ) where
  merge_m_ok : (i : ℕ) (m : Mono) (f : Mono → Mono) → ((k : Mono) → ev_m ρ (f k) ≡ ev_m ρ m *ℤ ev_m ρ k) → (n : Mono) → ev_m ρ (merge_m i m f n) ≡ ev_m ρ (i · m) *ℤ ev_m ρ n
  merge_m_ok i m f hf 𝟙 = sym (*ℤ-idr (ev_m ρ (i · m)))
  merge_m_ok i m f hf (j · n) = pick₂_ind (leb i j) (i · f (j · n)) (j · merge_m i m f n) (λ z. ev_m ρ z ≡ ev_m ρ (i · m) *ℤ ev_m ρ (j · n))
      (ap (λ z. at ρ i *ℤ z) (hf (j · n)) ∙ sym (*ℤ-assoc (at ρ i) (ev_m ρ m) (ev_m ρ (j · n))))
      (ap (λ z. at ρ j *ℤ z) (merge_m_ok i m f hf n) ∙ *ℤ-left-comm (at ρ j) (ev_m ρ (i · m)) (ev_m ρ n))

  mul_m_ok : (m n : Mono) → ev_m ρ (mul_m m n) ≡ ev_m ρ m *ℤ ev_m ρ n
  mul_m_ok 𝟙 n = sym (*ℤ-idl (ev_m ρ n))
  mul_m_ok (i · m) n = merge_m_ok i m (λ k. mul_m m k) (λ k. mul_m_ok m k) n

  term₀_ok : (c : ℤ) (m : Mono) (p : Poly) → ev_p ρ (term₀ c m p) ≡ c *ℤ ev_m ρ m +ℤ ev_p ρ p
  term₀_ok (pos zero) m p = sym (ap (λ z. z +ℤ ev_p ρ p) (zero-*ℤ (ev_m ρ m)) ∙ +ℤ_idl (ev_p ρ p))
  term₀_ok (pos (suc c)) m p = refl
  term₀_ok (negsuc c) m p = refl

  merge_p_ok : (c : ℤ) (m : Mono) (p : Poly) (f : Poly → Poly) → ((r : Poly) → ev_p ρ (f r) ≡ ev_p ρ p +ℤ ev_p ρ r) → (q : Poly) → ev_p ρ (merge_p c m p f q) ≡ ev_p ρ (term c m p) +ℤ ev_p ρ q
  merge_p_ok c m p f hf nil = sym (+ℤ_idr (ev_p ρ (term c m p)))
  merge_p_ok c m p f hf (term d n q) = pick₃_ind (cmp_m m n) (term c m (f (term d n q))) (term₀ (c +ℤ d) m (f q)) (term d n (merge_p c m p f q)) (λ z. ev_p ρ z ≡ ev_p ρ (term c m p) +ℤ ev_p ρ (term d n q))
      (ap (λ z. c *ℤ ev_m ρ m +ℤ z) (hf (term d n q)) ∙ sym (+ℤ_assoc (c *ℤ ev_m ρ m) (ev_p ρ p) (ev_p ρ (term d n q))))
      (λ t. term₀_ok (c +ℤ d) m (f q)
      ∙ ap₂ ◌+ℤ◌ (*ℤ-distrib-r c d (ev_m ρ m) ∙ ap (λ z. c *ℤ ev_m ρ m +ℤ d *ℤ ev_m ρ z) (cmp_m_eq m n t)) (hf q)
      ∙ +ℤ-exchange (c *ℤ ev_m ρ m) (d *ℤ ev_m ρ n) (ev_p ρ p) (ev_p ρ q))
      (ap (λ z. d *ℤ ev_m ρ n +ℤ z) (merge_p_ok c m p f hf q) ∙ +ℤ-left-comm (d *ℤ ev_m ρ n) (ev_p ρ (term c m p)) (ev_p ρ q))

  add_p_ok : (p q : Poly) → ev_p ρ (add_p p q) ≡ ev_p ρ p +ℤ ev_p ρ q
  add_p_ok nil q = sym (+ℤ_idl (ev_p ρ q))
  add_p_ok (term c m p) q = merge_p_ok c m p (λ r. add_p p r) (λ r. add_p_ok p r) q

  scale_ok : (c : ℤ) (m : Mono) (q : Poly) → ev_p ρ (scale c m q) ≡ (c *ℤ ev_m ρ m) *ℤ ev_p ρ q
  scale_ok c m nil = sym (*ℤ_comm (c *ℤ ev_m ρ m) (pos 0) ∙ zero-*ℤ (c *ℤ ev_m ρ m))
  scale_ok c m (term d n q) =
      ap₂ ◌+ℤ◌ (ap (λ z. (c *ℤ d) *ℤ z) (mul_m_ok m n) ∙ *ℤ-exchange c d (ev_m ρ m) (ev_m ρ n)) (scale_ok c m q)
      ∙ sym (*ℤ-distrib-l (c *ℤ ev_m ρ m) (d *ℤ ev_m ρ n) (ev_p ρ q))

  mul_p_ok : (p q : Poly) → ev_p ρ (mul_p p q) ≡ ev_p ρ p *ℤ ev_p ρ q
  mul_p_ok nil q = sym (zero-*ℤ (ev_p ρ q))
  mul_p_ok (term c m p) q =
      add_p_ok (scale c m q) (mul_p p q) ∙ ap₂ ◌+ℤ◌ (scale_ok c m q) (mul_p_ok p q)
      ∙ sym (*ℤ-distrib-r (c *ℤ ev_m ρ m) (ev_p ρ p) (ev_p ρ q))

  neg_p_ok : (p : Poly) → ev_p ρ (scale (negsuc 0) 𝟙 p) ≡ neg_ℤ (ev_p ρ p)
  neg_p_ok p = scale_ok (negsuc 0) 𝟙 p ∙ neg-one-*ℤ (ev_p ρ p)

  norm_ok : (e : Expr) → ev_p ρ (norm e) ≡ eval ρ e
  norm_ok (var i) = +ℤ_idr (pos 1 *ℤ (at ρ i *ℤ pos 1)) ∙ *ℤ-idl (at ρ i *ℤ pos 1) ∙ *ℤ-idr (at ρ i)
  norm_ok (con c) = term₀_ok c 𝟙 nil ∙ +ℤ_idr (c *ℤ pos 1) ∙ *ℤ-idr c
  norm_ok (a :+ b) = add_p_ok (norm a) (norm b) ∙ ap₂ ◌+ℤ◌ (norm_ok a) (norm_ok b)
  norm_ok (a :- b) = add_p_ok (norm a) (scale (negsuc 0) 𝟙 (norm b)) ∙ ap₂ ◌+ℤ◌ (norm_ok a) (neg_p_ok (norm b) ∙ ap neg_ℤ (norm_ok b))
  norm_ok (a :* b) = mul_p_ok (norm a) (norm b) ∙ ap₂ ◌*ℤ◌ (norm_ok a) (norm_ok b)
  norm_ok (:neg a) = neg_p_ok (norm a) ∙ ap neg_ℤ (norm_ok a)

-- `solve a b refl ρ`: where it is refused, the message shows the polynomial a − b that is left
pub solve : (a b : Expr) → norm (a :- b) ≡ nil → (ρ : List ℤ) → eval ρ a ≡ eval ρ b
solve a b e ρ =
    sym (-ℤ-+ℤ_cancel (eval ρ a) (eval ρ b)) ∙ ap (λ z. z +ℤ eval ρ b) (sym (norm_ok ρ (a :- b)) ∙ ap (λ p. ev_p ρ p) e) ∙ +ℤ_idl (eval ρ b)
