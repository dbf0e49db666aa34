-- The ring laws of ℤ that lib.IntN does not have: distributivity, associativity of the product, signs. Assumes nothing.
use mathlib.Core.Path.{◌≡◌, sym, ◌∙◌, ap, ◌≡⟨◌⟩◌, ◌∎}
use Prim.Native.Nat.{zero, suc}
use lib.IntN.{ℤ, pos, negsuc, suc_ℤ, pred_ℤ, neg_ℤ, ◌+ℤ◌, ◌*ℤ◌, +ℤ_idl, +ℤ_idr, +ℤ_assoc, +ℤ_comm, +ℤ_invr, +ℤ_invl, suc_ℤ-+ℤ, pred_ℤ-+ℤ, suc_ℤ-*ℤ, pred_ℤ-*ℤ, zero-*ℤ, *ℤ_comm, *ℤ-one, one}

-- (a + b) + c = (a + c) + b, and the exchange of the middle two of four
pub +ℤ-right-comm : (a b c : ℤ) → a +ℤ b +ℤ c ≡ a +ℤ c +ℤ b
+ℤ-right-comm a b c = +ℤ_assoc a b c ∙ ap (λ x. a +ℤ x) (+ℤ_comm b c) ∙ sym (+ℤ_assoc a c b)

pub +ℤ-left-comm : (a b c : ℤ) → a +ℤ (b +ℤ c) ≡ b +ℤ (a +ℤ c)
+ℤ-left-comm a b c = sym (+ℤ_assoc a b c) ∙ ap (λ x. x +ℤ c) (+ℤ_comm a b) ∙ +ℤ_assoc b a c

pub +ℤ-exchange : (a b c d : ℤ) → (a +ℤ b) +ℤ (c +ℤ d) ≡ (a +ℤ c) +ℤ (b +ℤ d)
+ℤ-exchange a b c d = +ℤ_assoc a b (c +ℤ d) ∙ ap (λ x. a +ℤ x) (+ℤ-left-comm b c d) ∙ sym (+ℤ_assoc a c (b +ℤ d))

-- distributivity
pub *ℤ-distrib-r : (a b c : ℤ) → (a +ℤ b) *ℤ c ≡ a *ℤ c +ℤ b *ℤ c
*ℤ-distrib-r a b c = go a
  where
    up : (x : ℤ) → (x +ℤ b) *ℤ c ≡ x *ℤ c +ℤ b *ℤ c → (suc_ℤ x +ℤ b) *ℤ c ≡ suc_ℤ x *ℤ c +ℤ b *ℤ c
    up x h =
        (suc_ℤ x +ℤ b) *ℤ c ≡⟨ ap (λ z. z *ℤ c) (suc_ℤ-+ℤ x b) ⟩
        suc_ℤ (x +ℤ b) *ℤ c ≡⟨ suc_ℤ-*ℤ (x +ℤ b) c ⟩
        (x +ℤ b) *ℤ c +ℤ c ≡⟨ ap (λ z. z +ℤ c) h ⟩
        x *ℤ c +ℤ b *ℤ c +ℤ c ≡⟨ +ℤ-right-comm (x *ℤ c) (b *ℤ c) c ⟩
        x *ℤ c +ℤ c +ℤ b *ℤ c ≡⟨ ap (λ z. z +ℤ b *ℤ c) (sym (suc_ℤ-*ℤ x c)) ⟩
        suc_ℤ x *ℤ c +ℤ b *ℤ c ∎

    down : (x : ℤ) → (x +ℤ b) *ℤ c ≡ x *ℤ c +ℤ b *ℤ c → (pred_ℤ x +ℤ b) *ℤ c ≡ pred_ℤ x *ℤ c +ℤ b *ℤ c
    down x h =
        (pred_ℤ x +ℤ b) *ℤ c ≡⟨ ap (λ z. z *ℤ c) (pred_ℤ-+ℤ x b) ⟩
        pred_ℤ (x +ℤ b) *ℤ c ≡⟨ pred_ℤ-*ℤ (x +ℤ b) c ⟩
        (x +ℤ b) *ℤ c +ℤ neg_ℤ c ≡⟨ ap (λ z. z +ℤ neg_ℤ c) h ⟩
        x *ℤ c +ℤ b *ℤ c +ℤ neg_ℤ c ≡⟨ +ℤ-right-comm (x *ℤ c) (b *ℤ c) (neg_ℤ c) ⟩
        x *ℤ c +ℤ neg_ℤ c +ℤ b *ℤ c ≡⟨ ap (λ z. z +ℤ b *ℤ c) (sym (pred_ℤ-*ℤ x c)) ⟩
        pred_ℤ x *ℤ c +ℤ b *ℤ c ∎

    base : (pos zero +ℤ b) *ℤ c ≡ pos zero *ℤ c +ℤ b *ℤ c
    base = ap (λ z. z *ℤ c) (+ℤ_idl b) ∙ sym (ap (λ z. z +ℤ b *ℤ c) (zero-*ℤ c) ∙ +ℤ_idl (b *ℤ c))

    go : (x : ℤ) → (x +ℤ b) *ℤ c ≡ x *ℤ c +ℤ b *ℤ c
    go (pos zero) = base
    go (pos (suc n)) = up (pos n) (go (pos n))
    go (negsuc zero) = down (pos zero) base
    go (negsuc (suc n)) = down (negsuc n) (go (negsuc n))

pub *ℤ-distrib-l : (a b c : ℤ) → a *ℤ (b +ℤ c) ≡ a *ℤ b +ℤ a *ℤ c
*ℤ-distrib-l a b c =
    *ℤ_comm a (b +ℤ c) ∙ *ℤ-distrib-r b c a ∙ ap (λ z. z +ℤ c *ℤ a) (*ℤ_comm b a) ∙ ap (λ z. a *ℤ b +ℤ z) (*ℤ_comm c a)

-- one on either side, as the numeral
pub *ℤ-idr : (m : ℤ) → m *ℤ pos 1 ≡ m
unfolding one
*ℤ-idr m = *ℤ-one m

pub *ℤ-idl : (m : ℤ) → pos 1 *ℤ m ≡ m
*ℤ-idl m = *ℤ_comm (pos 1) m ∙ *ℤ-idr m

-- signs
pub +ℤ-cancel-r : (a b c : ℤ) → a +ℤ c ≡ b +ℤ c → a ≡ b
+ℤ-cancel-r a b c h =
    sym (+ℤ_idr a) ∙ ap (λ z. a +ℤ z) (sym (+ℤ_invr c)) ∙ sym (+ℤ_assoc a c (neg_ℤ c)) ∙ ap (λ z. z +ℤ neg_ℤ c) h ∙ +ℤ_assoc b c (neg_ℤ c) ∙ ap (λ z. b +ℤ z) (+ℤ_invr c) ∙ +ℤ_idr b

pub *ℤ-neg-l : (a b : ℤ) → neg_ℤ a *ℤ b ≡ neg_ℤ (a *ℤ b)
*ℤ-neg-l a b = +ℤ-cancel-r (neg_ℤ a *ℤ b) (neg_ℤ (a *ℤ b)) (a *ℤ b)
    (sym (*ℤ-distrib-r (neg_ℤ a) a b) ∙ ap (λ z. z *ℤ b) (+ℤ_invl a) ∙ zero-*ℤ b ∙ sym (+ℤ_invl (a *ℤ b)))

pub *ℤ-neg-r : (a b : ℤ) → a *ℤ neg_ℤ b ≡ neg_ℤ (a *ℤ b)
*ℤ-neg-r a b = *ℤ_comm a (neg_ℤ b) ∙ *ℤ-neg-l b a ∙ ap neg_ℤ (*ℤ_comm b a)

pub neg-one-*ℤ : (a : ℤ) → negsuc 0 *ℤ a ≡ neg_ℤ a
neg-one-*ℤ a = *ℤ-neg-l (pos 1) a ∙ ap neg_ℤ (*ℤ-idl a)

-- associativity of the product
pub *ℤ-assoc : (a b c : ℤ) → (a *ℤ b) *ℤ c ≡ a *ℤ (b *ℤ c)
*ℤ-assoc a b c = go a
  where
    up : (x : ℤ) → (x *ℤ b) *ℤ c ≡ x *ℤ (b *ℤ c) → (suc_ℤ x *ℤ b) *ℤ c ≡ suc_ℤ x *ℤ (b *ℤ c)
    up x h = ap (λ z. z *ℤ c) (suc_ℤ-*ℤ x b) ∙ *ℤ-distrib-r (x *ℤ b) b c ∙ ap (λ z. z +ℤ b *ℤ c) h ∙ sym (suc_ℤ-*ℤ x (b *ℤ c))

    down : (x : ℤ) → (x *ℤ b) *ℤ c ≡ x *ℤ (b *ℤ c) → (pred_ℤ x *ℤ b) *ℤ c ≡ pred_ℤ x *ℤ (b *ℤ c)
    down x h =
        ap (λ z. z *ℤ c) (pred_ℤ-*ℤ x b) ∙ *ℤ-distrib-r (x *ℤ b) (neg_ℤ b) c ∙ ap (λ z. z +ℤ neg_ℤ b *ℤ c) h ∙ ap (λ z. x *ℤ (b *ℤ c) +ℤ z) (*ℤ-neg-l b c) ∙ sym (pred_ℤ-*ℤ x (b *ℤ c))

    base : (pos zero *ℤ b) *ℤ c ≡ pos zero *ℤ (b *ℤ c)
    base = ap (λ z. z *ℤ c) (zero-*ℤ b) ∙ zero-*ℤ c ∙ sym (zero-*ℤ (b *ℤ c))

    go : (x : ℤ) → (x *ℤ b) *ℤ c ≡ x *ℤ (b *ℤ c)
    go (pos zero) = base
    go (pos (suc n)) = up (pos n) (go (pos n))
    go (negsuc zero) = down (pos zero) base
    go (negsuc (suc n)) = down (negsuc n) (go (negsuc n))

pub *ℤ-left-comm : (a b c : ℤ) → a *ℤ (b *ℤ c) ≡ b *ℤ (a *ℤ c)
*ℤ-left-comm a b c = sym (*ℤ-assoc a b c) ∙ ap (λ z. z *ℤ c) (*ℤ_comm a b) ∙ *ℤ-assoc b a c

pub *ℤ-exchange : (a b c d : ℤ) → (a *ℤ b) *ℤ (c *ℤ d) ≡ (a *ℤ c) *ℤ (b *ℤ d)
*ℤ-exchange a b c d = *ℤ-assoc a b (c *ℤ d) ∙ ap (λ x. a *ℤ x) (*ℤ-left-comm b c d) ∙ sym (*ℤ-assoc a c (b *ℤ d))
