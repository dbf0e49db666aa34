-- The order of the entries: of two with different keys, one precedes the other, and it goes on from one to the next. So what precedes an entry of a list
-- that ascends precedes all after it, and the list ascends with an entry inserted, with one withdrawn, and with those only that pass a test. Assumes nothing.
use mathlib.Core.Path.{◌≡◌, sym, ap, subst, ◌∙◌, refl}
use mathlib.Core.Bool.{Bool, true, false, cond, ◌&&◌, ◌||◌, true≢false, false≢true}
use mathlib.Core.List.{List, [], ◌∷◌}
use native.Mathlib.Omega.{arith}
use borrow.Author.Tests.{lt-ltb, ltb-true, ltb-false, eqb-true, eqb-false, eq-eqb}
use lib.IntN.{ℤ, pos, negsuc}
use lib.Signed.{lt_z}
use Rattle.algebra.specs.Lists.{every, some}
use Rattle.algebra.proofs.Tests.{and_left, and_right, and_both, or_cases, or_left, or_right, split}
use Rattle.vector.specs.Numbers.{eq_z}
use Rattle.index.specs.declared.Entry.{Entry}
use Rattle.index.specs.declared.Key.{Key}
use Rattle.index.specs.Exposures.{Exposure, key_of, only}
use Rattle.index.specs.Entries.{entry_of, below, by_number, precedes, is_keyed, inserted, withdrawn}
use Rattle.index.specs.HistoryCorrect.{Ascends}

-- ---- of numbers

pub eq_z_eq : (a b : ℤ) → eq_z a b ≡ true → a ≡ b
eq_z_eq (pos a) (pos b) e = ap pos (eqb-true a b e)
eq_z_eq (pos a) (negsuc b) e = absurd (false≢true e)
eq_z_eq (negsuc a) (pos b) e = absurd (false≢true e)
eq_z_eq (negsuc a) (negsuc b) e = ap negsuc (eqb-true a b e)

pub eq_z_refl : (a : ℤ) → eq_z a a ≡ true
eq_z_refl (pos a) = eq-eqb a a refl
eq_z_refl (negsuc a) = eq-eqb a a refl

eq_z_turned : (a b : ℤ) → eq_z a b ≡ true → eq_z b a ≡ true
eq_z_turned a b e = subst (λ c. eq_z c a ≡ true) (eq_z_eq a b e) (eq_z_refl a)

eq_z_other : (a b : ℤ) → eq_z a b ≡ false → eq_z b a ≡ false
eq_z_other a b e = split (eq_z b a) (λ f. absurd (true≢false (sym (eq_z_turned b a f) ∙ e))) (λ f. f)

lt_z_trans : (a b c : ℤ) → lt_z a b ≡ true → lt_z b c ≡ true → lt_z a c ≡ true
lt_z_trans (pos a) (pos b) (pos c) e f = lt-ltb a c (omega (arith, ltb-true a b e, ltb-true b c f))
lt_z_trans (pos a) (pos b) (negsuc c) e f = absurd (false≢true f)
lt_z_trans (pos a) (negsuc b) c e f = absurd (false≢true e)
lt_z_trans (negsuc a) (pos b) (pos c) e f = refl
lt_z_trans (negsuc a) (pos b) (negsuc c) e f = absurd (false≢true f)
lt_z_trans (negsuc a) (negsuc b) (pos c) e f = refl
lt_z_trans (negsuc a) (negsuc b) (negsuc c) e f = lt-ltb c a (omega (arith, ltb-true b a e, ltb-true c b f))

lt_z_other : (a b : ℤ) → eq_z a b ≡ false → lt_z a b ≡ false → lt_z b a ≡ true
lt_z_other (pos a) (pos b) e f = lt-ltb b a (omega (arith, eqb-false a b e, ltb-false a b f))
lt_z_other (pos a) (negsuc b) e f = refl
lt_z_other (negsuc a) (pos b) e f = absurd (true≢false f)
lt_z_other (negsuc a) (negsuc b) e f = lt-ltb a b (omega (arith, eqb-false a b e, ltb-false b a f))

-- ---- of tests

every_first : (f : Entry → Bool) (x : Entry) (xs : List Entry) → every f (x ∷ xs) ≡ true → f x ≡ true
unfolding every
every_first f x xs e = and_left (f x) (every f xs) e

or_no_left : (a b : Bool) → (a || b) ≡ false → a ≡ false
or_no_left true b e = e
or_no_left false b e = refl

or_no_right : (a b : Bool) → (a || b) ≡ false → b ≡ false
or_no_right true b e = absurd (true≢false e)
or_no_right false b e = e

-- a key, and what the keys after it say: the other way round, and from one to the next
below_other : (y z : ℤ) (t u : Bool) → (eq_z y z ≡ true → t ≡ false → u ≡ true) → below y z t ≡ false → below z y u ≡ true
below_other y z t u other e =
    split (eq_z y z)
    (λ s.
    let rest : t ≡ false = sym (ap (λ v. v && t) s) ∙ or_no_right (lt_z y z) (eq_z y z && t) e in
    or_right (lt_z z y) (and_both (eq_z_turned y z s) (other s rest)))
    (λ s. or_left (eq_z z y && u) (lt_z_other y z s (or_no_left (lt_z y z) (eq_z y z && t) e)))

below_on : (x y z : ℤ) (t u v : Bool) → (t ≡ true → u ≡ true → v ≡ true) → below x y t ≡ true → below y z u ≡ true → below x z v ≡ true
below_on x y z t u v on e f =
    or_cases (lt_z x y) (eq_z x y && t) e
    (λ p.
    or_cases (lt_z y z) (eq_z y z && u) f
    (λ q. or_left (eq_z x z && v) (lt_z_trans x y z p q))
    (λ q. or_left (eq_z x z && v) (subst (λ w. lt_z x w ≡ true) (eq_z_eq y z (and_left (eq_z y z) u q)) p)))
    (λ p.
    let s : y ≡ x = sym (eq_z_eq x y (and_left (eq_z x y) t p)) in
    or_cases (lt_z y z) (eq_z y z && u) f
    (λ q. or_left (eq_z x z && v) (subst (λ w. lt_z w z ≡ true) s q))
    (λ q. or_right (lt_z x z) (and_both (subst (λ w. eq_z w z ≡ true) s (and_left (eq_z y z) u q)) (on (and_right (eq_z x y) t p) (and_right (eq_z y z) u q)))))

-- ---- of entries

-- of the entry of an exposure, and one with another key
pub other_way : (x : Exposure) (a : Entry) → is_keyed (key_of x) a ≡ false → precedes (entry_of x) a ≡ false → precedes a (entry_of x) ≡ true
other_way x a d e =
    let b = entry_of x in
    let owners : eq_z b.number a.number ≡ true → eq_z b.owner a.owner ≡ false =
    λ s. eq_z_other a.owner b.owner (sym (ap (λ t. t && eq_z a.owner b.owner) (eq_z_turned b.number a.number s)) ∙ d) in
    below_other b.id a.id (by_number b a) (by_number a b)
    (λ i. below_other b.number a.number (lt_z b.owner a.owner) (lt_z a.owner b.owner) (λ s. lt_z_other b.owner a.owner (owners s))) e

pub goes_on : (a b c : Entry) → precedes a b ≡ true → precedes b c ≡ true → precedes a c ≡ true
goes_on a b c e f =
    below_on a.id b.id c.id (by_number a b) (by_number b c) (by_number a c)
    (below_on a.number b.number c.number (lt_z a.owner b.owner) (lt_z b.owner c.owner) (lt_z a.owner c.owner) (lt_z_trans a.owner b.owner c.owner)) e f

-- what precedes the first of entries that ascend precedes all
pub precedes_all : (e x : Entry) (es : List Entry) → Ascends (x ∷ es) → precedes e x ≡ true → every (precedes e) (x ∷ es) ≡ true
unfolding every
precedes_all e x [] a p = and_both p refl
precedes_all e x (y ∷ es) a p = and_both p (precedes_all e y es a.1 (goes_on e x y p a.0))

-- ---- an entry inserted

-- an entry that e does not precede, with those after it
module _ (n : Exposure) where
  abbrev e : Entry
  e = entry_of n

  before : (x : Entry) (es : List Entry) → is_keyed (key_of n) x ≡ false → Ascends (x ∷ es) → every (precedes e) (x ∷ es) ≡ false → precedes x e ≡ true
  before x es o a h = split (precedes e x) (λ p. absurd (true≢false (sym (precedes_all e x es a p) ∙ h))) (λ p. other_way n x o p)

  after : (x : Entry) (es : List Entry) → precedes x e ≡ true → some (is_keyed (key_of n)) es ≡ false → Ascends (x ∷ es) → Ascends (x ∷ inserted e es)
  unfolding some inserted
  after x [] p o a = (p, tt)
  after x (y ∷ es) p o a =
      let k = is_keyed (key_of n) in
      by_test (every (precedes e) (y ∷ es)) refl (λ q. after y es (before y es (or_no_left (k y) (some k es) o) a.1 q) (or_no_right (k y) (some k es) o) a.1)
    where
      by_test : (t : Bool) → every (precedes e) (y ∷ es) ≡ t → (every (precedes e) (y ∷ es) ≡ false → Ascends (y ∷ inserted e es)) → Ascends (x ∷ cond t (e ∷ y ∷ es) (y ∷ inserted e es))
      by_test true q r = (p, (every_first (precedes e) y es q, a.1))
      by_test false q r = (a.0, r q)

  pub inserted_ascends : (es : List Entry) → some (is_keyed (key_of n)) es ≡ false → Ascends es → Ascends (inserted e es)
  unfolding some inserted
  inserted_ascends [] o a = tt
  inserted_ascends (x ∷ es) o a =
      let k = is_keyed (key_of n) in
      by_test (every (precedes e) (x ∷ es)) refl (λ q. after x es (before x es (or_no_left (k x) (some k es) o) a q) (or_no_right (k x) (some k es) o) a)
    where
      by_test : (t : Bool) → every (precedes e) (x ∷ es) ≡ t → (every (precedes e) (x ∷ es) ≡ false → Ascends (x ∷ inserted e es)) → Ascends (cond t (e ∷ x ∷ es) (x ∷ inserted e es))
      by_test true q r = (every_first (precedes e) x es q, a)
      by_test false q r = r q

-- ---- an entry withdrawn

pub tail_ascends : (x : Entry) (es : List Entry) → Ascends (x ∷ es) → Ascends es
tail_ascends x [] a = tt
tail_ascends x (y ∷ es) a = a.1

next_left_out : (x y : Entry) (es : List Entry) → Ascends (x ∷ y ∷ es) → Ascends (x ∷ es)
next_left_out x y [] a = tt
next_left_out x y (z ∷ es) a = (goes_on x y z a.0 a.1.0, a.1.1)

after_less : (n : Key) (x : Entry) (es : List Entry) → Ascends (x ∷ es) → Ascends (x ∷ withdrawn n es)
unfolding withdrawn
after_less n x [] a = tt
after_less n x (y ∷ es) a = by_test (is_keyed n y) (after_less n y es a.1)
  where
    by_test : (t : Bool) → Ascends (y ∷ withdrawn n es) → Ascends (x ∷ cond t es (y ∷ withdrawn n es))
    by_test true r = next_left_out x y es a
    by_test false r = (a.0, r)

pub withdrawn_ascends : (n : Key) (es : List Entry) → Ascends es → Ascends (withdrawn n es)
unfolding withdrawn
withdrawn_ascends n [] a = tt
withdrawn_ascends n (x ∷ es) a = by_test (is_keyed n x)
  where
    by_test : (t : Bool) → Ascends (cond t es (x ∷ withdrawn n es))
    by_test true = tail_ascends x es a
    by_test false = after_less n x es a

-- ---- those only that pass a test

module _ (f : Entry → Bool) where
  after_only : (x : Entry) (es : List Entry) → Ascends (x ∷ es) → Ascends (x ∷ only f es)
  unfolding only
  after_only x [] a = tt
  after_only x (y ∷ es) a = by_test (f y) (after_only y es a.1) (after_only x es (next_left_out x y es a))
    where
      by_test : (t : Bool) → Ascends (y ∷ only f es) → Ascends (x ∷ only f es) → Ascends (x ∷ cond t (y ∷ only f es) (only f es))
      by_test true r q = (a.0, r)
      by_test false r q = q

  pub only_ascends : (es : List Entry) → Ascends es → Ascends (only f es)
  unfolding only
  only_ascends [] a = tt
  only_ascends (x ∷ es) a = by_test (f x) (after_only x es a) (only_ascends es (tail_ascends x es a))
    where
      by_test : (t : Bool) → Ascends (x ∷ only f es) → Ascends (only f es) → Ascends (cond t (x ∷ only f es) (only f es))
      by_test true r q = r
      by_test false r q = q
