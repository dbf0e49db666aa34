-- The walk over entries in order, beside two lists that ascend: every entry gets the disposition of the ranges that its identifier is in, since what
-- the walk has left behind has no identifier that still comes. So what is delivered and tested is known entry by entry. Assumes nothing.
use Prim.Native.Nat.{ℕ, suc, ◌-◌, ◌/◌, ◌^◌, ◌≤◌}
use mathlib.Core.Path.{◌≡◌, refl, ap, ◌∙◌}
use mathlib.Core.Bool.{Bool, true, false, cond, ◌&&◌, false≢true}
use mathlib.Core.List.{List, [], ◌∷◌, map}
use native.Mathlib.Omega.{arith}
use native.Mathlib.Nat.{le_trans, one-le-pow, div-mul-le_self, le-div_iff_mul-le}
use lib.Dec.{lit<}
use lib.ListN.{length}
use lib.IntN.{ℤ, pos, negsuc}
use lib.Signed.{lt_z}
use borrow.Author.Tests.{ltb-true}
use Rattle.algebra.specs.Lists.{every, tally}
use Rattle.algebra.proofs.Tests.{and_left, and_right, and_both, or_cases}
use Rattle.vector.specs.declared.Vec3.{Vec3}
use Rattle.ranges.specs.declared.Range.{Range}
use Rattle.ranges.specs.Ranges.{in_some}
use Rattle.ranges.specs.Ranges as ranges
use Rattle.index.specs.declared.Entry.{Entry}
use Rattle.index.specs.Exposures.{only}
use Rattle.index.specs.Entries.{by_number, precedes}
use Rattle.index.proofs.OrderLaws.{eq_z_eq}
use Rattle.vector.specs.Numbers.{eq_z}
use Rattle.index.specs.HistoryCorrect as index
use Rattle.frames.specs.declared.Disposition.{Disposition}
use Rattle.frames.specs.Walk.{natural, shortened, number_of, ahead, begins, disposition_of, WalkStep, walk_step, walk, is_delivered, delivered_by}
use Rattle.frames.proofs.AheadLaws.{ahead_ascends, ahead_same, ahead_begins}

-- ---- identifiers that do not fall

abbrev Rising : ℕ → ℕ → List Entry → Type 0
Rising d i [] = Unit {0}
Rising d i (e ∷ es) = (i ≤ shortened d e) × Rising d (shortened d e) es

natural_less : (y z : ℤ) → lt_z y z ≡ true → natural y ≤ natural z
natural_less (pos a) (pos b) e = omega (arith, ltb-true a b e)
natural_less (pos a) (negsuc b) e = absurd (false≢true e)
natural_less (negsuc a) (pos b) e = omega arith
natural_less (negsuc a) (negsuc b) e = omega arith

-- an entry that precedes another has no greater identifier
precedes_le : (a b : Entry) → precedes a b ≡ true → natural a.id ≤ natural b.id
precedes_le a b e = or_cases (lt_z a.id b.id) (eq_z a.id b.id && by_number a b) e
    (λ t. natural_less a.id b.id t)
    (λ t. let s : a.id ≡ b.id = eq_z_eq a.id b.id (and_left (eq_z a.id b.id) (by_number a b) t) in omega (arith, ap natural s))

quotient_le : (k : ℕ) {a b : ℕ} → 1 ≤ k → a ≤ b → a / k ≤ b / k
quotient_le k {a} {b} p h = (le-div_iff_mul-le p).1 (le_trans (div-mul-le_self a k) h)

rising_from : (d i : ℕ) (e : Entry) (es : List Entry) → i ≤ shortened d e → index.Ascends (e ∷ es) → Rising d i (e ∷ es)
rising_from d i e [] h a = (h, tt)
rising_from d i e (f ∷ es) h a = (h, rising_from d (shortened d e) f es (quotient_le (4 ^ (12 - d)) (one-le-pow (12 - d) 4 (lit< tt)) (precedes_le e f a.0)) a.1)

rising : (d : ℕ) (es : List Entry) → index.Ascends es → Rising d 0 es
rising d [] a = tt
rising d (e ∷ es) a = rising_from d 0 e es (omega arith) a

-- ---- by the ranges that an identifier is in

-- what becomes of the entry e beside the outer ranges os and the inner ranges ns
abbrev pub disposition_in : ℕ → (Vec3 → Bool) → List Range → List Range → Entry → Disposition
disposition_in d held os ns e = disposition_of held (in_some (shortened d e) ns) (in_some (shortened d e) os) e.pointing

-- from i on an identifier is in a range of xs where it is in one of rs
abbrev Same : ℕ → List Range → List Range → Type 0
Same i xs rs = (j : ℕ) → i ≤ j → in_some j xs ≡ in_some j rs

module _ (d : ℕ) (held : Vec3 → Bool) (os ns : List Range) where
  walk_from : (i : ℕ) (es : List Entry) (xs ys : List Range) → Rising d i es → ranges.Ascends xs → ranges.Ascends ys → Same i xs os → Same i ys ns
      → walk d held xs ys es ≡ map (λ e. walk_step e (disposition_in d held os ns e)) es
  unfolding walk
  walk_from i [] xs ys r a b f g = refl
  walk_from i (e ∷ es) xs ys r a b f g =
      let j = shortened d e in
      let n : begins j (ahead j ys) ≡ in_some j ns = ahead_begins j ys b ∙ g j r.0 in
      let o : begins j (ahead j xs) ≡ in_some j os = ahead_begins j xs a ∙ f j r.0 in
      let rest = walk_from j es (ahead j xs) (ahead j ys) r.1 (ahead_ascends j xs a) (ahead_ascends j ys b)
      (λ k h. ahead_same j k h xs ∙ f k (omega (arith, r.0))) (λ k h. ahead_same j k h ys ∙ g k (omega (arith, r.0))) in
      λ k. walk_step e (disposition_of held (n k) (o k) e.pointing) ∷ rest k

  pub walk_all : (es : List Entry) → index.Ascends es → ranges.Ascends os → ranges.Ascends ns → walk d held os ns es ≡ map (λ e. walk_step e (disposition_in d held os ns e)) es
  walk_all es a b c = walk_from 0 es os ns (rising d es a) b c (λ j h. refl) (λ j h. refl)

  -- what is delivered and tested, entry by entry
  module _ (F : Entry → Disposition) where
    pub delivered_only : (es : List Entry) → delivered_by (map (λ e. walk_step e (F e)) es) ≡ map number_of (only (λ e. is_delivered (F e)) es)
    unfolding only
    delivered_only [] = refl
    delivered_only (e ∷ es) = by_test (is_delivered (F e)) (delivered_only es)
      where
        left : List WalkStep
        left = only (λ m. is_delivered m.disposition) (map (λ x. walk_step x (F x)) es)

        by_test : (t : Bool) → map (λ m. number_of m.entry) left ≡ map number_of (only (λ x. is_delivered (F x)) es)
            → map (λ m. number_of m.entry) (cond t (walk_step e (F e) ∷ left) left) ≡ map number_of (cond t (e ∷ only (λ x. is_delivered (F x)) es) (only (λ x. is_delivered (F x)) es))
        by_test true r = ap (λ l. number_of e ∷ l) r
        by_test false r = r

    pub tallied : (f : Disposition → Bool) (es : List Entry) → tally (λ m. f m.disposition) (map (λ e. walk_step e (F e)) es) ≡ tally (λ e. f (F e)) es
    unfolding tally
    tallied f [] = refl
    tallied f (e ∷ es) = ap (λ n. cond (f (F e)) (suc n) n) (tallied f es)

-- ---- two tests that agree where a third passes

module _ {A : Type 0} (p f g : A → Bool) (same : (x : A) → p x ≡ true → f x ≡ g x) where
  pub only_same : (xs : List A) → every p xs ≡ true → only f xs ≡ only g xs
  unfolding only every
  only_same [] h = refl
  only_same (x ∷ xs) h =
      let r = only_same xs (and_right (p x) (every p xs) h) in
      λ i. cond (same x (and_left (p x) (every p xs) h) i) (x ∷ r i) (r i)

  pub tally_same : (xs : List A) → every p xs ≡ true → tally f xs ≡ tally g xs
  unfolding tally every
  tally_same [] h = refl
  tally_same (x ∷ xs) h =
      let r = tally_same xs (and_right (p x) (every p xs) h) in
      λ i. cond (same x (and_left (p x) (every p xs) h) i) (suc (r i)) (r i)

-- ---- of those only that pass a test

module _ {A : Type 0} (f : A → Bool) where
  pub only_every : (p : A → Bool) (xs : List A) → every p xs ≡ true → every p (only f xs) ≡ true
  unfolding only every
  only_every p [] h = refl
  only_every p (x ∷ xs) h = by_test (f x) (only_every p xs (and_right (p x) (every p xs) h))
    where
      by_test : (t : Bool) → every p (only f xs) ≡ true → every p (cond t (x ∷ only f xs) (only f xs)) ≡ true
      by_test true r = and_both (and_left (p x) (every p xs) h) r
      by_test false r = r

  pub only_length : (xs : List A) → length (only f xs) ≡ tally f xs
  unfolding only tally
  only_length [] = refl
  only_length (x ∷ xs) = by_test (f x) (only_length xs)
    where
      by_test : (t : Bool) → length (only f xs) ≡ tally f xs → length (cond t (x ∷ only f xs) (only f xs)) ≡ cond t (suc (tally f xs)) (tally f xs)
      by_test true r = ap suc r
      by_test false r = r
