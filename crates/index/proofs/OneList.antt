-- Entries that ascend are fixed by how many of them pass each test: two such lists are one. So what an index has of an owner is fixed by that owner's calls.
-- Assumes nothing.
use Prim.Native.Nat.{ℕ, suc}
use mathlib.Core.Path.{◌≡◌, sym, ap, subst, ◌∙◌, refl}
use mathlib.Core.Bool.{Bool, true, false, cond, ◌&&◌, true≢false, false≢true}
use mathlib.Core.List.{List, [], ◌∷◌}
use native.Mathlib.Omega.{arith}
use borrow.Author.Tests.{lt-ltb, ltb-true}
use lib.Dec.{ltb}
use lib.IntN.{ℤ, pos, negsuc}
use lib.Signed.{lt_z}
use Rattle.algebra.specs.Lists.{every, some, tally}
use Rattle.algebra.proofs.Tests.{and_left, and_right, and_both, or_cases, or_neither, and_no_right, split}
use Rattle.vector.specs.declared.Vec3.{Vec3}
use Rattle.vector.specs.Numbers.{eq_z}
use Rattle.index.specs.declared.Entry.{Entry}
use Rattle.index.specs.Entries.{precedes}
use Rattle.index.specs.HistoryCorrect.{Ascends}
use Rattle.index.proofs.TallyLaws.{some_tally}
use Rattle.index.proofs.OrderLaws.{eq_z_eq, eq_z_refl, goes_on, precedes_all, tail_ascends}

-- ---- the same entry

abbrev same_at : Vec3 → Vec3 → Bool
same_at p q = eq_z p.x q.x && (eq_z p.y q.y && eq_z p.z q.z)

abbrev same : Entry → Entry → Bool
same a b = eq_z a.id b.id && (eq_z a.number b.number && (eq_z a.owner b.owner && same_at a.pointing b.pointing))

same_at_law : (p q : Vec3) → same_at p q ≡ true → p ≡ q
same_at_law p q e =
    let r = and_right (eq_z p.x q.x) _ e in
    let x = eq_z_eq p.x q.x (and_left (eq_z p.x q.x) _ e) in
    let y = eq_z_eq p.y q.y (and_left (eq_z p.y q.y) _ r) in
    let z = eq_z_eq p.z q.z (and_right (eq_z p.y q.y) _ r) in
    λ i. record { x = x i; y = y i; z = z i }

same_is : (a b : Entry) → same a b ≡ true → a ≡ b
same_is a b e =
    let r = and_right (eq_z a.id b.id) _ e in
    let s = and_right (eq_z a.number b.number) _ r in
    let id = eq_z_eq a.id b.id (and_left (eq_z a.id b.id) _ e) in
    let number = eq_z_eq a.number b.number (and_left (eq_z a.number b.number) _ r) in
    let owner = eq_z_eq a.owner b.owner (and_left (eq_z a.owner b.owner) _ s) in
    let pointing = same_at_law a.pointing b.pointing (and_right (eq_z a.owner b.owner) _ s) in
    λ i. record { id = id i; number = number i; owner = owner i; pointing = pointing i }

same_self : (a : Entry) → same a a ≡ true
same_self a =
    and_both (eq_z_refl a.id) (and_both (eq_z_refl a.number) (and_both (eq_z_refl a.owner)
    (and_both (eq_z_refl a.pointing.x) (and_both (eq_z_refl a.pointing.y) (eq_z_refl a.pointing.z)))))

-- ---- no entry precedes itself

lt_z_self : (z : ℤ) → lt_z z z ≡ false
lt_z_self (pos n) = split (ltb n n) (λ e. absurd (omega (arith, ltb-true n n e))) (λ e. e)
lt_z_self (negsuc n) = split (ltb n n) (λ e. absurd (omega (arith, ltb-true n n e))) (λ e. e)

not_before_itself : (a : Entry) → precedes a a ≡ false
not_before_itself a =
    or_neither (lt_z_self a.id) (and_no_right (eq_z a.id a.id)
    (or_neither (lt_z_self a.number) (and_no_right (eq_z a.number a.number) (lt_z_self a.owner))))

-- ---- an entry of a list that ascends is the first, or behind it

behind : (a b : Entry) (fs : List Entry) → every (precedes b) fs ≡ true → some (same a) fs ≡ true → precedes b a ≡ true
unfolding every some
behind a b [] e s = absurd (false≢true s)
behind a b (y ∷ fs) e s =
    or_cases (same a y) (some (same a) fs) s
    (λ p. subst (λ v. precedes b v ≡ true) (sym (same_is a y p)) (and_left (precedes b y) _ e))
    (behind a b fs (and_right (precedes b y) _ e))

after_first : (b : Entry) (fs : List Entry) → Ascends (b ∷ fs) → every (precedes b) fs ≡ true
unfolding every
after_first b [] a = refl
after_first b (y ∷ fs) a = precedes_all b y fs a.1 a.0

first_or_behind : (a b : Entry) (fs : List Entry) {X : Type 0} → Ascends (b ∷ fs) → some (same a) (b ∷ fs) ≡ true → (a ≡ b → X) → (precedes b a ≡ true → X) → X
unfolding some
first_or_behind a b fs c s is-it is-behind = or_cases (same a b) (some (same a) fs) s (λ p. is-it (same_is a b p)) (λ p. is-behind (behind a b fs (after_first b fs c) p))

-- ---- the same tallies

abbrev SameTallies : List Entry → List Entry → Type 0
SameTallies es fs = (f : Entry → Bool) → tally f es ≡ tally f fs

has_first : (a : Entry) (es fs : List Entry) → SameTallies (a ∷ es) fs → some (same a) fs ≡ true
unfolding tally
has_first a es fs t =
    some_tally (same a) fs ∙ ap (ltb 0) (sym (t (same a)) ∙ ap (λ b. cond b (suc (tally (same a) es)) (tally (same a) es)) (same_self a))
    ∙ lt-ltb 0 (suc (tally (same a) es)) (omega arith)

less : (t : Bool) (m n : ℕ) → cond t (suc m) m ≡ cond t (suc n) n → m ≡ n
less true m n e = omega arith
less false m n e = e

no_first : (a : Entry) (es : List Entry) {X : Type 0} → SameTallies (a ∷ es) [] → X
unfolding some
no_first a es t = absurd (false≢true (has_first a es [] t))

firsts : (a b : Entry) (es fs : List Entry) → Ascends (a ∷ es) → Ascends (b ∷ fs) → SameTallies (a ∷ es) (b ∷ fs) → a ≡ b
firsts a b es fs c d t =
    first_or_behind a b fs d (has_first a es (b ∷ fs) t) (λ e. e)
    (λ p. first_or_behind b a es c (has_first b fs (a ∷ es) (λ f. sym (t f))) (λ e. sym e)
    (λ q. absurd (true≢false (sym (goes_on a b a q p) ∙ not_before_itself a))))

pub one_list : (es fs : List Entry) → Ascends es → Ascends fs → SameTallies es fs → es ≡ fs
unfolding tally
one_list [] [] c d t = refl
one_list [] (b ∷ fs) c d t = no_first b fs (λ f. sym (t f))
one_list (a ∷ es) [] c d t = no_first a es t
one_list (a ∷ es) (b ∷ fs) c d t =
    let e = firsts a b es fs c d t in
    let rest = one_list es fs (tail_ascends a es c) (tail_ascends b fs d)
    (λ f. less (f a) (tally f es) (tally f fs) (t f ∙ ap (λ x. cond (f x) (suc (tally f fs)) (tally f fs)) (sym e))) in
    λ i. e i ∷ rest i
