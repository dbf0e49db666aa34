-- No refusal has the number 0: every check has a number of its own, from 1 on. So a refusal for C, minus its number, is never the 0 of what is given.
-- Assumes nothing.
use Prim.Native.Nat.{ℕ, zero, suc, ◌+◌, ◌*◌}
use mathlib.Core.Path.{◌≡◌, refl, sym, subst}
use mathlib.Core.Bool.{Bool, true, false, cond, ◌&&◌}
use mathlib.Core.List.{List, [], ◌∷◌}
use lib.Dec.{ltb, leb, eqb}
use lib.ListN.{length}
use lib.IntN.{ℤ}
use Rattle.answer.specs.Answer.{Answer, refused, gives, check, then, with_value, Long, Torn, Kind, Order, Depth, Budget, Crowd, Vector, Offset, Space, Mixed, Owner}
use Rattle.answer.proofs.AnswerLaws.{refused_gives}
use Rattle.vector.specs.Numbers.{is_depth}
use Rattle.vector.specs.Vectors.{is_vector}
use Rattle.region.specs.declared.Halfspace.{Halfspace}
use Rattle.region.specs.declared.Record.{Record}
use Rattle.region.specs.Regions.{Convex}
use Rattle.region.specs.Budgets.{is_budget, budget_of}
use Rattle.region.specs.Building.{most_in_all, total, with_convex, begun, last_filled, few_convexes, below_limits, is_offset, add}
use Rattle.region.specs.Bytes.{word}
use Rattle.region.specs.Records.{is, first_of, known, Styles, fits, styles_after}
use Rattle.region.specs.Reader.{File, length_of, kind_of, payload, after, whole, record_at, header_in, header, with_region, convex_in, halfspace_of, halfspace_in}
use Rattle.region.specs.Reader.{halfspaces_of, halfspaces_in, part_in, record_in, records_in, read}
use Rattle.index.specs.Exposures.{is_owner}
use Rattle.index.specs.Entries.{IndexLength}
use Rattle.index.specs.Answers.{in_list}
use Rattle.trial.specs.declared.Setting.{Setting}
use Rattle.trial.specs.Answers.{check_setting, room_for, trial_into, trial_counts}
use Rattle.htm.specs.TrialFromC.{trial_into_c, trial_for_c}

-- an answer that is given, or refused with a number that is not 0
pub record Nonzero {A : Type 0} (a : Answer A) : Type 0 where
  pub number : (n : ℕ) → a ≡ refused n → ltb 0 n ≡ true

-- ---- answers one after the other

module _ {A : Type 0} where
  given : (x : A) → Nonzero (gives x)
  given x = record { number = λ n e. refused_gives n x (sym e) }

  refuses : (n : ℕ) → ltb 0 n ≡ true → Nonzero {A = A} (refused n)
  refuses n h = record { number = λ m e. let same : n ≡ m = cc in subst (λ k. ltb 0 k ≡ true) same h }

  checked : (n : ℕ) → ltb 0 n ≡ true → (t : Bool) (a : Answer A) → Nonzero a → Nonzero (check n t a)
  checked n h true a k = k
  checked n h false a k = refuses n h

  either : (t : Bool) (a b : Answer A) → Nonzero a → Nonzero b → Nonzero (cond t a b)
  either true a b h k = h
  either false a b h k = k

  stops : (t : Bool) (a b : Answer A) → Nonzero a → Nonzero b → Nonzero {A = A} (elim t [ true ↦ a | false ↦ b ])
  stops true a b h k = h
  stops false a b h k = k

module _ {A B : Type 0} where
  next : (a : Answer A) (f : A → Answer B) → Nonzero a → ((x : A) → Nonzero (f x)) → Nonzero (then a f)
  next (refused n) f h k = refuses n (h.number n refl)
  next (gives x) f h k = k x

  changed : (f : A → B) (a : Answer A) → Nonzero a → Nonzero (with_value f a)
  changed f (refused n) h = refuses n (h.number n refl)
  changed f (gives x) h = given (f x)

-- ---- the reader of a file

first_of_law : (n len : ℕ) (rs : List Record) → Nonzero (first_of n len rs)
first_of_law n len [] = refuses Kind refl
first_of_law n len (r ∷ rs) = either (is n len r) (gives r) (first_of n len rs) (given r) (first_of_law n len rs)

record_at_law : (rest : List ℕ) → Nonzero (record_at rest)
record_at_law rest = checked Torn refl (whole rest) _ (first_of_law (kind_of rest) (length_of rest) (known (length_of rest)))

header_in_law : (r : Record) (s : List ℕ) → Nonzero (header_in r s)
header_in_law Record.Header s = checked Depth refl (is_depth (word s 0)) _ (checked Budget refl (is_budget (word s 2)) _ (given _))
header_in_law Record.Convex s = refuses Order refl
header_in_law Record.Halfspace s = refuses Order refl
header_in_law Record.End s = refuses Order refl
header_in_law (Record.Group n) s = refuses Order refl

header_nonzero : (rest : List ℕ) → Nonzero (header rest)
unfolding header
header_nonzero rest = next (record_at rest) _ (record_at_law rest) (λ r. header_in_law r (payload rest))

convex_in_law : (x : File) → Nonzero (convex_in x)
convex_in_law x =
    checked Order refl (cond (begun x.region) (last_filled x.region) true) _
    (checked Crowd refl (few_convexes (with_convex x.region)) _ (given _))

halfspace_in_law : (x : File) (h : Halfspace) → Nonzero (halfspace_in x h)
unfolding add
halfspace_in_law x h =
    checked Order refl (begun x.region) _
    (changed (with_region x) (add x.region h)
    (checked Crowd refl (below_limits x.region) _ (checked Vector refl (is_vector h.n) _ (checked Offset refl (is_offset h.d) _ (given _)))))

halfspaces_in_law : (x : File) (c : Convex) → Nonzero (halfspaces_in x c)
unfolding halfspaces_in
halfspaces_in_law x [] = given x
halfspaces_in_law x (h ∷ hs) = next (halfspace_in x h) _ (halfspace_in_law x h) (λ y. halfspaces_in_law y hs)

part_in_law : (x : File) (r : Record) (s following : List ℕ) → Nonzero (part_in x r s following)
part_in_law x Record.Header s following = refuses Order refl
part_in_law x Record.Convex s following = convex_in_law x
part_in_law x Record.Halfspace s following = halfspace_in_law x (halfspace_of s)
part_in_law x Record.End s following = checked Order refl (begun x.region && (last_filled x.region && eqb (length following) 0)) _ (given x)
part_in_law x (Record.Group n) s following =
    let c = halfspaces_of n s in
    next (convex_in x) _ (convex_in_law x) (λ y. checked Crowd refl (leb (total y.region + length c) most_in_all) _ (halfspaces_in_law y c))

record_in_law : (k : Styles) (x : File) (rest : List ℕ) → Nonzero (record_in k x rest)
unfolding record_in
record_in_law k x rest = next (record_at rest) _ (record_at_law rest) (λ r. checked Mixed refl (fits k r) _ (part_in_law x r (payload rest) (after rest)))

records_in_law : (k : Styles) (n : ℕ) (x : File) (rest : List ℕ) → Nonzero (records_in k n x rest)
unfolding records_in
records_in_law k zero x rest = refuses Torn refl
records_in_law k (suc n) x rest =
    let styles = styles_after k (kind_of rest) in
    next (record_in k x rest) _ (record_in_law k x rest)
    (λ y. stops (eqb (kind_of rest) 4) (gives y) (records_in styles n y (after rest)) (given y) (records_in_law styles n y (after rest)))

pub read_nonzero : (f : List ℕ) → Nonzero (read f)
unfolding read
read_nonzero f =
    checked Long refl (leb (length f) 10508) _ (next (header f) _ (header_nonzero f) (λ x. records_in_law Styles.either (length f) x (after f)))

-- ---- a trial for C

module _ (o : ℕ) (l : List ℤ) (f : List ℕ) (s t : Setting) (first second numbers : List ℕ) where
  rooms : (x : File) → Nonzero (room_for s first (room_for t second (in_list l (gives x))))
  rooms x =
      checked Space refl (leb (4 * budget_of s.budget) (length first)) _
      (checked Space refl (leb (4 * budget_of t.budget) (length second)) _ (checked Space refl (leb IndexLength (length l)) _ (given x)))

  setting : (u : Setting) {a : Answer File} → Nonzero a → Nonzero (check_setting u a)
  setting u h = checked Depth refl (is_depth u.depth) _ (checked Budget refl (is_budget u.budget) _ h)

  pub trial_nonzero : Nonzero (trial_for_c o l f s t first second numbers)
  unfolding trial_for_c
  trial_nonzero =
      changed _ (trial_into_c o l f s t first second numbers)
      (next (trial_into o l f s t first second) _
      (checked Owner refl (is_owner o) _ (next (read f) _ (read_nonzero f) (λ x. setting s (setting t (rooms x)))))
      (λ x. checked Space refl (leb trial_counts (length numbers)) _ (given x)))
