-- Exposures of two owners, and what a history of adds and removes leaves. Document 02, F-10: up to 2048 exposures, each an unsigned 32-bit number and a
-- pointing, added and removed singly; over every list of adds and removes from an empty index, the content is the set that the accepted ones leave.
-- F-11: an owner, 0 or 1, who may have 1024; one number may be used by both.
--   IndexCapacity     the most exposures that an index holds; OwnerCapacity: the most of one owner
--   is_owner o         0 or 1
--   Exposure          an owner, a number and a pointing; exposed o n p, exposure o n x y z: the one of these
--   is_number n        an unsigned 32-bit number
--   Key, key o n      owner and number, which identify an exposure; key_of x: the key of x
--   has_owner o x      x is an exposure of the owner o
--   has_key k x        x is the exposure with the key k
--   only f xs         the elements of xs that pass the test f, in their order
--   has_place m f xs   fewer than m of xs pass the test f, so that another one has a place beside them
--   Call              one exposure is added, or the one with a key removed; a history is a list of calls
--   without k xs      the exposures xs without the one with the key k
--   giving m c xs     the exposures after the call c, where xs are there and m is the most of one owner, or the call's refusal
--   content_of m h     the exposures that the history h leaves, from none
--   answers_of m h     what its calls answer: that they were done, or the refusal
use Rattle.std.specs.Prelude.{ℕ, Bool, cond, not, ◌&&◌, List, [], ◌∷◌, eqb, ltb, ℤ}
use Rattle.algebra.specs.Lists.{some, tally}
use Rattle.answer.specs.Answer.{Answer, refused, gives, check, with_value, Vector, Twice, Full, Absent, Owner}
use Rattle.vector.specs.declared.Vec3.{Vec3}
use Rattle.vector.specs.Vectors.{vec, is_vector}
use Rattle.index.specs.declared.Key.{Key}

abbrev pub IndexCapacity : ℕ
IndexCapacity = 2048

abbrev pub OwnerCapacity : ℕ
OwnerCapacity = 1024

abbrev pub is_owner : ℕ → Bool
is_owner o = ltb o 2

pub record Exposure : Type 0 where
  pub owner : ℕ
  pub number : ℕ
  pub pointing : Vec3

abbrev pub exposed : ℕ → ℕ → Vec3 → Exposure
exposed o n p = record { owner = o; number = n; pointing = p }

abbrev pub exposure : ℕ → ℕ → ℤ → ℤ → ℤ → Exposure
exposure o n x y z = exposed o n (vec x y z)

abbrev pub is_number : ℕ → Bool
is_number n = ltb n 4294967296

abbrev pub key : ℕ → ℕ → Key
key o n = record { owner = o; number = n }

abbrev pub key_of : Exposure → Key
key_of x = key x.owner x.number

abbrev pub has_owner : ℕ → Exposure → Bool
has_owner o x = eqb x.owner o

abbrev pub has_key : Key → Exposure → Bool
has_key k x = eqb x.number k.number && has_owner k.owner x

module _ {A : Type 0} where
  unfoldable pub only : (A → Bool) → List A → List A
  only f [] = []
  only f (x ∷ xs) = cond (f x) (x ∷ only f xs) (only f xs)

  abbrev pub has_place : ℕ → (A → Bool) → List A → Bool
  has_place most f xs = ltb (tally f xs) most

pub data Call : Type 0 where
  adds : Exposure → Call
  removes : Key → Call

-- ---- one call, over the exposures that are there, in any order

abbrev pub without : Key → List Exposure → List Exposure
without k xs = only (λ x. not (has_key k x)) xs

abbrev pub giving : ℕ → Call → List Exposure → Answer (List Exposure)
giving capacity (adds x) xs =
    check Owner (is_owner x.owner)
    (check Vector (is_vector x.pointing)
    (check Twice (not (some (has_key (key_of x)) xs))
    (check Full (has_place capacity (has_owner x.owner) xs)
    (gives (x ∷ xs)))))
giving capacity (removes k) xs = check Owner (is_owner k.owner) (check Absent (some (has_key k) xs) (gives (without k xs)))

-- ---- all calls, one after the other; a refused one changes nothing

abbrev pub leaving : Answer (List Exposure) → List Exposure → List Exposure
leaving (refused n) xs = xs
leaving (gives ys) xs = ys

abbrev pub answered : {A : Type 0} → Answer A → Answer (Unit {0})
answered a = with_value (λ _. tt) a

unfoldable pub content_from : ℕ → List Exposure → List Call → List Exposure
content_from capacity xs [] = xs
content_from capacity xs (c ∷ h) = content_from capacity (leaving (giving capacity c xs) xs) h

unfoldable pub answers_from : ℕ → List Exposure → List Call → List (Answer (Unit {0}))
answers_from capacity xs [] = []
answers_from capacity xs (c ∷ h) = answered (giving capacity c xs) ∷ answers_from capacity (leaving (giving capacity c xs) xs) h

abbrev pub content_of : ℕ → List Call → List Exposure
content_of capacity h = content_from capacity [] h

abbrev pub answers_of : ℕ → List Call → List (Answer (Unit {0}))
answers_of capacity h = answers_from capacity [] h
