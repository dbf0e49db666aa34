-- Which of two checks comes first, where an input has two faults and no other law decides. Document 01, 'What is sent back'. Assumes nothing.
--   empty_before_crowd    a convex that begins after an empty one is 4, whatever the count of convexes: never 7
--   empty_refused         so is every file from that record on; sixty_fifth: the 65th convex, by computing
--   fives_before_rows     a row list that is not in whole fives is 4 in both styles, whatever its rows are: never 7, 8 or 9
use Prim.Native.Nat.{ℕ, zero, suc, ◌%◌}
use mathlib.Core.Path.{◌≡◌, refl, ap}
use mathlib.Core.Bool.{Bool, true, false}
use mathlib.Core.List.{List, [], ◌∷◌, ◌++◌}
use lib.Dec.{eqb, ltb}
use lib.ListN.{length}
use lib.IntN.{ℤ, pos, neg_ℤ}
use Rattle.answer.specs.Answer.{Answer, refused, gives, check, with_value, Order, Crowd}
use Rattle.vector.specs.Numbers.{K, is_depth}
use Rattle.vector.specs.Vectors.{vec, is_vector}
use Rattle.region.specs.declared.Record.{Record}
use Rattle.region.specs.declared.Style.{Style}
use Rattle.region.specs.Regions.{Convex}
use Rattle.region.specs.Budgets.{is_budget}
use Rattle.region.specs.Building.{last_convex, total, with_halfspace, begun, last_filled, add}
use Rattle.region.specs.Records.{Styles, fits}
use Rattle.region.specs.Reader.{File, record_at, header, convex_in, record_in, records_in, read}
use Rattle.region.specs.Rows.{region_of}
use Rattle.region.specs.Writer.{header_bytes, convex_bytes, halfspaces_bytes, convexes_bytes, file_in, write_in}

-- ---- a convex after an empty one

module _ (x : File) (has-convex : begun x.region ≡ true) (is_empty : last_filled x.region ≡ false) where
  pub empty_before_crowd : convex_in x ≡ refused Order
  empty_before_crowd = rw has-convex (rw is_empty)

  pub empty_refused : (k : Styles) (n : ℕ) (rest : List ℕ) → record_at rest ≡ gives Record.Convex → fits k Record.Convex ≡ true
      → records_in k (suc n) x rest ≡ refused Order
  unfolding records_in record_in
  empty_refused k n rest its-record its-style = rw its-record (rw its-style (rw has-convex (rw is_empty)))

-- the 65th convex of a file, after an empty 64th and after one with a halfspace
abbrev times : {A : Type 0} → ℕ → A → List A
times zero a = []
times (suc n) a = a ∷ times n a

abbrev convex : Convex
convex = record { n = vec (pos 0) (pos 0) K; d = neg_ℤ K } ∷ []

abbrev sixty_four : List ℕ
sixty_four = header_bytes 12 2048 ++ convexes_bytes (times 63 convex) ++ convex_bytes

pub sixty_fifth : (read (sixty_four ++ convex_bytes) ≡ refused Order)
    × (read (sixty_four ++ halfspaces_bytes convex ++ convex_bytes) ≡ refused Crowd)
unfolding read header record_in records_in halfspaces_bytes convexes_bytes add last_convex total with_halfspace is_vector
sixty_fifth = (refl, refl)

-- ---- a row list that is not in whole fives

order_twice : {A : Type 0} (t u : Bool) (a : Answer A) → u ≡ false → check Order t (check Order u a) ≡ refused Order
order_twice false u a e = refl
order_twice true u a e = rw e

pub fives_before_rows : (s : Style) (d b : ℕ) (rs : List ℤ) → is_depth d ≡ true → is_budget b ≡ true → eqb (length rs % 5) 0 ≡ false
    → write_in s d b rs ≡ refused Order
unfolding write_in region_of
fives_before_rows s d b rs depth budget fives =
    rw depth (rw budget (ap (with_value (file_in s d b)) (order_twice (ltb 0 (length rs)) (eqb (length rs % 5) 0) _ fives)))
