-- The two lists under a budget. Document 01, 'The two lists'. The ranges that go in ascend.
--   joined rs       touching ranges join
--   earliest xs     the place of the smallest of some numbers, the earliest among equals
--   while_more       while there are more ranges than the budget, do a step
--   gap a b         how many identifiers lie between two neighbours
--   outer_of b rs    the outer list: while there are more than b, join over the smallest gap, the earliest among equals
--   size a          how many identifiers a range has
--   inner_of b rs    the inner list: while there are more than b, drop the shortest, the earliest among equals
use Rattle.std.specs.Prelude.{ℕ, zero, suc, ◌+◌, ◌-◌, min, Bool, cond, List, [], ◌∷◌, map, eqb, ltb, length}
use Rattle.ranges.specs.declared.Range.{Range}

-- ---- touching ranges join

-- from the first number of a to the last of b
abbrev pub over : Range → Range → Range
over a b = record { low = a.low; high = b.high }

abbrev pub touch : Range → Range → Bool
touch a b = eqb (a.high + 1) b.low

-- a, then the rest
unfoldable pub joined_from : Range → List Range → List Range
joined_from a [] = a ∷ []
joined_from a (b ∷ rest) = cond (touch a b) (joined_from (over a b) rest) (a ∷ joined_from b rest)

unfoldable pub joined : List Range → List Range
joined [] = []
joined (a ∷ rest) = joined_from a rest

-- ---- the smallest of some numbers, and its place, the earliest among equals

unfoldable pub smallest : List ℕ → ℕ
smallest [] = 0
smallest (x ∷ []) = x
smallest (x ∷ y ∷ rest) = min x (smallest (y ∷ rest))

-- the place of the first x
unfoldable pub place : ℕ → List ℕ → ℕ
place x [] = 0
place x (y ∷ rest) = cond (eqb x y) 0 (suc (place x rest))

unfoldable pub earliest : List ℕ → ℕ
earliest xs = place (smallest xs) xs

-- ---- while there are more than the budget, do a step. Each step takes one range away, so the fuel, the length, is enough.

unfoldable pub while_more : (List Range → List Range) → ℕ → ℕ → List Range → List Range
while_more step budget zero xs = xs
while_more step budget (suc fuel) xs = cond (ltb budget (length xs)) (while_more step budget fuel (step xs)) xs

-- ---- outer: join over the smallest gap, the earliest among equals

abbrev pub gap : Range → Range → ℕ
gap a b = b.low - a.high - 1

unfoldable pub gaps : List Range → List ℕ
gaps [] = []
gaps (a ∷ []) = []
gaps (a ∷ b ∷ rest) = gap a b ∷ gaps (b ∷ rest)

-- join range number i and the next
unfoldable pub join_at : ℕ → List Range → List Range
join_at i [] = []
join_at i (a ∷ []) = a ∷ []
join_at zero (a ∷ b ∷ rest) = over a b ∷ rest
join_at (suc i) (a ∷ b ∷ rest) = a ∷ join_at i (b ∷ rest)

unfoldable pub join_smallest : List Range → List Range
join_smallest xs = join_at (earliest (gaps xs)) xs

unfoldable pub outer_of : ℕ → List Range → List Range
outer_of budget ranges = while_more join_smallest budget (length (joined ranges)) (joined ranges)

-- ---- inner: drop the shortest, the earliest among equals

abbrev pub size : Range → ℕ
size a = a.high - a.low + 1

-- the list without number i
unfoldable pub without {ℓ} : {A : Type ℓ} → ℕ → List A → List A
without i [] = []
without zero (a ∷ rest) = rest
without (suc i) (a ∷ rest) = a ∷ without i rest

unfoldable pub drop_shortest : List Range → List Range
drop_shortest xs = without (earliest (map size xs)) xs

unfoldable pub inner_of : ℕ → List Range → List Range
inner_of budget ranges = while_more drop_shortest budget (length (joined ranges)) (joined ranges)
