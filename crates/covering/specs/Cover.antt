-- The cutting and the two lists. Document 01, 'The two lists'; the counts of identifiers: document 02, F-4.
--   Found           what a cutting finds: accepted ranges, the ranges of full trixels, `seen`, the trixels classified, and `partial`, the partial ones at
--                   the depth
--   parted f t i    what f finds in the four children of t
--   visit n g t i   the cutting of the trixel t with identifier i, n levels above the depth, for the region g
--   cutting d g     the cutting of the eight roots to the depth d, in identifier order
--   Cover           the outer and the inner list, seen, and three counts of identifiers at the depth: `full`, the descendants of the full trixels, and
--                   `partial`, the partial trixels, both as they are accepted and before any joining, and `swallowed`, those in the gaps joined over
--   cover_of d b g   the cover of the region g to the depth d, with the budget b as a header has it
--   cover x         the cover of a file that was read: by its depth, budget and region
--   counts_of c      how many ranges both lists have, seen, full, partial and swallowed; counts_list: as numbers, `cover_counts` of them
--   both_listed b c  the two lists in a lent list
--   SeenBound       seen is at most 8(4^depth − 1)/3 (proofs/CoverLaws)
use Rattle.std.specs.Prelude.{ℕ, zero, suc, ◌+◌, ◌-◌, ◌*◌, ◌^◌, ◌≤◌, List, [], ◌∷◌, ◌++◌, length}
use Rattle.answer.specs.Lent.{put}
use Rattle.mesh.specs.declared.Trixel.{Trixel}
use Rattle.mesh.specs.Trixels.{child, root_trixel}
use Rattle.region.specs.Regions.{Region}
use Rattle.region.specs.Budgets.{budget_of}
use Rattle.region.specs.Reader.{File, Accepted}
use Rattle.classify.specs.declared.Class.TheVariants.{Outside, Partial, Full}
use Rattle.classify.specs.Classes.{region_class}
use Rattle.ranges.specs.declared.Range.{Range}
use Rattle.ranges.specs.Ranges.{pairs}
use Rattle.ranges.specs.Lists.{outer_of, inner_of}
use Rattle.ranges.specs.Contents.{identifiers, swallowed_of}
use Rattle.covering.specs.declared.Counts.{Counts}

pub record Found : Type 0 where
  pub accepted : List Range
  pub full : List Range
  pub seen : ℕ
  pub partial : ℕ

-- the descendants of i, n levels further down
abbrev pub descendants : ℕ → ℕ → Range
descendants n i = record { low = i * 4 ^ n; high = (i + 1) * 4 ^ n - 1 }

-- ---- one trixel that is not cut

abbrev pub left_out : Found
left_out = record { accepted = []; full = []; seen = 1; partial = 0 }

abbrev pub taken_full : Range → Found
taken_full r = record { accepted = r ∷ []; full = r ∷ []; seen = 1; partial = 0 }

abbrev pub taken_partial : Range → Found
taken_partial r = record { accepted = r ∷ []; full = []; seen = 1; partial = 1 }

-- ---- several

abbrev pub both : Found → Found → Found
both a b = record {
  accepted = a.accepted ++ b.accepted;
  full = a.full ++ b.full;
  seen = a.seen + b.seen;
  partial = a.partial + b.partial;
}

abbrev pub four : Found → Found → Found → Found → Found
four a b c d = both a (both b (both c d))

-- a trixel that is cut counts as seen too
abbrev pub cut_into : Found → Found
cut_into a = record { accepted = a.accepted; full = a.full; seen = 1 + a.seen; partial = a.partial }

-- the four children of the trixel t with identifier i, each by f
abbrev pub parted : (Trixel → ℕ → Found) → Trixel → ℕ → Found
parted f t i = four
    (f (child 0 t) (4 * i + 0)) (f (child 1 t) (4 * i + 1))
    (f (child 2 t) (4 * i + 2)) (f (child 3 t) (4 * i + 3))

-- full trixels, and partial ones at the depth, are accepted; partial ones above the depth are cut
unfoldable pub visit : ℕ → Region → Trixel → ℕ → Found
visit zero g t i = elim (region_class g t) [
  | Outside ↦ left_out
  | Partial ↦ taken_partial (descendants 0 i)
  | Full ↦ taken_full (descendants 0 i)
]
visit (suc n) g t i = elim (region_class g t) [
  | Outside ↦ left_out
  | Partial ↦ cut_into (parted (visit n g) t i)
  | Full ↦ taken_full (descendants (suc n) i)
]

-- the roots are 8 to 15
abbrev pub visit_root : ℕ → Region → ℕ → Found
visit_root n g k = visit n g (root_trixel k) (8 + k)

unfoldable pub cutting : ℕ → Region → Found
cutting d g = both
    (four (visit_root (d - 1) g 0) (visit_root (d - 1) g 1) (visit_root (d - 1) g 2) (visit_root (d - 1) g 3))
    (four (visit_root (d - 1) g 4) (visit_root (d - 1) g 5) (visit_root (d - 1) g 6) (visit_root (d - 1) g 7))

pub record Cover : Type 0 where
  pub outer : List Range
  pub inner : List Range
  pub seen : ℕ
  pub full : ℕ
  pub partial : ℕ
  pub swallowed : ℕ

-- the lists of what was found, at most b ranges each, and what they contain
abbrev pub listed : ℕ → Found → Cover
listed b a = record {
  outer = outer_of b a.accepted;
  inner = inner_of b a.full;
  seen = a.seen;
  full = identifiers a.full;
  partial = a.partial;
  swallowed = swallowed_of b a.accepted;
}

unfoldable pub cover_of : ℕ → ℕ → Region → Cover
cover_of d b g = listed (budget_of b) (cutting d g)

abbrev pub cover : File → Cover
cover x = cover_of x.depth x.budget x.region

-- ---- the counts, and the lists in a lent list: the outer list at element 0, the inner list at element 2 × b

abbrev pub counts_of : Cover → Counts
counts_of c = record {
  outer = length c.outer;
  inner = length c.inner;
  seen = c.seen;
  full = c.full;
  partial = c.partial;
  swallowed = c.swallowed;
}

-- as numbers, and how many they are
abbrev pub counts_list : Counts → List ℕ
counts_list c = c.outer ∷ c.inner ∷ c.seen ∷ c.full ∷ c.partial ∷ c.swallowed ∷ []

abbrev pub cover_counts : ℕ
cover_counts = 6

abbrev pub both_listed : ℕ → Cover → List ℕ → List ℕ
both_listed b c before = put (2 * b) (pairs c.inner) (put 0 (pairs c.outer) before)

-- ---- how many trixels are classified

abbrev pub SeenBound : Type 0
SeenBound = (f : List ℕ) (x : File) → Accepted f x → 3 * (cover x).seen ≤ 8 * (4 ^ x.depth - 1)
