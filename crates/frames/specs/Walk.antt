-- The walk: one owner's entries and the two lists of a cover, side by side. Document 02, F-12: entries in an inner range are delivered unchecked, entries that
-- are only in an outer range go through the point test, and the others are skipped. The definitions are for every list of entries, in order or not, and
-- for any two lists of ranges; that in an index every entry finds the ranges that its identifier is in: htm/specs/Frames.
--   natural z          the number z; 0 where it is below 0, as in no entry of an index
--   shortened d e      the identifier of the entry e, shortened to the depth d: divided by 4^(12 − d)
--   number_of e         the number of the entry e; 0 where it has more than 32 bits, as in no entry of an index
--   entries_of o l      the entries of the owner o in the list l, in their order; at most an owner's capacity, and in an index all of them
--   ahead i rs         the ranges rs from the first one on that does not end below the identifier i
--   begins i rs        the first of rs begins at i or below it
--   disposition_of ..   what becomes of an entry with the pointing p, by whether it is in an inner range, and in an outer one; `held` is the point test
--   WalkStep           an entry, and its disposition; walk_step e f: the one of these
--   walk d held ..     the walk over the entries es beside the outer ranges os and the inner ranges ns, each of which it leaves behind as it passes
--                      them
--   is_delivered f      the disposition f is that of an entry that is delivered; is_tested f: of one that is tested
--   delivered_by ms     the numbers of those delivered, in their order; tests_of ms: how many tests were made
use Rattle.std.specs.Prelude.{ℕ, ◌-◌, ◌/◌, ◌^◌, Bool, true, false, cond, ◌&&◌, ◌||◌, List, [], ◌∷◌, map, leb, ltb, take, ℤ, pos, negsuc}
use Rattle.algebra.specs.Lists.{tally}
use Rattle.vector.specs.declared.Vec3.{Vec3}
use Rattle.vector.specs.Vectors.{is_vector}
use Rattle.ranges.specs.declared.Range.{Range}
use Rattle.index.specs.declared.Entry.{Entry}
use Rattle.index.specs.Exposures.{OwnerCapacity, is_number, only}
use Rattle.index.specs.Entries.{is_owned, entries_in}
use Rattle.frames.specs.declared.Disposition.{Disposition}
use Rattle.frames.specs.declared.Disposition.TheVariants.{Skipped, Unchecked, Held, Discarded}

-- ---- entries

abbrev pub natural : ℤ → ℕ
natural (pos n) = n
natural (negsuc n) = 0

abbrev pub shortened : ℕ → Entry → ℕ
shortened d e = natural e.id / 4 ^ (12 - d)

abbrev pub number_of : Entry → ℕ
number_of e = cond (is_number (natural e.number)) (natural e.number) 0

abbrev pub entries_of : ℕ → List ℤ → List Entry
entries_of o l = take OwnerCapacity (only (is_owned o) (entries_in l))

-- ---- ranges

unfoldable pub ahead : ℕ → List Range → List Range
ahead i [] = []
ahead i (r ∷ rs) = cond (ltb r.high i) (ahead i rs) (r ∷ rs)

abbrev pub begins : ℕ → List Range → Bool
begins i [] = false
begins i (r ∷ rs) = leb r.low i

-- ---- the walk

abbrev pub disposition_of : (Vec3 → Bool) → Bool → Bool → Vec3 → Disposition
disposition_of held inner outer p = cond inner Unchecked (cond outer (cond (is_vector p && held p) Held Discarded) Skipped)

pub record WalkStep : Type 0 where
  pub entry : Entry
  pub disposition : Disposition

abbrev pub walk_step : Entry → Disposition → WalkStep
walk_step e f = record { entry = e; disposition = f }

unfoldable pub walk : ℕ → (Vec3 → Bool) → List Range → List Range → List Entry → List WalkStep
walk d held os ns [] = []
walk d held os ns (e ∷ es) =
    let i = shortened d e in
    let outer = ahead i os in
    let inner = ahead i ns in
    walk_step e (disposition_of held (begins i inner) (begins i outer) e.pointing) ∷ walk d held outer inner es

-- ---- what it delivers and counts

abbrev pub is_unchecked : Disposition → Bool
is_unchecked Skipped = false
is_unchecked Unchecked = true
is_unchecked Held = false
is_unchecked Discarded = false

abbrev pub is_held : Disposition → Bool
is_held Skipped = false
is_held Unchecked = false
is_held Held = true
is_held Discarded = false

abbrev pub is_discarded : Disposition → Bool
is_discarded Skipped = false
is_discarded Unchecked = false
is_discarded Held = false
is_discarded Discarded = true

abbrev pub is_delivered : Disposition → Bool
is_delivered f = is_unchecked f || is_held f

abbrev pub is_tested : Disposition → Bool
is_tested f = is_held f || is_discarded f

abbrev pub delivered_by : List WalkStep → List ℕ
delivered_by ms = map (λ m. number_of m.entry) (only (λ m. is_delivered m.disposition) ms)

abbrev pub tests_of : List WalkStep → ℕ
tests_of ms = tally (λ m. is_tested m.disposition) ms
