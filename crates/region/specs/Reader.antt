-- The reader of region files of both styles. Document 01, 'Regions' and 'What is sent back'; document 02, F-7.
-- A file is checked for 1, then record by record, each record for 2, 3, 14 and 4 to 9 in this order.
--   File               what has been read: depth and budget as written, and the region
--   read_in k f         the file f, whose records may have the styles k, or its first refusal
--   read f             the file f, of either style, or its first refusal
--   Accepted f x       the file f is accepted, and says x
--   style_of f          the style of an accepted file: that of the record after its header, a convex or a group
--   AcceptedIn s f x   the file f is accepted, has the style s, and says x
-- In what follows `rest` is the file from the record on that is read next.
use Rattle.std.specs.Prelude.{ℕ, zero, suc, ◌+◌, ◌-◌, ◌≡◌, Bool, true, false, cond, ◌&&◌, List, [], ◌∷◌, leb, eqb, length, take, drop}
use Rattle.vector.specs.Numbers.{is_depth}
use Rattle.vector.specs.Vectors.{vec}
use Rattle.answer.specs.Answer.{Answer, refused, gives, check, then, with_value, Long, Torn, Order, Depth, Budget, Crowd, Mixed}
use Rattle.region.specs.declared.Halfspace.{Halfspace}
use Rattle.region.specs.Regions.{Convex, Region}
use Rattle.region.specs.Budgets.{is_budget}
use Rattle.region.specs.Building.{most_in_all, total, with_convex, begun, last_filled, few_convexes, add}
use Rattle.region.specs.Bytes.{word, signed}
use Rattle.region.specs.declared.Record.{Record}
use Rattle.region.specs.declared.Style.{Style}
use Rattle.region.specs.Records.{kind, record_of, Styles, fits, styles_after}

pub record File : Type 0 where
  pub depth : ℕ
  pub budget : ℕ
  pub region : Region

-- ---- a record: its length and kind, its payload, and what follows it

abbrev pub length_of : List ℕ → ℕ
length_of rest = word rest 0

abbrev pub kind_of : List ℕ → ℕ
kind_of rest = word rest 2

abbrev pub payload : List ℕ → List ℕ
payload rest = take (length_of rest - 4) (drop 4 rest)

abbrev pub after : List ℕ → List ℕ
after rest = drop (length_of rest) rest

-- 2: four bytes are left, the length is four or more, and not past the end
abbrev pub whole : List ℕ → Bool
whole rest = leb 4 (length rest) && (leb 4 (length_of rest) && leb (length_of rest) (length rest))

-- what the record is, or the refusal 2 or 3
abbrev pub record_at : List ℕ → Answer Record
record_at rest = check Torn (whole rest) (record_of (kind_of rest) (length_of rest))

-- ---- kind 1: the header, first and only there

abbrev pub header_of : List ℕ → Answer File
header_of s = check Depth (is_depth (word s 0)) (check Budget (is_budget (word s 2)) (gives (record { depth = word s 0; budget = word s 2; region = [] })))

abbrev pub header_in : Record → List ℕ → Answer File
header_in Record.Header s = header_of s
header_in Record.Convex s = refused Order
header_in Record.Halfspace s = refused Order
header_in Record.End s = refused Order
header_in (Record.Group n) s = refused Order

unfoldable pub header : List ℕ → Answer File
header rest = then (record_at rest) (λ r. header_in r (payload rest))

-- ---- the other kinds

abbrev pub with_region : File → Region → File
with_region x g = record { depth = x.depth; budget = x.budget; region = g }

-- kind 2: a convex begins, after none or one with halfspaces
abbrev pub convex_in : File → Answer File
convex_in x =
    check Order (cond (begun x.region) (last_filled x.region) true)
    (check Crowd (few_convexes (with_convex x.region)) (gives (with_region x (with_convex x.region))))

-- kind 3: a halfspace, in a convex
abbrev pub halfspace_of : List ℕ → Halfspace
halfspace_of s = record { n = vec (signed s 0) (signed s 4) (signed s 8); d = signed s 12 }

abbrev pub halfspace_in : File → Halfspace → Answer File
halfspace_in x h = check Order (begun x.region) (with_value (with_region x) (add x.region h))

-- kind 5: a convex begins, all its halfspaces are within the limit, and each is taken as one of kind 3
unfoldable pub halfspaces_of : ℕ → List ℕ → Convex
halfspaces_of zero s = []
halfspaces_of (suc n) s = halfspace_of s ∷ halfspaces_of n (drop 16 s)

unfoldable pub halfspaces_in : File → Convex → Answer File
halfspaces_in x [] = gives x
halfspaces_in x (h ∷ hs) = then (halfspace_in x h) (λ y. halfspaces_in y hs)

abbrev pub group_in : File → Convex → Answer File
group_in x c = then (convex_in x) (λ y. check Crowd (leb (total y.region + length c) most_in_all) (halfspaces_in y c))

-- kind 4: the end, after a convex with halfspaces, and no byte follows
abbrev pub end_in : File → List ℕ → Answer File
end_in x following = check Order (begun x.region && (last_filled x.region && eqb (length following) 0)) (gives x)

-- a record with its payload, and what follows it
abbrev pub part_in : File → Record → List ℕ → List ℕ → Answer File
part_in x Record.Header s following = refused Order
part_in x Record.Convex s following = convex_in x
part_in x Record.Halfspace s following = halfspace_in x (halfspace_of s)
part_in x Record.End s following = end_in x following
part_in x (Record.Group n) s following = group_in x (halfspaces_of n s)

-- a record of a file whose records may have the styles k
unfoldable pub record_in : Styles → File → List ℕ → Answer File
record_in k x rest = then (record_at rest) (λ r. check Mixed (fits k r) (part_in x r (payload rest) (after rest)))

-- ---- record by record to the end. The number bounds the records; a file has fewer of them than bytes.

unfoldable pub records_in : Styles → ℕ → File → List ℕ → Answer File
records_in k zero x rest = refused Torn
records_in k (suc n) x rest =
    then (record_in k x rest) (λ y. elim (eqb (kind_of rest) 4) [ true ↦ gives y | false ↦ records_in (styles_after k (kind_of rest)) n y (after rest) ])

abbrev pub read_in : Styles → List ℕ → Answer File
read_in k f = check Long (leb (length f) 10508) (then (header f) (λ x. records_in k (length f) x (after f)))

unfoldable pub read : List ℕ → Answer File
read f = read_in Styles.either f

-- a file is accepted when none of its checks fails: the file f is accepted, and x is what it says
abbrev pub Accepted : List ℕ → File → Type 0
Accepted f x = read f ≡ gives x

-- ---- the style of an accepted file

abbrev pub style_at : Answer Record → Style
style_at (refused n) = Style.Plain
style_at (gives r) = cond (eqb (kind r) 5) Style.Grouped Style.Plain

abbrev pub style_of : List ℕ → Style
style_of f = style_at (record_at (after f))

abbrev pub AcceptedIn : Style → List ℕ → File → Type 0
AcceptedIn s f x = (style_of f ≡ s) × Accepted f x
