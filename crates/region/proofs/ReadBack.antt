-- The reader takes what the writer writes: of a region that is good and within the limits, the file that is written in either style is accepted and says
-- the same. Assumes nothing.
use Prim.Native.Nat.{ℕ, suc, ◌+◌, ◌-◌, ◌*◌, ◌/◌, ◌%◌, ◌≤◌, ◌<◌}
use native.Mathlib.Omega.{arith}
use mathlib.Core.Path.{◌≡◌, refl, sym, ap, ap₂, ◌∙◌}
use mathlib.Core.Bool.{Bool, true, cond}
use mathlib.Core.List.{List, [], ◌∷◌, ◌++◌, append_assoc, append-nil}
use lib.Dec.{leb, ltb}
use lib.ListN.{length, length-append}
use lib.Seq.{take_at, drop_at}
use lib.IntN.{ℤ, pos, negsuc}
use borrow.Author.Tests.{le-leb, lt-ltb, le-ltb, eq-eqb}
use Rattle.algebra.proofs.Tests.{and_both}
use Rattle.algebra.proofs.Sizes.{Upto}
use Rattle.vector.specs.Numbers.{Kℕ, is_depth}
use Rattle.vector.specs.Vectors.{vec, is_vector}
use Rattle.vector.proofs.SizeLaws.{between_upto}
use Rattle.vector.proofs.VectorLaws.{vector_small}
use Rattle.answer.specs.Answer.{gives, check, then, with_value, Long, Torn, Order, Depth, Budget, Crowd, Vector, Offset, Mixed}
use Rattle.region.specs.declared.Halfspace.{Halfspace}
use Rattle.region.specs.declared.Record.{Record}
use Rattle.region.specs.declared.Style.{Style}
use Rattle.region.specs.Regions.{Convex, Region}
use Rattle.region.specs.Budgets.{is_budget}
use Rattle.region.specs.Building.{is_offset, last_convex, total, with_convex, with_halfspace, begun, last_filled, few_convexes, add}
use Rattle.region.specs.Bytes.{signed_of, signed, bits_of, signed_bytes}
use Rattle.region.specs.Records.{first_of, record_of, Styles, fits}
use Rattle.region.specs.Reader.{File, length_of, kind_of, payload, after, record_at, header_in, header, with_region, convex_in, halfspace_of, halfspace_in, halfspaces_of, halfspaces_in, group_in, part_in, record_in, records_in, read_in, style_at, AcceptedIn}
use Rattle.region.specs.Writer.{header_bytes, convex_bytes, numbers_bytes, halfspace_bytes, end_bytes, halfspaces_bytes, convexes_bytes, payload_bytes, group_bytes, groups_bytes, region_bytes, file_in}
use Rattle.region.proofs.AddLaws.{GoodHalfspace}
use Rattle.region.proofs.StyleLaws.{in_style_law}

-- ---- numbers

two_bytes : (n : ℕ) → n % 256 + 256 * (n / 256) ≡ n
two_bytes n = omega arith

four_bytes : (b : ℕ) → b % 65536 % 256 + 256 * (b % 65536 / 256) + 65536 * (b / 65536 % 256 + 256 * (b / 65536 / 256)) ≡ b
four_bytes b = omega (arith, two_bytes (b % 65536), two_bytes (b / 65536))

signed_bits : (z : ℤ) → Upto Kℕ z → signed_of (bits_of z) ≡ z
signed_bits (pos n) h = rw (lt-ltb n 2147483648 (omega (arith, h.le)))
signed_bits (negsuc n) h =
    let l : suc n ≤ 1048576 = h.le in
    let e : 4294967296 - suc (4294967296 - suc n) ≡ n = omega arith in
    rw (le-ltb (4294967296 - suc n) 2147483648 (omega arith), lt-ltb (4294967296 - suc n) 4294967296 (omega arith)) (ap negsuc e)

signed_back : (z : ℤ) (rest : List ℕ) → Upto Kℕ z → signed (signed_bytes z ++ rest) 0 ≡ z
signed_back z rest h = ap signed_of (four_bytes (bits_of z)) ∙ signed_bits z h

-- ---- a halfspace's record

halfspace_back : (h : Halfspace) (rest : List ℕ) → GoodHalfspace h → halfspace_of (numbers_bytes h ++ rest) ≡ h
halfspace_back h rest f =
    let b = vector_small h.n f.vector in
    let o = between_upto h.d f.offset in
    λ i. record { n = vec (signed_back h.n.x [] b.x i) (signed_back h.n.y [] b.y i) (signed_back h.n.z [] b.z i); d = signed_back h.d [] o i }

-- a record that is whole, of a known kind and length
module _ (rest : List ℕ) (r : Record) (least : 4 ≤ length_of rest) (most : length_of rest ≤ length rest) (known : record_of (kind_of rest) (length_of rest) ≡ gives r) where
  at_record : record_at rest ≡ gives r
  at_record =
      let four = le-leb 4 (length rest) (omega arith) in
      ap (λ t. check Torn t (record_of (kind_of rest) (length_of rest)))
      (and_both four (and_both (le-leb 4 (length_of rest) least) (le-leb (length_of rest) (length rest) most))) ∙ known

  in_record : (k : Styles) (x : File) → fits k r ≡ true → record_in k x rest ≡ part_in x r (payload rest) (after rest)
  unfolding record_in
  in_record k x fit =
      ap (λ a. then a (λ r. check Mixed (fits k r) (part_in x r (payload rest) (after rest)))) at_record
      ∙ ap (λ t. check Mixed t (part_in x r (payload rest) (after rest))) fit

abbrev plain : Styles
plain = Styles.only Style.Plain

abbrev grouped : Styles
grouped = Styles.only Style.Grouped

-- ---- a region and its last convex

abbrev file : ℕ → ℕ → Region → File
file d b g = record { depth = d; budget = b; region = g }

pub last_of : (g : Region) (c : Convex) → last_convex (g ++ c ∷ []) ≡ c
unfolding last_convex
last_of [] c = refl
last_of (a ∷ []) c = refl
last_of (a ∷ b ∷ g) c = last_of (b ∷ g) c

total_of : (g : Region) (c : Convex) → total (g ++ c ∷ []) ≡ total g + length c
unfolding total
total_of [] c = omega arith
total_of (a ∷ g) c = omega (arith, total_of g c)

pub with_last : (g : Region) (c : Convex) (h : Halfspace) → with_halfspace (g ++ c ∷ []) h ≡ g ++ (c ++ h ∷ []) ∷ []
unfolding with_halfspace
with_last [] c h = refl
with_last (a ∷ []) c h = refl
with_last (a ∷ b ∷ g) c h = ap (λ l. a ∷ l) (with_last (b ∷ g) c h)

begun_of : (g : Region) (c : Convex) → begun (g ++ c ∷ []) ≡ true
begun_of g c = lt-ltb 0 (length (g ++ c ∷ [])) (omega (arith, length-append g (c ∷ [])))

-- ---- a halfspace that passes

abbrev pub GoodConvex : Convex → Type 0
GoodConvex [] = Unit {0}
GoodConvex (h ∷ hs) = GoodHalfspace h × GoodConvex hs

add_passes : (g : Region) (c : Convex) (h : Halfspace) → GoodHalfspace h → length c < 100 → total g + length c < 512 → add (g ++ c ∷ []) h ≡ gives (g ++ (c ++ h ∷ []) ∷ [])
unfolding add
add_passes g c h f l t =
    let a : ltb (length (last_convex (g ++ c ∷ []))) 100 ≡ true = ap (λ x. ltb (length x) 100) (last_of g c) ∙ lt-ltb (length c) 100 l in
    let b : ltb (total (g ++ c ∷ [])) 512 ≡ true = ap (λ x. ltb x 512) (total_of g c) ∙ lt-ltb (total g + length c) 512 t in
    ap (λ u. check Crowd u (check Vector (is_vector h.n) (check Offset (is_offset h.d) (gives (with_halfspace (g ++ c ∷ []) h))))) (and_both a b)
    ∙ ap (λ u. check Vector u (check Offset (is_offset h.d) (gives (with_halfspace (g ++ c ∷ []) h)))) f.vector
    ∙ ap (λ u. check Offset u (gives (with_halfspace (g ++ c ∷ []) h))) f.offset
    ∙ ap gives (with_last g c h)

halfspace_taken : (d b : ℕ) (g : Region) (c : Convex) (h : Halfspace) → GoodHalfspace h → length c < 100 → total g + length c < 512
    → halfspace_in (file d b (g ++ c ∷ [])) h ≡ gives (file d b (g ++ (c ++ h ∷ []) ∷ []))
halfspace_taken d b g c h f l t =
    ap (λ u. check Order u (with_value (with_region (file d b (g ++ c ∷ []))) (add (g ++ c ∷ []) h))) (begun_of g c)
    ∙ ap (with_value (with_region (file d b (g ++ c ∷ [])))) (add_passes g c h f l t)

halfspace_step : (d b : ℕ) (g : Region) (c : Convex) (h : Halfspace) (rest : List ℕ) → GoodHalfspace h → length c < 100 → total g + length c < 512
    → record_in plain (file d b (g ++ c ∷ [])) (halfspace_bytes h ++ rest) ≡ gives (file d b (g ++ (c ++ h ∷ []) ∷ []))
halfspace_step d b g c h rest f l t =
    in_record (halfspace_bytes h ++ rest) Record.Halfspace (omega arith) (omega arith) refl plain (file d b (g ++ c ∷ [])) refl
    ∙ ap (halfspace_in (file d b (g ++ c ∷ []))) (halfspace_back h [] f)
    ∙ halfspace_taken d b g c h f l t

-- the number n plus one step for each element
abbrev steps : {A : Type 0} → List A → ℕ → ℕ
steps [] n = n
steps (x ∷ xs) n = suc (steps xs n)

halfspaces_in_law : (n d b : ℕ) (g : Region) (c hs : Convex) (tail : List ℕ) → GoodConvex hs → length c + length hs ≤ 100 → total g + length c + length hs ≤ 512
    → records_in plain (steps hs n) (file d b (g ++ c ∷ [])) (halfspaces_bytes hs ++ tail) ≡ records_in plain n (file d b (g ++ (c ++ hs) ∷ [])) tail
unfolding halfspaces_bytes records_in
halfspaces_in_law n d b g c [] tail f l t = ap (λ x. records_in plain n (file d b (g ++ x ∷ [])) tail) (sym (append-nil c))
halfspaces_in_law n d b g c (h ∷ hs) tail f l t =
    let s = length-append c (h ∷ []) in
    ap (λ a. then a (λ y. records_in plain (steps hs n) y (halfspaces_bytes hs ++ tail))) (halfspace_step d b g c h (halfspaces_bytes hs ++ tail) f.0 (omega arith) (omega arith))
    ∙ halfspaces_in_law n d b g (c ++ h ∷ []) hs tail f.1 (omega arith) (omega arith)
    ∙ ap (λ x. records_in plain n (file d b (g ++ x ∷ [])) tail) (append_assoc c (h ∷ []) hs)

-- ---- convexes

-- every convex has 1 to 100 halfspaces, all of them good
abbrev pub GoodConvexes : Region → Type 0
GoodConvexes [] = Unit {0}
GoodConvexes (c ∷ cs) = GoodConvex c × (1 ≤ length c) × (length c ≤ 100) × GoodConvexes cs

-- a new convex may begin
abbrev closed : Region → Bool
closed g = cond (begun g) (last_filled g) true

convex_taken : (d b : ℕ) (g : Region) → closed g ≡ true → length g < 64 → convex_in (file d b g) ≡ gives (file d b (with_convex g))
convex_taken d b g c l =
    ap (λ u. check Order u (check Crowd (few_convexes (with_convex g)) (gives (file d b (with_convex g))))) c
    ∙ ap (λ u. check Crowd u (gives (file d b (with_convex g)))) (le-leb (length (with_convex g)) 64 (omega (arith, length-append g ([] ∷ []))))

convex_step : (d b : ℕ) (g : Region) (rest : List ℕ) → closed g ≡ true → length g < 64
    → record_in plain (file d b g) (convex_bytes ++ rest) ≡ gives (file d b (g ++ [] ∷ []))
convex_step d b g rest c l =
    in_record (convex_bytes ++ rest) Record.Convex (omega arith) (omega arith) refl plain (file d b g) refl ∙ convex_taken d b g c l

filled_of : (g : Region) (c : Convex) → 1 ≤ length c → last_filled (g ++ c ∷ []) ≡ true
filled_of g c h = ap (λ x. ltb 0 (length x)) (last_of g c) ∙ lt-ltb 0 (length c) h

closed_of : (g : Region) (c : Convex) → 1 ≤ length c → closed (g ++ c ∷ []) ≡ true
closed_of g c h = ap (λ t. cond t (last_filled (g ++ c ∷ [])) true) (begun_of g c) ∙ filled_of g c h

abbrev all_steps : Region → ℕ → ℕ
all_steps [] n = n
all_steps (c ∷ cs) n = suc (steps c (all_steps cs n))

convexes_in : (n d b : ℕ) (g cs : Region) (tail : List ℕ) → closed g ≡ true → GoodConvexes cs → length g + length cs ≤ 64 → total g + total cs ≤ 512
    → records_in plain (all_steps cs n) (file d b g) (convexes_bytes cs ++ tail) ≡ records_in plain n (file d b (g ++ cs)) tail
unfolding convexes_bytes records_in total
convexes_in n d b g [] tail k f l t = ap (λ x. records_in plain n (file d b x) tail) (sym (append-nil g))
convexes_in n d b g (c ∷ cs) tail k f l t =
    let rest = halfspaces_bytes c ++ (convexes_bytes cs ++ tail) in
    let s = length-append g (c ∷ []) in
    ap (λ r. records_in plain (suc (steps c (all_steps cs n))) (file d b g) (convex_bytes ++ r)) (append_assoc (halfspaces_bytes c) (convexes_bytes cs) tail)
    ∙ ap (λ a. then a (λ y. records_in plain (steps c (all_steps cs n)) y rest)) (convex_step d b g rest k (omega arith))
    ∙ halfspaces_in_law (all_steps cs n) d b g [] c (convexes_bytes cs ++ tail) f.0 (omega arith) (omega arith)
    ∙ convexes_in n d b (g ++ c ∷ []) cs tail (closed_of g c f.1) f.3 (omega arith) (omega (arith, total_of g c))
    ∙ ap (λ x. records_in plain n (file d b x) tail) (append_assoc g (c ∷ []) cs)

-- ---- groups

pub payload_length : (c : Convex) → length (payload_bytes c) ≡ 16 * length c
unfolding payload_bytes
payload_length [] = refl
payload_length (h ∷ c) = omega (arith, payload_length c)

payload_back : (c : Convex) → GoodConvex c → halfspaces_of (length c) (payload_bytes c) ≡ c
unfolding payload_bytes halfspaces_of
payload_back [] f = refl
payload_back (h ∷ c) f = ap₂ (λ x y. x ∷ y) (halfspace_back h (payload_bytes c) f.0) (payload_back c f.1)

group_known : (n : ℕ) → 1 ≤ n → n ≤ 100 → record_of 5 (4 + 16 * n) ≡ gives (Record.Group n)
group_known n low high =
    let q : (4 + 16 * n - 4) / 16 ≡ n = omega arith in
    ap (λ m. first_of 5 (4 + 16 * n) (Record.Group m ∷ [])) q ∙ rw (le-leb 1 n low, le-leb n 100 high, eq-eqb (4 + 16 * n) (4 + 16 * n) refl)

halfspaces_taken : (d b : ℕ) (g : Region) (c hs : Convex) → GoodConvex hs → length c + length hs ≤ 100 → total g + length c + length hs ≤ 512
    → halfspaces_in (file d b (g ++ c ∷ [])) hs ≡ gives (file d b (g ++ (c ++ hs) ∷ []))
unfolding halfspaces_in
halfspaces_taken d b g c [] f l t = ap (λ x. gives (file d b (g ++ x ∷ []))) (sym (append-nil c))
halfspaces_taken d b g c (h ∷ hs) f l t =
    let s = length-append c (h ∷ []) in
    ap (λ a. then a (λ y. halfspaces_in y hs)) (halfspace_taken d b g c h f.0 (omega arith) (omega arith))
    ∙ halfspaces_taken d b g (c ++ h ∷ []) hs f.1 (omega arith) (omega arith)
    ∙ ap (λ x. gives (file d b (g ++ x ∷ []))) (append_assoc c (h ∷ []) hs)

module _ (c : Convex) (rest : List ℕ) (low : 1 ≤ length c) (high : length c ≤ 100) where
  group_size : length_of (group_bytes c ++ rest) ≡ 4 + 16 * length c
  group_size = two_bytes (4 + 16 * length c)

  least : 4 ≤ length_of (group_bytes c ++ rest)
  least = omega (arith, group_size)

  most : length_of (group_bytes c ++ rest) ≤ length (group_bytes c ++ rest)
  most = omega (arith, group_size, payload_length c, length-append (payload_bytes c) rest)

  is_group : record_of 5 (length_of (group_bytes c ++ rest)) ≡ gives (Record.Group (length c))
  is_group = ap (record_of 5) group_size ∙ group_known (length c) low high

  group_at : record_at (group_bytes c ++ rest) ≡ gives (Record.Group (length c))
  group_at = at_record (group_bytes c ++ rest) (Record.Group (length c)) least most is_group

  group_after : after (group_bytes c ++ rest) ≡ rest
  group_after = drop_at (group_bytes c) rest (length_of (group_bytes c ++ rest)) (omega (arith, group_size, payload_length c))

  group_step : (d b : ℕ) (g : Region) → GoodConvex c → closed g ≡ true → length g < 64 → total g + length c ≤ 512
      → record_in grouped (file d b g) (group_bytes c ++ rest) ≡ gives (file d b (g ++ c ∷ []))
  group_step d b g f k l t =
      let x = file d b g in
      in_record (group_bytes c ++ rest) (Record.Group (length c)) least most is_group grouped x refl
      ∙ ap (λ p. group_in x (halfspaces_of (length c) p))
      (take_at (payload_bytes c) rest (length_of (group_bytes c ++ rest) - 4) (omega (arith, group_size, payload_length c)))
      ∙ ap (group_in x) (payload_back c f)
      ∙ ap (λ a. then a (λ y. check Crowd (leb (total y.region + length c) 512) (halfspaces_in y c))) (convex_taken d b g k l)
      ∙ ap (λ u. check Crowd u (halfspaces_in (file d b (with_convex g)) c)) (le-leb (total (with_convex g) + length c) 512 (omega (arith, total_of g [])))
      ∙ halfspaces_taken d b g [] c f (omega arith) (omega arith)

groups_in : (n d b : ℕ) (g cs : Region) (tail : List ℕ) → closed g ≡ true → GoodConvexes cs → length g + length cs ≤ 64 → total g + total cs ≤ 512
    → records_in grouped (steps cs n) (file d b g) (groups_bytes cs ++ tail) ≡ records_in grouped n (file d b (g ++ cs)) tail
unfolding groups_bytes records_in total
groups_in n d b g [] tail k f l t = ap (λ x. records_in grouped n (file d b x) tail) (sym (append-nil g))
groups_in n d b g (c ∷ cs) tail k f l t =
    let rest = groups_bytes cs ++ tail in
    let s = length-append g (c ∷ []) in
    let m = steps cs n in
    ap (records_in grouped (suc m) (file d b g)) (append_assoc (group_bytes c) (groups_bytes cs) tail)
    ∙ ap (λ a. then a (λ y. records_in grouped m y (after (group_bytes c ++ rest)))) (group_step c rest f.1 f.2 d b g f.0 k (omega arith) (omega arith))
    ∙ ap (records_in grouped m (file d b (g ++ c ∷ []))) (group_after c rest f.1 f.2)
    ∙ groups_in n d b (g ++ c ∷ []) cs tail (closed_of g c f.1) f.3 (omega arith) (omega (arith, total_of g c))
    ∙ ap (λ x. records_in grouped n (file d b x) tail) (append_assoc g (c ∷ []) cs)

-- ---- a region in either style

abbrev steps_in : Style → Region → ℕ → ℕ
steps_in Style.Plain g n = all_steps g n
steps_in Style.Grouped g n = steps g n

region_in : (s : Style) (n d b : ℕ) (g : Region) (tail : List ℕ) → GoodConvexes g → length g ≤ 64 → total g ≤ 512
    → records_in (Styles.only s) (steps_in s g n) (file d b []) (region_bytes s g ++ tail) ≡ records_in (Styles.only s) n (file d b g) tail
unfolding total
region_in Style.Plain n d b g tail f l t = convexes_in n d b [] g tail refl f (omega arith) (omega arith)
region_in Style.Grouped n d b g tail f l t = groups_in n d b [] g tail refl f (omega arith) (omega arith)

style_back : (s : Style) (g : Region) (tail : List ℕ) → GoodConvexes g → 1 ≤ length g → style_at (record_at (region_bytes s g ++ tail)) ≡ s
unfolding convexes_bytes groups_bytes
style_back s [] tail f l = absurd (omega arith)
style_back Style.Plain (c ∷ cs) tail f l =
    ap style_at (at_record (convex_bytes ++ ((halfspaces_bytes c ++ convexes_bytes cs) ++ tail)) Record.Convex (omega arith) (omega arith) refl)
style_back Style.Grouped (c ∷ cs) tail f l =
    ap (λ r. style_at (record_at r)) (append_assoc (group_bytes c) (groups_bytes cs) tail) ∙ ap style_at (group_at c (groups_bytes cs ++ tail) f.1 f.2)

-- ---- the end

end_step : (s : Style) (d b n : ℕ) (g : Region) → begun g ≡ true → last_filled g ≡ true
    → records_in (Styles.only s) (suc n) (file d b g) end_bytes ≡ gives (file d b g)
unfolding records_in record_in
end_step s d b n g k f = ap (λ a. then a (λ y. gives y)) (ap (λ t. check Order t (gives (file d b g))) (and_both k (and_both f refl)))

-- ---- the header

header_step : (d b : ℕ) (rest : List ℕ) → is_depth d ≡ true → is_budget b ≡ true → header (header_bytes d b ++ rest) ≡ gives (file d b [])
unfolding header
header_step d b rest t u =
    ap (λ a. then a (λ r. header_in r (payload (header_bytes d b ++ rest)))) (at_record (header_bytes d b ++ rest) Record.Header (omega arith) (omega arith) refl)
    ∙ ap₂ (λ x y. check Depth (is_depth x) (check Budget (is_budget y) (gives (file x y [])))) (two_bytes d) (two_bytes b)
    ∙ ap (λ x. check Depth x (check Budget (is_budget b) (gives (file d b [])))) t
    ∙ ap (λ x. check Budget x (gives (file d b []))) u

-- ---- lengths

halfspaces_length : (hs : Convex) → length (halfspaces_bytes hs) ≡ 20 * length hs
unfolding halfspaces_bytes
halfspaces_length [] = refl
halfspaces_length (h ∷ hs) = omega (arith, halfspaces_length hs)

pub convexes_length : (cs : Region) → length (convexes_bytes cs) ≡ 4 * length cs + 20 * total cs
unfolding convexes_bytes total
convexes_length [] = refl
convexes_length (c ∷ cs) = omega (arith, length-append (halfspaces_bytes c) (convexes_bytes cs), halfspaces_length c, convexes_length cs)

pub groups_length : (cs : Region) → length (groups_bytes cs) ≡ 4 * length cs + 16 * total cs
unfolding groups_bytes total
groups_length [] = refl
groups_length (c ∷ cs) = omega (arith, length-append (payload_bytes c) (groups_bytes cs), payload_length c, groups_length cs)

pub file_length : (d b : ℕ) (g : Region) → length (file_in Style.Plain d b g) ≡ 12 + 4 * length g + 20 * total g
unfolding file_in
file_length d b g = omega (arith, length-append (convexes_bytes g) end_bytes, convexes_length g)

pub grouped_length : (d b : ℕ) (g : Region) → length (file_in Style.Grouped d b g) ≡ 12 + 4 * length g + 16 * total g
unfolding file_in
grouped_length d b g = omega (arith, length-append (groups_bytes g) end_bytes, groups_length g)

steps_add : {A : Type 0} (xs : List A) (n : ℕ) → steps xs n ≡ length xs + n
steps_add [] n = omega arith
steps_add (x ∷ xs) n = omega (arith, steps_add xs n)

all_steps_law : (cs : Region) (n : ℕ) → all_steps cs n ≡ length cs + total cs + n
unfolding total
all_steps_law [] n = omega arith
all_steps_law (c ∷ cs) n = omega (arith, steps_add c (all_steps cs n), all_steps_law cs n)

-- ---- the whole file

last_filled_law : (g : Region) → GoodConvexes g → 1 ≤ length g → last_filled g ≡ true
unfolding last_convex
last_filled_law [] f h = absurd (omega arith)
last_filled_law (c ∷ []) f h = lt-ltb 0 (length c) f.1
last_filled_law (c ∷ d ∷ cs) f h = last_filled_law (d ∷ cs) f.3 (omega arith)

pub record WithinLimits (g : Region) : Type 0 where
  pub good : GoodConvexes g
  pub some : 1 ≤ length g
  pub convexes : length g ≤ 64
  pub halfspaces : total g ≤ 512

-- a file is short enough, and has more bytes than records
file_fits : (s : Style) (d b : ℕ) (g : Region) → WithinLimits g → (length (file_in s d b g) ≤ 10508) × (n : ℕ) × (length (file_in s d b g) ≡ steps_in s g (suc n))
file_fits Style.Plain d b g w =
    let n : ℕ = length (file_in Style.Plain d b g) - (length g + total g) - 1 in
    let l = file_length d b g in
    (omega (arith, w), n, omega (arith, all_steps_law g (suc n)))
file_fits Style.Grouped d b g w =
    let n : ℕ = length (file_in Style.Grouped d b g) - length g - 1 in
    let l = grouped_length d b g in
    (omega (arith, w), n, omega (arith, steps_add g (suc n)))

pub read_back : (s : Style) (d b : ℕ) (g : Region) → is_depth d ≡ true → is_budget b ≡ true → WithinLimits g → AcceptedIn s (file_in s d b g) (file d b g)
unfolding file_in
read_back s d b g t u w =
    let f = file_in s d b g in
    let rest = region_bytes s g ++ end_bytes in
    let k = Styles.only s in
    let r = file_fits s d b g w in
    let style = style_back s g end_bytes w.good w.some in (
      style,
      in_style_law f
          ∙ ap (λ t. read_in (Styles.only t) f) style
          ∙ ap (λ x. check Long x (then (header f) (λ z. records_in k (length f) z (after f)))) (le-leb (length f) 10508 r.0)
          ∙ ap (λ a. then a (λ z. records_in k (length f) z (after f))) (header_step d b rest t u)
          ∙ ap (λ n. records_in k n (file d b []) rest) r.2
          ∙ region_in s (suc r.1) d b g end_bytes w.good w.convexes w.halfspaces
          ∙ end_step s d b r.1 g (lt-ltb 0 (length g) w.some) (last_filled_law g w.good w.some),
    )
