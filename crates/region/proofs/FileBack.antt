-- An accepted file of either style, written back from its rows, is that file byte for byte: each record has the bytes that are written for what it says, and
-- the region that they make is the region of its rows. Assumes nothing.
use Prim.Native.Nat.{ℕ, zero, suc, ◌+◌, ◌-◌, ◌*◌, ◌/◌, ◌%◌, ◌≤◌, ◌<◌}
use native.Mathlib.Omega.{arith}
use native.Mathlib.Numerals.{add-one, add-two}
use mathlib.Core.Path.{◌≡◌, refl, sym, ap, ap₂, ◌∙◌, subst}
use mathlib.Core.Bool.{true}
use mathlib.Core.List.{List, [], ◌∷◌, ◌++◌, append_assoc, append-nil}
use lib.Dec.{ltb}
use lib.ListN.{length, get_or, take, drop, length-take, length-drop, take-append-drop, drop_of_length-le}
use lib.Seq.{drop-cons, drop-drop}
use borrow.Author.Tests.{ltb-true, ltb-false, lt-ltb}
use Rattle.algebra.specs.Lists.{every}
use Rattle.algebra.proofs.Tests.{and_left, and_right, and_both, split}
use Rattle.vector.specs.Numbers.{is_depth}
use Rattle.answer.specs.Answer.{gives, check, with_value, Order, Depth, Budget}
use Rattle.answer.proofs.AnswerLaws.{then_gives, check_passed, check_gives, same_value, value_gives}
use Rattle.region.specs.declared.Halfspace.{Halfspace}
use Rattle.region.specs.Regions.{Convex, Region}
use Rattle.region.specs.Budgets.{is_budget}
use Rattle.region.specs.Building.{with_convex, with_halfspace, begun, add}
use Rattle.region.specs.Bytes.{word, signed_of, signed, word_bytes, bits_of, signed_bytes, is_byte, are_bytes}
use Rattle.region.specs.declared.Record.{Record}
use Rattle.region.specs.declared.Style.{Style}
use Rattle.region.specs.Records.{kind, size, same_style, Styles, fits, styles_after}
use Rattle.region.specs.Reader.{File, length_of, kind_of, payload, after, header, with_region, convex_in, halfspace_of, halfspace_in, halfspaces_of, halfspaces_in, group_in, end_in, AcceptedIn}
use Rattle.region.specs.Writer.{begin, header_bytes, convex_bytes, numbers_bytes, halfspace_bytes, end_bytes, halfspaces_bytes, convexes_bytes, payload_bytes, group_bytes, groups_bytes, region_bytes, file_in, write_in}
use Rattle.region.proofs.ReaderLaws.{Begins, header_read, convex_says, group_says, end_says, file_leads, nothing_left, read_depth, read_budget}
use Rattle.region.proofs.StyleLaws.{same_style_law, accepted_in}
use Rattle.region.proofs.ReadBack.{with_last}
use Rattle.region.proofs.AddLaws.{added}
use Rattle.region.proofs.RowsBack.{accepted_rows}
use Rattle.region.specs.Rows.{rows}

-- ---- a number that is read has the bytes that it was read from

byte_at : (s : List ℕ) (k : ℕ) → are_bytes s ≡ true → get_or s k 0 < 256
unfolding every
byte_at [] k e = omega arith
byte_at (b ∷ s) zero e = ltb-true b 256 (and_left (is_byte b) (are_bytes s) e)
byte_at (b ∷ s) (suc k) e = byte_at s k (and_right (is_byte b) (are_bytes s) e)

word_at : (s : List ℕ) (k : ℕ) → are_bytes s ≡ true → k + 2 ≤ length s → word_bytes (word s k) ++ drop (k + 2) s ≡ drop k s
word_at s k e h =
    let a : word s k % 256 ≡ get_or s k 0 = omega (arith, byte_at s k e) in
    let b : word s k / 256 ≡ get_or s (k + 1) 0 = omega (arith, byte_at s k e) in
    ap₂ (λ x y. x ∷ y ∷ drop (k + 2) s) a b ∙ rw (add-one, add-two, drop-cons s k 0 (omega arith), drop-cons s (suc k) 0 (omega arith))

bits_signed : (n : ℕ) → n < 4294967296 → bits_of (signed_of n) ≡ n
bits_signed n h = split (ltb n 2147483648) (λ e. rw e) (λ e. rw (e, lt-ltb n 4294967296 h) (omega (arith, ltb-false n 2147483648 e)))

signed_at : (s : List ℕ) (k : ℕ) → are_bytes s ≡ true → k + 4 ≤ length s → signed_bytes (signed s k) ++ drop (k + 4) s ≡ drop k s
signed_at s k e h =
    let low : word s k < 65536 = omega (arith, byte_at s k e, byte_at s (k + 1) e) in
    let high : word s (k + 2) < 65536 = omega (arith, byte_at s (k + 2) e, byte_at s (k + 2 + 1) e) in
    let n : ℕ = word s k + 65536 * word s (k + 2) in
    let a : n % 65536 ≡ word s k = omega arith in
    let b : n / 65536 ≡ word s (k + 2) = omega arith in
    let four : k + 4 ≡ k + 2 + 2 = omega arith in
    ap (λ m. (word_bytes (m % 65536) ++ word_bytes (m / 65536)) ++ drop (k + 4) s) (bits_signed n (omega arith))
    ∙ ap₂ (λ x y. word_bytes x ++ word_bytes y ++ drop (k + 4) s) a b
    ∙ ap (λ m. word_bytes (word s k) ++ word_bytes (word s (k + 2)) ++ drop m s) four
    ∙ ap (λ l. word_bytes (word s k) ++ l) (word_at s (k + 2) e (omega arith))
    ∙ word_at s k e (omega arith)

header_payload : (p : List ℕ) → are_bytes p ≡ true → length p ≡ 4 → word_bytes (word p 0) ++ word_bytes (word p 2) ≡ p
header_payload p e l =
    ap (λ t. word_bytes (word p 0) ++ word_bytes (word p 2) ++ t) (sym (drop_of_length-le p {i = 4} (omega arith)))
    ∙ ap (λ t. word_bytes (word p 0) ++ t) (word_at p 2 e (omega arith))
    ∙ word_at p 0 e (omega arith)

numbers_at : (p : List ℕ) → are_bytes p ≡ true → 16 ≤ length p → numbers_bytes (halfspace_of p) ++ drop 16 p ≡ p
numbers_at p e l =
    let x = signed_bytes (signed p 0) in
    let y = signed_bytes (signed p 4) in
    let z = signed_bytes (signed p 8) in
    ap (λ t. x ++ y ++ z ++ t) (signed_at p 12 e (omega arith))
    ∙ ap (λ t. x ++ y ++ t) (signed_at p 8 e (omega arith))
    ∙ ap (λ t. x ++ t) (signed_at p 4 e (omega arith))
    ∙ signed_at p 0 e (omega arith)

-- ---- a record that passes has the bytes of its length, kind and payload

parts_bytes : (n : ℕ) (s : List ℕ) → are_bytes s ≡ true → (are_bytes (take n s) ≡ true) × (are_bytes (drop n s) ≡ true)
unfolding every
parts_bytes zero s e = (refl, e)
parts_bytes (suc n) [] e = (refl, refl)
parts_bytes (suc n) (b ∷ s) e =
    let p = parts_bytes n s (and_right (is_byte b) (are_bytes s) e) in
    (and_both (and_left (is_byte b) (are_bytes s) e) p.0, p.1)

halfspaces_payload : (n : ℕ) (p : List ℕ) → are_bytes p ≡ true → length p ≡ 16 * n → payload_bytes (halfspaces_of n p) ≡ p
unfolding payload_bytes halfspaces_of
halfspaces_payload zero p e l = sym (nothing_left p (omega arith))
halfspaces_payload (suc n) p e l =
    ap (λ t. numbers_bytes (halfspace_of p) ++ t) (halfspaces_payload n (drop 16 p) (parts_bytes 16 p e).1 (omega (arith, length-drop 16 p)))
    ∙ numbers_at p e (omega arith)

halfspace_payload : (p : List ℕ) → are_bytes p ≡ true → length p ≡ 16 → numbers_bytes (halfspace_of p) ≡ p
unfolding payload_bytes halfspaces_of
halfspace_payload p e l = halfspaces_payload 1 p e l

pub halfspaces_count : (n : ℕ) (p : List ℕ) → length (halfspaces_of n p) ≡ n
unfolding halfspaces_of
halfspaces_count zero p = refl
halfspaces_count (suc n) p = ap suc (halfspaces_count n (drop 16 p))

module _ {rest : List ℕ} {r : Record} (b : Begins rest r) where
  payload_length : length (payload rest) ≡ size r - 4
  payload_length = omega (arith, b, length-take (length_of rest - 4) (drop 4 rest), length-drop 4 rest)

  payload_bytes_law : are_bytes rest ≡ true → are_bytes (payload rest) ≡ true
  payload_bytes_law e = (parts_bytes (length_of rest - 4) (drop 4 rest) (parts_bytes 4 rest e).1).0

  record_bytes : (p : List ℕ) → are_bytes rest ≡ true → p ≡ payload rest → word_bytes (size r) ++ word_bytes (kind r) ++ p ++ after rest ≡ rest
  record_bytes p e q =
      let n : length_of rest ≡ 4 + (length_of rest - 4) = omega (arith, b) in
      let head : List ℕ = word_bytes (length_of rest) ++ word_bytes (kind_of rest) in
      ap₂ (λ l k. word_bytes l ++ word_bytes k ++ p ++ after rest) (sym b.its_size) (sym b.its_kind)
      ∙ ap₂ (λ p n. head ++ p ++ drop n rest) q n
      ∙ ap (λ t. head ++ (payload rest ++ t)) (sym (drop-drop (length_of rest - 4) 4 rest))
      ∙ ap (λ t. head ++ t) (take-append-drop (length_of rest - 4) (drop 4 rest))
      ∙ ap (λ t. word_bytes (length_of rest) ++ t) (word_at rest 2 e (omega (arith, b)))
      ∙ word_at rest 0 e (omega (arith, b))

  bare_bytes : are_bytes rest ≡ true → size r ≡ 4 → word_bytes (size r) ++ word_bytes (kind r) ++ after rest ≡ rest
  bare_bytes e four = record_bytes [] e (ap (λ l. take (l - 4) (drop 4 rest)) (sym (b.its_size ∙ four)))

-- ---- the bytes of a region grow at the end

past_convex : (c : Convex) (g r : Region) (s t : List ℕ) → convexes_bytes r ++ s ≡ convexes_bytes g ++ t → convexes_bytes (c ∷ r) ++ s ≡ convexes_bytes (c ∷ g) ++ t
unfolding convexes_bytes
past_convex c g r s t e = ap (λ l. convex_bytes ++ l)
    (append_assoc (halfspaces_bytes c) (convexes_bytes r) s ∙ ap (λ l. halfspaces_bytes c ++ l) e ∙ sym (append_assoc (halfspaces_bytes c) (convexes_bytes g) t))

pub convex_bytes_law : (g : Region) (s : List ℕ) → convexes_bytes (with_convex g) ++ s ≡ convexes_bytes g ++ (convex_bytes ++ s)
unfolding convexes_bytes halfspaces_bytes
convex_bytes_law [] s = refl
convex_bytes_law (c ∷ cs) s = past_convex c cs (with_convex cs) s (convex_bytes ++ s) (convex_bytes_law cs s)

last_bytes : (c : Convex) (h : Halfspace) (s : List ℕ) → halfspaces_bytes (c ++ h ∷ []) ++ s ≡ halfspaces_bytes c ++ (halfspace_bytes h ++ s)
unfolding halfspaces_bytes
last_bytes [] h s = refl
last_bytes (a ∷ c) h s = ap (λ l. halfspace_bytes a ++ l) (last_bytes c h s)

pub halfspace_bytes_law : (g : Region) (h : Halfspace) (s : List ℕ) → 0 < length g → convexes_bytes (with_halfspace g h) ++ s ≡ convexes_bytes g ++ (halfspace_bytes h ++ s)
unfolding convexes_bytes with_halfspace
halfspace_bytes_law [] h s b = absurd (omega arith)
halfspace_bytes_law (c ∷ []) h s b = ap (λ l. convex_bytes ++ l)
    (append_assoc (halfspaces_bytes (c ++ h ∷ [])) [] s ∙ last_bytes c h s ∙ sym (append_assoc (halfspaces_bytes c) [] (halfspace_bytes h ++ s)))
halfspace_bytes_law (c ∷ d ∷ cs) h s b = past_convex c (d ∷ cs) (with_halfspace (d ∷ cs) h) s (halfspace_bytes h ++ s) (halfspace_bytes_law (d ∷ cs) h s (omega arith))

pub group_bytes_law : (g : Region) (c : Convex) (s : List ℕ) → groups_bytes (g ++ c ∷ []) ++ s ≡ groups_bytes g ++ (group_bytes c ++ s)
unfolding groups_bytes
group_bytes_law [] c s = append_assoc (group_bytes c) [] s
group_bytes_law (a ∷ g) c s =
    append_assoc (group_bytes a) (groups_bytes (g ++ c ∷ [])) s
    ∙ ap (λ l. group_bytes a ++ l) (group_bytes_law g c s)
    ∙ sym (append_assoc (group_bytes a) (groups_bytes g) (group_bytes c ++ s))

-- ---- the region that a group makes

halfspaces_region : (x z : File) (g : Region) (c hs : Convex) → halfspaces_in (with_region x (g ++ c ∷ [])) hs ≡ gives z → with_region x (g ++ (c ++ hs) ∷ []) ≡ z
unfolding halfspaces_in
halfspaces_region x z g c [] e = ap (λ c. with_region x (g ++ c ∷ [])) (append-nil c) ∙ same_value (with_region x (g ++ c ∷ [])) z e
halfspaces_region x z g c (h ∷ hs) e =
    let y = with_region x (g ++ c ∷ []) in
    let a = add (g ++ c ∷ []) h in
    let w = then_gives (halfspace_in y h) (λ z. halfspaces_in z hs) z e in
    let v = value_gives (with_region y) a w.0 (check_gives Order (begun (g ++ c ∷ [])) (with_value (with_region y) a) w.0 w.1) in
    let q : w.0 ≡ with_region x (g ++ (c ++ h ∷ []) ∷ []) = sym v.2 ∙ ap (with_region x) (sym (added (g ++ c ∷ []) v.0 h v.1).is ∙ with_last g c h) in
    ap (λ c. with_region x (g ++ c ∷ [])) (sym (append_assoc c (h ∷ []) hs))
    ∙ halfspaces_region x z g (c ++ h ∷ []) hs (subst (λ y. halfspaces_in y hs ≡ gives z) q w.2)

group_region : (x z : File) (c : Convex) → group_in x c ≡ gives z → with_region x (x.region ++ c ∷ []) ≡ z
group_region x z c e =
    let w = group_says x z c e in
    halfspaces_region x z x.region [] c (subst (λ y. halfspaces_in y c ≡ gives z) (sym (convex_says x w.0 w.1).2) w.2)

-- ---- one record

-- the file f, of the style s, says x before its part rest
record Said (f : List ℕ) (s : Style) (rest : List ℕ) (x : File) : Type 0 where
  left : are_bytes rest ≡ true
  bytes : header_bytes x.depth x.budget ++ (region_bytes s x.region ++ rest) ≡ f

module _ (f rest : List ℕ) (x z : File) where
  said_more : {s : Style} → Said f s rest x → (b : List ℕ) (g : Region) → b ++ after rest ≡ rest
      → region_bytes s g ++ after rest ≡ region_bytes s x.region ++ (b ++ after rest) → Said f s (after rest) (with_region x g)
  said_more {s} k b g e q = record {
    left = (parts_bytes (length_of rest) rest k.left).1;
    bytes = ap (λ t. header_bytes x.depth x.budget ++ t) (q ∙ ap (λ t. region_bytes s x.region ++ t) e) ∙ k.bytes;
  }

  convex_said : Begins rest Record.Convex → convex_in x ≡ gives z → Said f Style.Plain rest x → Said f Style.Plain (after rest) z
  convex_said r e k =
      let g = x.region in
      subst (Said f Style.Plain (after rest)) (convex_says x z e).2
      (said_more k convex_bytes (with_convex g) (bare_bytes r k.left refl) (convex_bytes_law g (after rest)))

  halfspace_said : Begins rest Record.Halfspace → halfspace_in x (halfspace_of (payload rest)) ≡ gives z → Said f Style.Plain rest x
      → Said f Style.Plain (after rest) z
  halfspace_said r e k =
      let g = x.region in
      let h = halfspace_of (payload rest) in
      let b = ltb-true 0 (length g) (check_passed Order (begun g) (with_value (with_region x) (add g h)) z e) in
      let w = value_gives (with_region x) (add g h) z (check_gives Order (begun g) _ z e) in
      subst (Said f Style.Plain (after rest)) w.2
      (said_more k (halfspace_bytes h) w.0 (record_bytes r _ k.left (halfspace_payload (payload rest) (payload_bytes_law r k.left) (payload_length r)))
      (ap (λ g. convexes_bytes g ++ after rest) (sym (added g w.0 h w.1).is) ∙ halfspace_bytes_law g h (after rest) b))

  group_said : (n : ℕ) → Begins rest (Record.Group n) → group_in x (halfspaces_of n (payload rest)) ≡ gives z → Said f Style.Grouped rest x
      → Said f Style.Grouped (after rest) z
  group_said n r e k =
      let g = x.region in
      let c = halfspaces_of n (payload rest) in
      let m : 4 + 16 * n - 4 ≡ 16 * n = omega arith in
      subst (Said f Style.Grouped (after rest)) (group_region x z c e)
      (said_more k (group_bytes c) (g ++ c ∷ [])
      (ap (λ m. begin (Record.Group m) ++ payload_bytes c ++ after rest) (halfspaces_count n (payload rest))
      ∙ record_bytes r _ k.left (halfspaces_payload n (payload rest) (payload_bytes_law r k.left) (payload_length r ∙ m)))
      (group_bytes_law g c (after rest)))

  end_said : {s : Style} → Begins rest Record.End → end_in x (after rest) ≡ gives z → Said f s rest x → Said f s end_bytes z
  end_said {s} r e k =
      let w = end_says x z (after rest) e in
      let q : rest ≡ end_bytes = sym (bare_bytes r k.left refl) ∙ ap (λ a. end_bytes ++ a) (nothing_left (after rest) (omega (arith, w.1))) in
      subst (Said f s end_bytes) w.2 (subst (λ a. Said f s a x) q k)

-- ---- all records

header_said : (f : List ℕ) (s : Style) (x : File) → are_bytes f ≡ true → header f ≡ gives x → Said f s (after f) x
unfolding convexes_bytes groups_bytes
header_said f s x b e =
    let p = payload f in
    let m : File = record { depth = word p 0; budget = word p 2; region = [] } in
    let h = header_read f x e in
    let d = check_gives Depth (is_depth (word p 0)) (check Budget (is_budget (word p 2)) (gives m)) x h.1 in
    let none : [] ≡ region_bytes s [] = elim s as (λ k. [] ≡ region_bytes k []) [ Style.Plain ↦ refl | Style.Grouped ↦ refl ] in
    subst (Said f s (after f)) (same_value m x (check_gives Budget (is_budget (word p 2)) (gives m) x d)) (record {
      left = (parts_bytes (length_of f) f b).1;
      bytes = ap (λ t. header_bytes (word p 0) (word p 2) ++ (t ++ after f)) (sym none)
          ∙ record_bytes h.0 _ b (header_payload p (payload_bytes_law h.0 b) (payload_length h.0));
    })

-- the file f has the style s only, and says x before its part rest
abbrev SaidOnly : List ℕ → Style → Styles → List ℕ → File → Type 0
SaidOnly f s k rest x = (k ≡ Styles.only s) × Said f s rest x

module _ (f : List ℕ) (s t : Style) (k : Styles) (n : ℕ) (rest : List ℕ) (x z : File) where
  -- a record of the style t in a file of the style s: the styles are the same
  in_only : (r : Record) → fits (Styles.only s) r ≡ same_style s t → fits k r ≡ true → (Said f t rest x → Said f t (after rest) z) → SaidOnly f s k rest x
      → SaidOnly f s (styles_after k n) (after rest) z
  in_only r own fit more m =
      let q : s ≡ t = same_style_law s t (sym own ∙ ap (λ k. fits k r) (sym m.0) ∙ fit) in
      (ap (λ k. styles_after k n) m.0, subst (λ s. Said f s rest x → Said f s (after rest) z) (sym q) more m.1)

read_said : (s : Style) (f : List ℕ) (x : File) → are_bytes f ≡ true → AcceptedIn s f x → Said f s end_bytes x
read_said s f x b a =
    file_leads (SaidOnly f s) (Said f s end_bytes)
    (λ k rest y z t r e. in_only f s Style.Plain k 2 rest y z Record.Convex refl t (convex_said f rest y z r e))
    (λ k rest y z t r e. in_only f s Style.Plain k 3 rest y z Record.Halfspace refl t (halfspace_said f rest y z r e))
    (λ n k rest y z t r e. in_only f s Style.Grouped k 5 rest y z (Record.Group n) refl t (group_said f rest y z n r e))
    (λ k rest y z r e m. end_said f rest y z r e m.1)
    (Styles.only s) f x (accepted_in s f x a) (λ z h. (refl, header_said f s z b h))

-- ---- the file

pub read_file : (s : Style) (f : List ℕ) (x : File) → are_bytes f ≡ true → AcceptedIn s f x → file_in s x.depth x.budget x.region ≡ f
unfolding file_in
read_file s f x b e = (read_said s f x b e).bytes

pub file_back : (s : Style) (f : List ℕ) (x : File) → are_bytes f ≡ true → AcceptedIn s f x → write_in s x.depth x.budget (rows x.region) ≡ gives f
unfolding write_in
file_back s f x b e = rw (read_depth f x e.1, read_budget f x e.1, accepted_rows f x e.1) (ap gives (read_file s f x b e))
