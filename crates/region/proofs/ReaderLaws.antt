-- What holds of an accepted file. The header's checks passed, and no later record changes the header. What a new convex and a new halfspace keep, the whole
-- file keeps. The bound on the number of records plays no part: a record has four bytes or more, and where no byte is left the file is torn anyway.
-- Assumes nothing.
use Prim.Native.Nat.{ℕ, zero, suc, ◌+◌, ◌≤◌}
use native.Mathlib.Omega.{arith}
use mathlib.Core.Path.{◌≡◌, refl, sym, subst}
use mathlib.Core.Bool.{Bool, true, false, cond, ◌&&◌}
use mathlib.Core.List.{List, [], ◌∷◌}
use lib.Dec.{leb, eqb}
use lib.ListN.{length, length-drop}
use borrow.Author.Tests.{leb-true, eqb-true}
use Rattle.algebra.proofs.Tests.{and_left, and_right, split}
use Rattle.answer.specs.Answer.{Answer, refused, gives, check, then, with_value, Long, Torn, Kind, Order, Depth, Budget, Crowd, Mixed}
use Rattle.answer.proofs.AnswerLaws.{refused_gives, check_passed, check_gives, same_value, then_gives, value_gives}
use Rattle.vector.specs.Numbers.{is_depth}
use Rattle.region.specs.declared.Halfspace.{Halfspace}
use Rattle.region.specs.Regions.{Convex, Region}
use Rattle.region.specs.Budgets.{is_budget}
use Rattle.region.specs.Building.{most_in_all, total, with_convex, begun, last_filled, few_convexes, add}
use Rattle.region.specs.Bytes.{word}
use Rattle.region.specs.declared.Record.{Record}
use Rattle.region.specs.Records.{kind, size, allowed, is, first_of, known, Styles, fits, styles_after}
use Rattle.region.specs.Reader.{File, length_of, kind_of, payload, after, whole, record_at, header_of, header_in, header, with_region, convex_in, halfspace_of, halfspace_in, halfspaces_of, halfspaces_in, group_in, end_in, part_in, record_in, records_in, read_in, read, Accepted}

-- ---- a record's kind and length

-- rest begins with a whole record, and that is r
pub record Begins (rest : List ℕ) (r : Record) : Type 0 where
  pub least : 4 ≤ length_of rest
  pub most : length_of rest ≤ length rest
  pub its_kind : kind_of rest ≡ kind r
  pub its_size : length_of rest ≡ size r
  pub is_allowed : allowed r ≡ true

is_first : (n len : ℕ) (r : Record) (rs : List Record) → first_of n len rs ≡ gives r → is n len r ≡ true
is_first n len r [] e = refused_gives Kind r e
is_first n len r (q ∷ rs) e = split (is n len q) (λ t. subst (λ p. is n len p ≡ true) (same_value q r (rw t at e)) t) (λ t. is_first n len r rs (rw t at e))

pub begins : (rest : List ℕ) (r : Record) → record_at rest ≡ gives r → Begins rest r
begins rest r e =
    let four = leb 4 (length_of rest) in
    let fits = leb (length_of rest) (length rest) in
    let same = eqb (kind_of rest) (kind r) in
    let long = eqb (length_of rest) (size r) in
    let w = and_right (leb 4 (length rest)) (four && fits) (check_passed Torn (whole rest) _ r e) in
    let u = allowed r && long in
    let i = is_first (kind_of rest) (length_of rest) r (known (length_of rest)) (check_gives Torn (whole rest) _ r e) in
    record {
      least = leb-true 4 (length_of rest) (and_left four fits w);
      most = leb-true (length_of rest) (length rest) (and_right four fits w);
      its_kind = eqb-true (kind_of rest) (kind r) (and_left same u i);
      its_size = eqb-true (length_of rest) (size r) (and_right (allowed r) long (and_right same u i));
      is_allowed = and_left (allowed r) long (and_right same u i);
    }

-- ---- the header

pub header_read : (f : List ℕ) (x : File) → header f ≡ gives x → Begins f Record.Header × (header_of (payload f) ≡ gives x)
unfolding header
header_read f x e = let w = then_gives (record_at f) (λ r. header_in r (payload f)) x e in first w.0 (begins f w.0 w.1) w.2
  where
    first : (r : Record) → Begins f r → header_in r (payload f) ≡ gives x → Begins f Record.Header × (header_of (payload f) ≡ gives x)
    first Record.Header b e = (b, e)
    first Record.Convex b e = refused_gives Order x e
    first Record.Halfspace b e = refused_gives Order x e
    first Record.End b e = refused_gives Order x e
    first (Record.Group n) b e = refused_gives Order x e

pub record Headed (x : File) : Type 0 where
  pub depth : is_depth x.depth ≡ true
  pub budget : is_budget x.budget ≡ true
  pub region : x.region ≡ []

pub header_says : (f : List ℕ) (x : File) → header f ≡ gives x → Headed x
header_says f x e =
    let s = payload f in
    let m : File = record { depth = word s 0; budget = word s 2; region = [] } in
    let few = check Budget (is_budget (word s 2)) (gives m) in
    let h = (header_read f x e).1 in
    let b = check_gives Depth (is_depth (word s 0)) few x h in
    subst Headed (same_value m x (check_gives Budget (is_budget (word s 2)) (gives m) x b)) (record {
      depth = check_passed Depth (is_depth (word s 0)) few x h;
      budget = check_passed Budget (is_budget (word s 2)) (gives m) x b;
      region = refl;
    })

-- ---- the end

abbrev pub Closed : Region → Type 0
Closed g = (begun g ≡ true) × (last_filled g ≡ true)

pub end_says : (x y : File) (following : List ℕ) → end_in x following ≡ gives y → Closed x.region × (length following ≡ 0) × (x ≡ y)
end_says x y following e =
    let g = x.region in
    let none = eqb (length following) 0 in
    let all = begun g && (last_filled g && none) in
    let t = check_passed Order all (gives x) y e in
    let u = and_right (begun g) (last_filled g && none) t in
    ((and_left (begun g) _ t, and_left (last_filled g) none u), eqb-true (length following) 0 (and_right (last_filled g) none u), same_value x y (check_gives Order all (gives x) y e))

-- ---- a convex

pub convex_says : (x y : File) → convex_in x ≡ gives y
    → (cond (begun x.region) (last_filled x.region) true ≡ true) × (few_convexes (with_convex x.region) ≡ true) × (with_region x (with_convex x.region) ≡ y)
convex_says x y e =
    let g = x.region in
    let more = with_region x (with_convex g) in
    let few = few_convexes (with_convex g) in
    let a = check_gives Order (cond (begun g) (last_filled g) true) (check Crowd few (gives more)) y e in
    (check_passed Order (cond (begun g) (last_filled g) true) _ y e, check_passed Crowd few (gives more) y a, same_value more y (check_gives Crowd few (gives more) y a))

-- ---- a group: a convex, then its halfspaces

pub group_says : (x y : File) (c : Convex) → group_in x c ≡ gives y → (z : File) × (convex_in x ≡ gives z) × (halfspaces_in z c ≡ gives y)
group_says x y c e =
    let fit : File → Bool = λ z. leb (total z.region + length c) most_in_all in
    let w = then_gives (convex_in x) (λ z. check Crowd (fit z) (halfspaces_in z c)) y e in
    (w.0, w.1, check_gives Crowd (fit w.0) (halfspaces_in w.0 c) y w.2)

-- ---- from record to record: S of the styles that records may have, of what is left of the file and of what it has said so far, E of what it says at the end

-- the record that was taken
pub record_taken : (k : Styles) (x y : File) (rest : List ℕ) → record_in k x rest ≡ gives y
    → (r : Record) × (record_at rest ≡ gives r) × (fits k r ≡ true) × (part_in x r (payload rest) (after rest) ≡ gives y)
unfolding record_in
record_taken k x y rest e =
    let w = then_gives (record_at rest) (λ r. check Mixed (fits k r) (part_in x r (payload rest) (after rest))) y e in
    (w.0, w.1, check_passed Mixed (fits k w.0) _ y w.2, check_gives Mixed (fits k w.0) _ y w.2)

module _ (S : Styles → List ℕ → File → Type 0) (E : File → Type 0)
    (convex : (k : Styles) (rest : List ℕ) (x y : File) → fits k Record.Convex ≡ true → Begins rest Record.Convex
    → convex_in x ≡ gives y → S k rest x → S (styles_after k 2) (after rest) y)
    (halfspace : (k : Styles) (rest : List ℕ) (x y : File) → fits k Record.Halfspace ≡ true → Begins rest Record.Halfspace
    → halfspace_in x (halfspace_of (payload rest)) ≡ gives y → S k rest x → S (styles_after k 3) (after rest) y)
    (group : (n : ℕ) (k : Styles) (rest : List ℕ) (x y : File) → fits k (Record.Group n) ≡ true → Begins rest (Record.Group n)
    → group_in x (halfspaces_of n (payload rest)) ≡ gives y → S k rest x → S (styles_after k 5) (after rest) y)
    (end : (k : Styles) (rest : List ℕ) (x y : File) → Begins rest Record.End → end_in x (after rest) ≡ gives y → S k rest x → E y) where
  part_leads : (k : Styles) (rest : List ℕ) (x z y : File) (a : ℕ → Answer File) (r : Record) → Begins rest r → fits k r ≡ true
      → part_in x r (payload rest) (after rest) ≡ gives z
      → elim (eqb (kind r) 4) [ true ↦ gives z | false ↦ a (kind r) ] ≡ gives y → S k rest x
      → ((n : ℕ) → a n ≡ gives y → S (styles_after k n) (after rest) z → E y) → E y
  part_leads k rest x z y a Record.Header b t e m s next = refused_gives Order z e
  part_leads k rest x z y a Record.Convex b t e m s next = next 2 m (convex k rest x z t b e s)
  part_leads k rest x z y a Record.Halfspace b t e m s next = next 3 m (halfspace k rest x z t b e s)
  part_leads k rest x z y a Record.End b t e m s next = subst E (same_value z y m) (end k rest x z b e s)
  part_leads k rest x z y a (Record.Group n) b t e m s next = next 5 m (group n k rest x z t b e s)

  records_lead : (n : ℕ) (k : Styles) (rest : List ℕ) (x y : File) → records_in k n x rest ≡ gives y → S k rest x → E y
  unfolding records_in
  records_lead zero k rest x y e s = refused_gives Torn y e
  records_lead (suc n) k rest x y e s =
      let a : ℕ → File → Answer File = λ m z. records_in (styles_after k m) n z (after rest) in
      let w = then_gives (record_in k x rest) (λ z. elim (eqb (kind_of rest) 4) [ true ↦ gives z | false ↦ a (kind_of rest) z ]) y e in
      let p = record_taken k x w.0 rest w.1 in
      let b = begins rest p.0 p.1 in
      let stop = subst (λ m. ◌≡◌ {A = Answer File} (elim (eqb m 4) [ true ↦ gives w.0 | false ↦ a m w.0 ]) (gives y)) b.its_kind w.2 in
      part_leads k rest x w.0 y (λ m. a m w.0) p.0 b p.2 p.3 stop s (λ m r. records_lead n (styles_after k m) (after rest) w.0 y r)

  pub file_leads : (k : Styles) (f : List ℕ) (x : File) → read_in k f ≡ gives x → ((z : File) → header f ≡ gives z → S k (after f) z) → E x
  file_leads k f x e start =
      let w = then_gives (header f) (λ z. records_in k (length f) z (after f)) x (check_gives Long (leb (length f) 10508) _ x e) in
      records_lead (length f) k (after f) w.0 x w.2 (start w.0 w.1)

  pub accepted_leads : (f : List ℕ) (x : File) → Accepted f x → ((z : File) → header f ≡ gives z → S Styles.either (after f) z) → E x
  unfolding read
  accepted_leads f x e = file_leads Styles.either f x e

-- ---- the length of an accepted file, and its first record

pub accepted_short : (f : List ℕ) (x : File) → Accepted f x → length f ≤ 10508
unfolding read
accepted_short f x e = leb-true (length f) 10508 (check_passed Long (leb (length f) 10508) _ x e)

pub accepted_headed : (f : List ℕ) (x : File) → Accepted f x → Begins f Record.Header
unfolding read
accepted_headed f x e =
    let w = then_gives (header f) (λ z. records_in Styles.either (length f) z (after f)) x (check_gives Long (leb (length f) 10508) _ x e) in
    (header_read f w.0 w.1).0

-- ---- what a new convex and a new halfspace keep

module _ (P : File → Type 0)
    (convex : (x : File) → (cond (begun x.region) (last_filled x.region) true ≡ true) × (few_convexes (with_convex x.region) ≡ true) → P x → P (with_region x (with_convex x.region)))
    (halfspace : (x : File) (g : Region) (h : Halfspace) → add x.region h ≡ gives g → P x → P (with_region x g)) where
  convex_keeps : (x y : File) → convex_in x ≡ gives y → P x → P y
  convex_keeps x y e k = let w = convex_says x y e in subst P w.2 (convex x (w.0, w.1) k)

  halfspace_keeps : (x y : File) (h : Halfspace) → halfspace_in x h ≡ gives y → P x → P y
  halfspace_keeps x y h e k =
      let a = add x.region h in
      let w = value_gives (with_region x) a y (check_gives Order (begun x.region) (with_value (with_region x) a) y e) in
      subst P w.2 (halfspace x w.0 h w.1 k)

  pub halfspaces_keep : (x y : File) (c : Convex) → halfspaces_in x c ≡ gives y → P x → P y
  unfolding halfspaces_in
  halfspaces_keep x y [] e k = subst P (same_value x y e) k
  halfspaces_keep x y (h ∷ hs) e k =
      let w = then_gives (halfspace_in x h) (λ z. halfspaces_in z hs) y e in
      halfspaces_keep w.0 y hs w.2 (halfspace_keeps x w.0 h w.1 k)

  group_keeps : (x y : File) (c : Convex) → group_in x c ≡ gives y → P x → P y
  group_keeps x y c e k =
      let w = group_says x y c e in
      halfspaces_keep w.0 y c w.2 (convex_keeps x w.0 w.1 k)

  part_keeps : (x y : File) (r : Record) (s following : List ℕ) → part_in x r s following ≡ gives y → P x → P y
  part_keeps x y Record.Header s following e = refused_gives Order y e
  part_keeps x y Record.Convex s following e = convex_keeps x y e
  part_keeps x y Record.Halfspace s following e = halfspace_keeps x y (halfspace_of s) e
  part_keeps x y Record.End s following e = subst P (end_says x y following e).2
  part_keeps x y (Record.Group n) s following e = group_keeps x y (halfspaces_of n s) e

  pub record_keeps : (k : Styles) (x y : File) (rest : List ℕ) → record_in k x rest ≡ gives y → P x → P y
  record_keeps k x y rest e = let w = record_taken k x y rest e in part_keeps x y w.0 (payload rest) (after rest) w.3

  -- what holds after the header holds at the end
  pub header_kept : (f : List ℕ) (x : File) → Accepted f x → ((z : File) → header f ≡ gives z → P z) → P x
  header_kept = accepted_leads (λ k rest y. P y) P
      (λ k rest y z t b e. convex_keeps y z e) (λ k rest y z t b e. halfspace_keeps y z (halfspace_of (payload rest)) e)
      (λ n k rest y z t b e. group_keeps y z (halfspaces_of n (payload rest)) e) (λ k rest y z b e. subst P (end_says y z (after rest) e).2)

  pub accepted_keeps : ((x : File) → Headed x → P x) → (f : List ℕ) (x : File) → Accepted f x → P x
  accepted_keeps start f x e = header_kept f x e (λ z h. start z (header_says f z h))

-- ---- the header's numbers

pub read_depth : (f : List ℕ) (x : File) → Accepted f x → is_depth x.depth ≡ true
read_depth = accepted_keeps (λ x. is_depth x.depth ≡ true) (λ x c k. k) (λ x g h e k. k) (λ x h. h.depth)

pub read_budget : (f : List ℕ) (x : File) → Accepted f x → is_budget x.budget ≡ true
read_budget = accepted_keeps (λ x. is_budget x.budget ≡ true) (λ x c k. k) (λ x g h e k. k) (λ x h. h.budget)

pub accepted_ends : (f : List ℕ) (x : File) → Accepted f x → Closed x.region
accepted_ends f x e =
    accepted_leads (λ k rest y. Unit {0}) (λ y. Closed y.region) (λ k rest y z t b e s. tt) (λ k rest y z t b e s. tt) (λ n k rest y z t b e s. tt)
    (λ k rest y z b e s. let w = end_says y z (after rest) e in subst (λ y. Closed y.region) w.2 w.0) f x e (λ z h. tt)

-- ---- the bound on the records

pub record_whole : (k : Styles) (x y : File) (rest : List ℕ) → record_in k x rest ≡ gives y → whole rest ≡ true
record_whole k x y rest e = let w = record_taken k x y rest e in check_passed Torn (whole rest) _ w.0 w.1

shorter : (rest : List ℕ) (n : ℕ) → whole rest ≡ true → length rest ≤ suc n → length (after rest) ≤ n
shorter rest n w h =
    let t = and_right (leb 4 (length rest)) (leb 4 (length_of rest) && leb (length_of rest) (length rest)) w in
    let a = leb-true 4 (length_of rest) (and_left (leb 4 (length_of rest)) (leb (length_of rest) (length rest)) t) in
    let b = leb-true (length_of rest) (length rest) (and_right (leb 4 (length_of rest)) (leb (length_of rest) (length rest)) t) in
    omega (arith, length-drop (length_of rest) rest)

pub nothing_left : (rest : List ℕ) → length rest ≤ 0 → rest ≡ []
nothing_left [] h = refl
nothing_left (b ∷ rest) h = absurd (omega arith)

pub same_then : (a : Answer File) (f g : File → Answer File) → ((y : File) → a ≡ gives y → f y ≡ g y) → then a f ≡ then a g
same_then (refused n) f g h = refl
same_then (gives y) f g h = h y refl

same_stop : (t : Bool) (y : File) (a b : Answer File) → a ≡ b → ◌≡◌ {A = Answer File} (elim t [ true ↦ gives y | false ↦ a ]) (elim t [ true ↦ gives y | false ↦ b ])
same_stop true y a b e = refl
same_stop false y a b e = e

torn_at_once : (k : Styles) (x : File) → refused Torn ≡ records_in k 1 x []
unfolding records_in record_in
torn_at_once k x = refl

pub one_more : (k : Styles) (n : ℕ) (x : File) (rest : List ℕ) → length rest ≤ n → records_in k n x rest ≡ records_in k (suc n) x rest
unfolding records_in
one_more k zero x rest h = subst (λ r. refused Torn ≡ records_in k 1 x r) (sym (nothing_left rest h)) (torn_at_once k x)
one_more k (suc n) x rest h =
    let j = styles_after k (kind_of rest) in
    same_then (record_in k x rest) _ _
    (λ y e.
    let more = one_more j n y (after rest) (shorter rest n (record_whole k x y rest e) h) in
    same_stop (eqb (kind_of rest) 4) y (records_in j n y (after rest)) (records_in j (suc n) y (after rest)) more)
