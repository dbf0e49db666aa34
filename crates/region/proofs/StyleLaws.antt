-- A file's style may be taken from the record after its header: that record is the first of kind 2 or 5, or the file ends or is refused at it, and its own
-- style never refuses it. So the reader of files of that style only answers the same. Assumes nothing.
use Prim.Native.Nat.{ℕ, zero, suc}
use mathlib.Core.Path.{◌≡◌, refl, sym, ap, subst, ◌∙◌}
use mathlib.Core.Bool.{true, false, false≢true}
use mathlib.Core.List.{List, []}
use lib.Dec.{leb, eqb}
use lib.ListN.{length, drop}
use Rattle.answer.specs.Answer.{Answer, refused, gives, check, then, with_value, Long, Order, Mixed}
use Rattle.region.specs.declared.Halfspace.{Halfspace}
use Rattle.region.specs.declared.Record.{Record}
use Rattle.region.specs.declared.Style.{Style}
use Rattle.region.specs.Building.{begun, add}
use Rattle.region.specs.Records.{kind, same_style, Styles, fits, styles_after}
use Rattle.region.specs.Reader.{File, kind_of, payload, after, record_at, header, with_region, halfspace_of, halfspace_in, part_in, record_in, records_in, read_in, read, style_at, style_of, AcceptedIn}
use Rattle.region.proofs.ReaderLaws.{Begins, begins, header_says, same_then}

pub same_style_law : (s t : Style) → same_style s t ≡ true → s ≡ t
same_style_law Style.Plain Style.Plain e = refl
same_style_law Style.Plain Style.Grouped e = absurd (false≢true e)
same_style_law Style.Grouped Style.Plain e = absurd (false≢true e)
same_style_law Style.Grouped Style.Grouped e = refl

pub style_itself : (s : Style) → same_style s s ≡ true
style_itself Style.Plain = refl
style_itself Style.Grouped = refl

-- ---- the record after the header

-- no halfspace stands there
no_halfspace : (x : File) (h : Halfspace) → x.region ≡ [] → halfspace_in x h ≡ refused Order
no_halfspace x h none = ap (λ g. check Order (begun g) (with_value (with_region x) (add x.region h))) none

module _ (n : ℕ) (x : File) (rest : List ℕ) where
  abbrev on : ℕ → Styles → File → Answer File
  on m k y = elim (eqb m 4) [ true ↦ gives y | false ↦ records_in (styles_after k m) n y (after rest) ]

  abbrev taken : Styles → Record → Answer File
  taken k r = check Mixed (fits k r) (part_in x r (payload rest) (after rest))

  abbrev own : Answer Record → Styles
  own a = Styles.only (style_at a)

  -- the records from this one on give the same in a file of either style and in one of its own style only
  abbrev GoesOn : ℕ → Answer Record → Type 0
  GoesOn m a = then (then a (taken Styles.either)) (on m Styles.either) ≡ then (then a (taken (own a))) (on m (own a))

  first_taken : x.region ≡ [] → (r : Record) → GoesOn (kind r) (gives r)
  first_taken none Record.Header = refl
  first_taken none Record.Convex = refl
  first_taken none Record.Halfspace =
      let e = no_halfspace x (halfspace_of (payload rest)) none in
      ap (λ a. then a (on 3 Styles.either)) e ∙ sym (ap (λ a. then a (on 3 (Styles.only Style.Plain))) e)
  first_taken none Record.End = refl
  first_taken none (Record.Group m) = refl

  first_record : x.region ≡ [] → (a : Answer Record) → record_at rest ≡ a → GoesOn (kind_of rest) a
  first_record none (refused m) e = refl
  first_record none (gives r) e = subst (λ m. GoesOn m (gives r)) (sym (begins rest r e).its_kind) (first_taken none r)

first_on : (n : ℕ) (x : File) (rest : List ℕ) → x.region ≡ [] → records_in Styles.either n x rest ≡ records_in (Styles.only (style_at (record_at rest))) n x rest
unfolding records_in record_in
first_on zero x rest none = refl
first_on (suc n) x rest none = first_record n x rest none (record_at rest) refl

-- ---- the file

pub in_style_law : (f : List ℕ) → read f ≡ read_in (Styles.only (style_of f)) f
unfolding read
in_style_law f = ap (check Long (leb (length f) 10508)) (same_then (header f) _ _ (λ x e. first_on (length f) x (after f) (header_says f x e).region))

-- of a file whose header is read, the record after it begins at byte 8
pub style_at_law : (f : List ℕ) → Begins f Record.Header → style_of f ≡ style_at (record_at (drop 8 f))
style_at_law f b = ap (λ n. style_at (record_at (drop n f))) b.its_size

pub accepted_in : (s : Style) (f : List ℕ) (x : File) → AcceptedIn s f x → read_in (Styles.only s) f ≡ gives x
accepted_in s f x a = subst (λ s. read_in (Styles.only s) f ≡ gives x) a.0 (sym (in_style_law f) ∙ a.1)
