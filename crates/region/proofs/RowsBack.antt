-- The rows of a region that is read lead back to it: the row of a halfspace is added as its record was, and a convex begins with its first row. So what an
-- accepted file says is within all limits, and may be written. Assumes nothing.
use Prim.Native.Nat.{ℕ, suc, ◌+◌, ◌-◌, ◌/◌, ◌%◌, ◌≤◌, ◌<◌}
use native.Mathlib.Omega.{arith}
use mathlib.Core.Path.{◌≡◌, refl, sym, ap, subst, ◌∙◌}
use mathlib.Core.Bool.{true, cond}
use mathlib.Core.List.{List, [], ◌∷◌, ◌++◌, append_assoc, append-nil}
use lib.ListN.{length, length-append}
use lib.IntN.{ℤ, pos}
use borrow.Author.Tests.{ltb-true, lt-ltb, le-leb, eq-eqb, ne_eqb}
use Rattle.answer.specs.Answer.{gives, then}
use Rattle.region.specs.declared.Halfspace.{Halfspace}
use Rattle.region.specs.Regions.{Region}
use Rattle.region.specs.Building.{last_convex, total, with_convex, with_halfspace, begun, last_filled, few_convexes, add}
use Rattle.region.specs.Rows.{row, rows_from, rows, row_in, rows_in, region_of}
use Rattle.region.specs.Reader.{File, Accepted}
use Rattle.region.proofs.RegionLaws.{convex_length, convex_last, rows_length}
use Rattle.region.proofs.AddLaws.{added}
use Rattle.region.proofs.ReaderLaws.{accepted_keeps, accepted_ends}
use Rattle.region.proofs.ReadBack.{WithinLimits}
use Rattle.region.proofs.WriteBack.{UpToLimits, row_grown, up_to_limits, region_back}

-- the rows of g lead from no region to g, whatever rows follow
pub record Leads (g : Region) : Type 0 where
  pub within : UpToLimits g
  pub led : (m n : ℕ) (tail : List ℤ) → m ≡ total g + n → rows_in m [] (rows g ++ tail) ≡ rows_in n g tail

leads_none : Leads []
unfolding total rows rows_from
leads_none = record {
  within = record { good = tt; convexes = omega arith; halfspaces = omega arith };
  led = λ m n tail e. let q : m ≡ n = omega arith in ap (λ k. rows_in k [] tail) q;
}

leads_more : (g r : Region) (k : ℕ) (h : Halfspace) → Leads g → row_in g (pos k) h ≡ gives r → Leads r
unfolding rows_in
leads_more g r k h l e =
    let w = row_grown g r (pos k) h l.within e in
    let t : total r ≡ total g + 1 = omega (arith, rows_length g, rows_length r, ap length w.listed, length-append (rows g) (row k h)) in
    record {
      within = up_to_limits w.limited;
      led = λ m n tail q.
          ap (λ s. rows_in m [] (s ++ tail)) w.listed
          ∙ ap (rows_in m []) (append_assoc (rows g) (row k h) tail)
          ∙ l.led m (suc n) (row k h ++ tail) (omega arith)
          ∙ ap (λ a. then a (λ next. rows_in n next tail)) e;
    }

-- ---- the row of a halfspace in a new convex, and in the last one

opens : (g : Region) (h : Halfspace) → few_convexes (with_convex g) ≡ true → row_in g (pos (length g)) h ≡ add (with_convex g) h
unfolding row_in
opens g h few = rw (eq-eqb (length g) (length g) refl, few)

goes_on : (g : Region) (h : Halfspace) → 0 < length g → length g ≤ 64 → row_in g (pos (length g - 1)) h ≡ add g h
unfolding row_in
goes_on g h b few = rw (ne_eqb (length g - 1) (length g) (λ e. omega arith), lt-ltb 0 (length g) b, eq-eqb (length g - 1 + 1) (length g) (omega arith), le-leb (length g) 64 few)

-- ---- the region read so far: its rows lead to it, or they lead to all but its last convex, which has no halfspace yet

data Listed : Region → Type 0 where
  listed : (g : Region) → Leads g → Listed g
  fresh : (g : Region) → Leads g → few_convexes (with_convex g) ≡ true → Listed (with_convex g)

listed_none : Listed []
listed_none = listed [] leads_none

not_filled : (g : Region) → last_filled (with_convex g) ≡ true → ⊥
not_filled g e = omega (arith, ltb-true 0 (length (last_convex (with_convex g))) e, ap length (convex_last g))

listed_convex : (g : Region) → Listed g → cond (begun g) (last_filled g) true ≡ true → few_convexes (with_convex g) ≡ true → Listed (with_convex g)
listed_convex g (listed _ l) c few = fresh g l few
listed_convex _ (fresh g l few) c _ = absurd (not_filled g (rw (lt-ltb 0 (length (with_convex g)) (omega (arith, convex_length g))) at c))

listed_halfspace : (g r : Region) (h : Halfspace) → Listed g → 0 < length g → add g h ≡ gives r → Listed r
listed_halfspace g r h (listed _ l) b e = listed r (leads_more g r (length g - 1) h l (goes_on g h b l.within.convexes ∙ e))
listed_halfspace _ r h (fresh g l few) b e = listed r (leads_more g r (length g) h l (opens g h few ∙ e))

listed_more : (g r : Region) (h : Halfspace) → Listed g → add g h ≡ gives r → Listed r
unfolding with_halfspace
listed_more [] r h l e = subst Listed (added [] r h e).is listed_none
listed_more (c ∷ cs) r h l e = listed_halfspace (c ∷ cs) r h l (omega arith) e

-- ---- at the end

pub last_total : (g : Region) → length (last_convex g) ≤ total g
unfolding last_convex total
last_total [] = omega arith
last_total (c ∷ []) = omega arith
last_total (c ∷ d ∷ cs) = omega (arith, last_total (d ∷ cs))

region_of_rows : (g : Region) → Listed g → last_filled g ≡ true → region_of (rows g) ≡ gives g
unfolding region_of rows_in
region_of_rows g (listed _ l) f =
    let n = rows_length g in
    let p : 0 < length (rows g) = omega (arith, last_total g, ltb-true 0 (length (last_convex g)) f) in
    rw (lt-ltb 0 (length (rows g)) p, eq-eqb (length (rows g) % 5) 0 (omega arith))
    (ap (rows_in (length (rows g) / 5) []) (sym (append-nil (rows g))) ∙ l.led (length (rows g) / 5) 0 [] (omega arith))
region_of_rows _ (fresh g l few) f = absurd (not_filled g f)

pub accepted_rows : (f : List ℕ) (x : File) → Accepted f x → region_of (rows x.region) ≡ gives x.region
accepted_rows f x a =
    let listed = accepted_keeps (λ y. Listed y.region)
    (λ y t l. listed_convex y.region l t.0 t.1) (λ y g h e l. listed_more y.region g h l e) (λ y h. subst Listed (sym h.region) listed_none) f x a in
    region_of_rows x.region listed (accepted_ends f x a).1

pub accepted_within_limits : (f : List ℕ) (x : File) → Accepted f x → WithinLimits x.region
accepted_within_limits f x a = (region_back (rows x.region) x.region (accepted_rows f x a)).0
