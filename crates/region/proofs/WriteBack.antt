-- What is written is read back: where the writer gives a file, the reader accepts it, with the same depth, budget and rows. Assumes nothing.
use Prim.Native.Nat.{ℕ, zero, suc, ◌+◌, ◌-◌, ◌*◌, ◌/◌, ◌%◌, ◌≤◌, ◌<◌}
use native.Mathlib.Omega.{arith}
use mathlib.Core.Path.{◌≡◌, refl, sym, ap, ◌∙◌, subst}
use mathlib.Core.Bool.{Bool, true, false, cond, ◌||◌, false≢true}
use mathlib.Core.List.{List, [], ◌∷◌, ◌++◌, append_assoc, append-nil}
use lib.Dec.{ltb, eqb}
use lib.ListN.{length, get_or, drop, length-append, length-drop}
use lib.IntN.{ℤ, pos, negsuc, ◌+ℤ◌}
use borrow.Author.Tests.{leb-true, ltb-true, eqb-true, lt-ltb}
use Rattle.algebra.proofs.Tests.{and_left, and_right}
use Rattle.vector.specs.Numbers.{eq_z, is_depth}
use Rattle.answer.specs.Answer.{gives, check, with_value, Order, Crowd, Depth, Budget}
use Rattle.answer.proofs.AnswerLaws.{check_passed, check_gives, same_value, then_gives, value_gives}
use Rattle.region.specs.declared.Halfspace.{Halfspace}
use Rattle.region.specs.Regions.{Convex, Region}
use Rattle.region.specs.Budgets.{is_budget}
use Rattle.region.specs.Building.{last_convex, total, with_convex, with_halfspace, begun, few_convexes, add}
use Rattle.region.proofs.RegionLaws.{convex_length, convex_rows_law, halfspace_length, halfspace_total, halfspace_rows}
use Rattle.region.specs.Reader.{AcceptedIn}
use Rattle.region.specs.Rows.{row, rows, rows_from, begins, goes_on, opened, row_in, halfspace_at, rows_in, region_of}
use Rattle.region.specs.Writer.{file_in, write_in}
use Rattle.region.proofs.AddLaws.{GoodHalfspace, Added, added}
use Rattle.region.proofs.ReadBack.{GoodConvex, GoodConvexes, WithinLimits, with_last, read_back}
use Rattle.region.specs.declared.Style.{Style}

-- ---- good convexes stay good

good_snoc : (c : Convex) (h : Halfspace) → GoodConvex c → GoodHalfspace h → GoodConvex (c ++ h ∷ [])
good_snoc [] h f k = (k, tt)
good_snoc (a ∷ c) h f k = (f.0, good_snoc c h f.1 k)

convexes_snoc : (g : Region) (h : Halfspace) → GoodConvexes g → GoodHalfspace h → GoodConvexes (g ++ (h ∷ []) ∷ [])
convexes_snoc [] h f k = ((k, tt), omega arith, omega arith, tt)
convexes_snoc (c ∷ g) h f k = (f.0, f.1, f.2, convexes_snoc g h f.3 k)

convexes_more : (g : Region) (h : Halfspace) → GoodConvexes g → GoodHalfspace h → length (last_convex g) < 100 → GoodConvexes (with_halfspace g h)
unfolding with_halfspace last_convex
convexes_more [] h f k l = tt
convexes_more (c ∷ []) h f k l = (good_snoc c h f.0 k, omega (arith, length-append c (h ∷ [])), omega (arith, length-append c (h ∷ [])), tt)
convexes_more (c ∷ d ∷ cs) h f k l = (f.0, f.1, f.2, convexes_more (d ∷ cs) h f.3 k l)

-- ---- one row

pub record Grown (g r : Region) (c : ℤ) (h : Halfspace) : Type 0 where
  pub limited : WithinLimits r
  pub listed : rows r ≡ rows g ++ (c ∷ h.n.x ∷ h.n.y ∷ h.n.z ∷ h.d ∷ [])

-- the limits, of a region that may still be empty
pub record UpToLimits (g : Region) : Type 0 where
  pub good : GoodConvexes g
  pub convexes : length g ≤ 64
  pub halfspaces : total g ≤ 512

pub eq_z_eq : (a b : ℤ) → eq_z a b ≡ true → a ≡ b
eq_z_eq (pos a) (pos b) e = ap pos (eqb-true a b e)
eq_z_eq (pos a) (negsuc b) e = absurd (false≢true e)
eq_z_eq (negsuc a) (pos b) e = absurd (false≢true e)
eq_z_eq (negsuc a) (negsuc b) e = ap negsuc (eqb-true a b e)

one_less : (c : ℤ) (m : ℕ) → 0 < m → eq_z (c +ℤ pos 1) (pos m) ≡ true → c ≡ pos (m - 1)
one_less (pos n) m h e = let q : n ≡ m - 1 = omega (arith, eqb-true (n + 1) m e) in ap pos q
one_less (negsuc zero) m h e = absurd (omega (arith, eqb-true 0 m e))
one_less (negsuc (suc n)) m h e = absurd (false≢true (rw (lt-ltb 1 (suc (suc n)) (omega arith)) at e))

-- the region o, which has a convex, and r, which has h at its end
module _ (o r : Region) (h : Halfspace) (a : Added o r h) (begun : 0 < length o) where
  grown_length : length r ≡ length o
  grown_length = ap length (sym a.is) ∙ halfspace_length o h

  grown_total : total r ≡ total o + 1
  grown_total = ap total (sym a.is) ∙ halfspace_total o h begun

  grown_rows : rows r ≡ rows o ++ row (length o - 1) h
  grown_rows = ap rows (sym a.is) ∙ halfspace_rows o h begun

begin_row : (g r : Region) (c : ℤ) (h : Halfspace) → UpToLimits g → begins g c ≡ true → few_convexes (with_convex g) ≡ true → add (with_convex g) h ≡ gives r → Grown g r c h
begin_row g r c h o e few k =
    let a : Added (with_convex g) r h = added (with_convex g) r h k in
    let l = convex_length g in
    let p : 0 < length (with_convex g) = omega arith in
    let w : with_halfspace (with_convex g) h ≡ g ++ (h ∷ []) ∷ [] = with_last g [] h in
    let n : length (with_convex g) - 1 ≡ length g = omega arith in
    record {
      limited = record {
        good = subst GoodConvexes (sym w ∙ a.is) (convexes_snoc g h o.good a.good);
        some = omega (arith, grown_length (with_convex g) r h a p);
        convexes = omega (arith, grown_length (with_convex g) r h a p, leb-true (length (with_convex g)) 64 few);
        halfspaces = omega (arith, grown_total (with_convex g) r h a p, a.in_all);
      };
      listed = grown_rows (with_convex g) r h a p ∙ ap (λ l. l ++ row (length (with_convex g) - 1) h) (convex_rows_law g)
          ∙ ap (λ m. rows g ++ row m h) n ∙ ap (λ q. rows g ++ (q ∷ h.n.x ∷ h.n.y ∷ h.n.z ∷ h.d ∷ [])) (sym (eq_z_eq c (pos (length g)) e));
    }

go_on_row : (g r : Region) (c : ℤ) (h : Halfspace) → UpToLimits g → goes_on g c ≡ true → add g h ≡ gives r → Grown g r c h
go_on_row g r c h o e k =
    let a : Added g r h = added g r h k in
    let p : 0 < length g = ltb-true 0 (length g) (and_left (begun g) (eq_z (c +ℤ pos 1) (pos (length g))) e) in
    let q : c ≡ pos (length g - 1) = one_less c (length g) p (and_right (begun g) (eq_z (c +ℤ pos 1) (pos (length g))) e) in
    record {
      limited = record {
        good = subst GoodConvexes a.is (convexes_more g h o.good a.good a.in_convex);
        some = omega (arith, grown_length g r h a p);
        convexes = omega (arith, grown_length g r h a p, o.convexes);
        halfspaces = omega (arith, grown_total g r h a p, a.in_all);
      };
      listed = grown_rows g r h a p ∙ ap (λ q. rows g ++ (q ∷ h.n.x ∷ h.n.y ∷ h.n.z ∷ h.d ∷ [])) (sym q);
    }

by_begins : (g r : Region) (c : ℤ) (h : Halfspace) (t : Bool) → begins g c ≡ t → UpToLimits g → t || goes_on g c ≡ true
    → few_convexes (cond t (with_convex g) g) ≡ true → add (cond t (with_convex g) g) h ≡ gives r → Grown g r c h
by_begins g r c h true b o e few k = begin_row g r c h o b few k
by_begins g r c h false b o e few k = go_on_row g r c h o e k

pub row_grown : (g r : Region) (c : ℤ) (h : Halfspace) → UpToLimits g → row_in g c h ≡ gives r → Grown g r c h
unfolding row_in
row_grown g r c h o e =
    let t = check_passed Order (begins g c || goes_on g c) (check Crowd (few_convexes (opened g c)) (add (opened g c) h)) r e in
    let a = check_gives Order (begins g c || goes_on g c) (check Crowd (few_convexes (opened g c)) (add (opened g c) h)) r e in
    by_begins g r c h (begins g c) refl o t (check_passed Crowd (few_convexes (opened g c)) (add (opened g c) h) r a) (check_gives Crowd (few_convexes (opened g c)) (add (opened g c) h) r a)

-- ---- all rows

five : (rs : List ℤ) → 5 ≤ length rs → (get_or rs 0 (pos 0) ∷ get_or rs 1 (pos 0) ∷ get_or rs 2 (pos 0) ∷ get_or rs 3 (pos 0) ∷ get_or rs 4 (pos 0) ∷ []) ++ drop 5 rs ≡ rs
five [] h = absurd (omega arith)
five (a ∷ []) h = absurd (omega arith)
five (a ∷ b ∷ []) h = absurd (omega arith)
five (a ∷ b ∷ c ∷ []) h = absurd (omega arith)
five (a ∷ b ∷ c ∷ d ∷ []) h = absurd (omega arith)
five (a ∷ b ∷ c ∷ d ∷ e ∷ rs) h = refl

none : (rs : List ℤ) → length rs ≤ 0 → [] ≡ rs
none [] h = refl
none (a ∷ rs) h = absurd (omega arith)

pub up_to_limits : {g : Region} → WithinLimits g → UpToLimits g
up_to_limits w = record { good = w.good; convexes = w.convexes; halfspaces = w.halfspaces }

rows_grown : (n : ℕ) (g r : Region) (rs : List ℤ) → WithinLimits g → length rs ≡ 5 * n → rows_in n g rs ≡ gives r → WithinLimits r × (rows r ≡ rows g ++ rs)
unfolding rows_in
rows_grown zero g r rs w l e =
    let s = same_value g r e in
    (subst WithinLimits s w, sym (ap rows s) ∙ sym (append-nil (rows g)) ∙ ap (λ x. rows g ++ x) (none rs (omega arith)))
rows_grown (suc n) g r rs w l e =
    let c = get_or rs 0 (pos 0) in
    let t = then_gives (row_in g c (halfspace_at rs)) (λ next. rows_in n next (drop 5 rs)) r e in
    let k : Grown g t.0 c (halfspace_at rs) = row_grown g t.0 c (halfspace_at rs) (up_to_limits w) t.1 in
    let m = rows_grown n t.0 r (drop 5 rs) k.limited (omega (arith, length-drop 5 rs)) t.2 in
    (m.0, m.1 ∙ ap (λ x. x ++ drop 5 rs) k.listed ∙ append_assoc (rows g) _ (drop 5 rs) ∙ ap (λ x. rows g ++ x) (five rs (omega arith)))

first_rows : (n : ℕ) (r : Region) (rs : List ℤ) → 0 < n → length rs ≡ 5 * n → rows_in n [] rs ≡ gives r → WithinLimits r × (rows r ≡ rs)
unfolding rows_in rows rows_from total
first_rows zero r rs p l e = absurd (omega arith)
first_rows (suc n) r rs p l e =
    let c = get_or rs 0 (pos 0) in
    let t = then_gives (row_in [] c (halfspace_at rs)) (λ next. rows_in n next (drop 5 rs)) r e in
    let k : Grown [] t.0 c (halfspace_at rs) = row_grown [] t.0 c (halfspace_at rs) (record { good = tt; convexes = omega arith; halfspaces = omega arith }) t.1 in
    let m = rows_grown n t.0 r (drop 5 rs) k.limited (omega (arith, length-drop 5 rs)) t.2 in
    (m.0, m.1 ∙ ap (λ x. x ++ drop 5 rs) k.listed ∙ five rs (omega arith))

pub region_back : (rs : List ℤ) (g : Region) → region_of rs ≡ gives g → WithinLimits g × (rows g ≡ rs)
unfolding region_of
region_back rs g e =
    let p = ltb-true 0 (length rs) (check_passed Order (ltb 0 (length rs)) (check Order (eqb (length rs % 5) 0) (rows_in (length rs / 5) [] rs)) g e) in
    let a = check_gives Order (ltb 0 (length rs)) (check Order (eqb (length rs % 5) 0) (rows_in (length rs / 5) [] rs)) g e in
    let q = eqb-true (length rs % 5) 0 (check_passed Order (eqb (length rs % 5) 0) (rows_in (length rs / 5) [] rs) g a) in
    first_rows (length rs / 5) g rs (omega arith) (omega arith) (check_gives Order (eqb (length rs % 5) 0) (rows_in (length rs / 5) [] rs) g a)

-- ---- what is written is read back

pub write_back :
    (s : Style) (d b : ℕ) (rs : List ℤ) (f : List ℕ) → write_in s d b rs ≡ gives f
    → (g : Region) × (rows g ≡ rs) × AcceptedIn s f (record { depth = d; budget = b; region = g })
unfolding write_in
write_back s d b rs f e =
    let made = with_value (file_in s d b) (region_of rs) in
    let t = check_passed Depth (is_depth d) (check Budget (is_budget b) made) f e in
    let a = check_gives Depth (is_depth d) (check Budget (is_budget b) made) f e in
    let u = check_passed Budget (is_budget b) made f a in
    let v = value_gives (file_in s d b) (region_of rs) f (check_gives Budget (is_budget b) made f a) in
    let w = region_back rs v.0 v.1 in
    (v.0, w.1, subst (λ x. AcceptedIn s x (record { depth = d; budget = b; region = v.0 })) v.2 (read_back s d b v.0 t u w.0))
