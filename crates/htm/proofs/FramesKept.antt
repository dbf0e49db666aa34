-- The frames delivered are those that the region holds. In an index every entry is filed under its pointing's identifier, which shortened to the
-- file's depth is the lookup's there (`shorter`); so by demand 3 (`kept`) an entry in an inner range is held, and a held one is in an outer range.
-- What is skipped is not held, what is tested is decided by the test. Nothing of the sky is proved again. Assumes nothing.
use Prim.Native.Nat.{ℕ, ◌-◌, ◌*◌, ◌/◌, ◌^◌, ◌≤◌}
use native.Mathlib.Omega.{arith}
use mathlib.Core.Path.{◌≡◌, refl, sym, ap, subst, subst₂, subst₃, ◌∙◌}
use mathlib.Core.Bool.{Bool, true, false, not, cond, ◌&&◌, ◌||◌, false≢true}
use mathlib.Core.List.{List, [], ◌∷◌, map}
use lib.ListN.{length, drop}
use lib.IntN.{ℤ, pos, negsuc, nat_abs}
use lib.Dec.{leb, ltb}
use borrow.Author.Tests.{leb-true}
use lib.Seq.{take_all}
use lib.Signed.{le_z}
use Rattle.algebra.specs.Lists.{every, tally}
use Rattle.algebra.proofs.Tests.{and_left, and_right, split}
use Rattle.answer.specs.Answer.{Answer, gives, check, then, with_value, Space, Owner}
use Rattle.answer.specs.Lent.{put, stored, room}
use Rattle.answer.proofs.AnswerLaws.{check_passed, check_gives, same_value, then_gives, value_gives}
use Rattle.vector.specs.declared.Vec3.{Vec3}
use Rattle.vector.specs.Numbers.{eq_z}
use Rattle.vector.specs.Vectors.{is_vector}
use Rattle.vector.proofs.VectorLaws.{vector_unit_length}
use Rattle.vector.proofs.DepthLaws.{depth_range}
use Rattle.mesh.specs.Lookup.{identifier}
use Rattle.mesh.proofs.LookupLaws.{shorter}
use Rattle.region.specs.Regions.{Region, holds}
use Rattle.region.specs.Budgets.{budget_of}
use Rattle.region.specs.Reader.{File, read, Accepted}
use Rattle.region.proofs.ReaderLaws.{read_depth}
use Rattle.ranges.specs.declared.Range.{Range}
use Rattle.ranges.specs.Ranges.{is_in, in_some, ranges_in}
use Rattle.covering.specs.Cover.{cover_of, cover, counts_of}
use Rattle.covering.proofs.ListedLaws.{outer_back, inner_back}
use Rattle.index.specs.declared.Entry.{Entry}
use Rattle.index.specs.Exposures.{OwnerCapacity, is_owner, is_number, only}
use Rattle.index.specs.Entries.{IndexLength, is_owned, entries_in}
use Rattle.index.specs.Answers.{in_list}
use Rattle.index.specs.HistoryCorrect.{Ascends, is_filed, IsIndex}
use Rattle.index.proofs.OrderLaws.{eq_z_eq, only_ascends}
use Rattle.index.proofs.TallyLaws.{some_tally}
use Rattle.frames.specs.declared.Disposition.{Disposition}
use Rattle.frames.specs.declared.Frames as declared
use Rattle.frames.specs.Walk.{natural, shortened, number_of, entries_of, disposition_of, WalkStep, walk_step, walk, is_delivered, is_tested, delivered_by, tests_of}
use Rattle.frames.specs.Answers.{frames_into, walk_of, frames_by, frames_answer, ranges_after, numbers_after}
use Rattle.frames.proofs.WalkLaws.{disposition_in, walk_all, delivered_only, tallied, only_same, tally_same, only_every, only_length}
use Rattle.htm.specs.Promise.{CoverSound}
use Rattle.htm.specs.Answers.{cover_into, cover_answer, both_lists, cover_after}
use Rattle.htm.specs.Frames.{entries_by, outer_only, Delivers, Delivered, FramesOfCalls}
use Rattle.htm.proofs.PromiseKept.{outer_proper, inner_proper, kept}

-- ---- an entry of an index

-- a filed entry, by its parts
record Filed (e : Entry) : Type 0 where
  number : pos (number_of e) ≡ e.number
  vector : is_vector e.pointing ≡ true
  id : e.id ≡ pos (identifier e.pointing 12)

number_natural : (z : ℤ) → le_z (pos 0) z ≡ true → is_number (nat_abs z) ≡ true → pos (cond (is_number (natural z)) (natural z) 0) ≡ z
number_natural (pos n) l e = ap (λ t. pos (cond t n 0)) e
number_natural (negsuc n) l e = absurd (false≢true l)

filed : (e : Entry) → is_filed e ≡ true → Filed e
filed e h =
    let low = le_z (pos 0) e.number in
    let few = is_number (nat_abs e.number) in
    let own = is_owned 0 e || is_owned 1 e in
    let vec = is_vector e.pointing in
    let same = eq_z e.id (pos (identifier e.pointing 12)) in
    let front = and_left (low && few && own && vec) same h in
    let numbered = and_left (low && few) own (and_left (low && few && own) vec front) in
    record {
      number = number_natural e.number (and_left low few numbered) (and_right low few numbered);
      vector = and_right (low && few && own) vec front;
      id = eq_z_eq e.id (pos (identifier e.pointing 12)) (and_right (low && few && own && vec) same h);
    }

-- its numbers are what is delivered
numbers_back : (es : List Entry) → every is_filed es ≡ true → map pos (map number_of es) ≡ map (λ e. e.number) es
unfolding every
numbers_back [] h = refl
numbers_back (e ∷ es) h =
    let r = numbers_back es (and_right (is_filed e) (every is_filed es) h) in
    λ i. (filed e (and_left (is_filed e) (every is_filed es) h)).number i ∷ r i

-- ---- its disposition

-- an identifier that is in one range is in some
once_some : (i : ℕ) (rs : List Range) → tally (is_in i) rs ≡ 1 → in_some i rs ≡ true
once_some i rs e = some_tally (is_in i) rs ∙ ap (λ n. ltb 0 n) e

-- by whether it is in an inner range, n, in an outer one, o, and held, h
delivered_held : (held : Vec3 → Bool) (p : Vec3) (n o h : Bool) → is_vector p ≡ true → held p ≡ h → (n ≡ true → h ≡ true) → (h ≡ true → o ≡ true)
    → is_delivered (disposition_of held n o p) ≡ h
delivered_held held p true o h v e in_held held_out = sym (in_held refl)
delivered_held held p false true true v e in_held held_out = ap (λ t. is_delivered (cond t Disposition.Held Disposition.Discarded)) (λ i. v i && e i)
delivered_held held p false true false v e in_held held_out = ap (λ t. is_delivered (cond t Disposition.Held Disposition.Discarded)) (λ i. v i && e i)
delivered_held held p false false true v e in_held held_out = absurd (false≢true (held_out refl))
delivered_held held p false false false v e in_held held_out = refl

tested_outer : (held : Vec3 → Bool) (p : Vec3) (n o : Bool) → is_tested (disposition_of held n o p) ≡ (o && not n)
tested_outer held p true true = refl
tested_outer held p true false = refl
tested_outer held p false true = split (is_vector p && held p) (λ e. ap (λ t. is_tested (cond t Disposition.Held Disposition.Discarded)) e) (λ e. ap (λ t. is_tested (cond t Disposition.Held Disposition.Discarded)) e)
tested_outer held p false false = refl

module _ (d b : ℕ) (g : Region) (low : 1 ≤ d) (high : d ≤ 12) where
  abbrev os : List Range
  os = (cover_of d b g).outer

  abbrev ns : List Range
  ns = (cover_of d b g).inner

  by_region : (e : Entry) → is_filed e ≡ true → is_delivered (disposition_in d (holds g) os ns e) ≡ holds g e.pointing
  by_region e h =
      let f = filed e h in
      let p = e.pointing in
      let s : shortened d e ≡ identifier p d = ap (λ z. natural z / 4 ^ (12 - d)) f.id ∙ shorter p d low high in
      let k : CoverSound (shortened d e) os ns (budget_of b) (holds g p) = subst (λ i. CoverSound i os ns (budget_of b) (holds g p)) (sym s) (kept d b g p (vector_unit_length p f.vector)) in
      delivered_held (holds g) p (in_some (shortened d e) ns) (in_some (shortened d e) os) (holds g p) f.vector refl k.inner_held (λ t. once_some (shortened d e) os (k.held_outer t))

  -- the walk over entries of an index
  module _ (es : List Entry) (up : Ascends es) (all : every is_filed es ≡ true) where
    abbrev F : Entry → Disposition
    F e = disposition_in d (holds g) os ns e

    each : walk d (holds g) os ns es ≡ map (λ e. walk_step e (F e)) es
    each = walk_all d (holds g) os ns es up (outer_proper d b g).ascends (inner_proper d b g).ascends

    exactly : map pos (delivered_by (walk d (holds g) os ns es)) ≡ map (λ e. e.number) (only (λ e. holds g e.pointing) es)
    exactly =
        let held = only (λ e. holds g e.pointing) es in
        ap (map pos) (ap delivered_by each ∙ delivered_only d (holds g) os ns F es ∙ ap (map number_of) (only_same is_filed (λ e. is_delivered (F e)) (λ e. holds g e.pointing) by_region es all))
        ∙ numbers_back held (only_every (λ e. holds g e.pointing) is_filed es all)

    held_delivered : tally (λ m. is_delivered m.disposition) (walk d (holds g) os ns es) ≡ tally (λ e. holds g e.pointing) es
    held_delivered =
        ap (tally (λ m. is_delivered m.disposition)) each ∙ tallied d (holds g) os ns F is_delivered es
        ∙ tally_same is_filed (λ e. is_delivered (F e)) (λ e. holds g e.pointing) by_region es all

    counted : tests_of (walk d (holds g) os ns es) ≡ tally (outer_only d os ns) es
    counted =
        ap tests_of each ∙ tallied d (holds g) os ns F is_tested es
        ∙ tally_same is_filed (λ e. is_tested (F e)) (outer_only d os ns) (λ e h. tested_outer (holds g) e.pointing (in_some (shortened d e) ns) (in_some (shortened d e) os)) es all

-- ---- the entries of an owner in an index

module _ (l : List ℤ) (i : IsIndex l) (o : ℕ) where
  pub all_own : entries_of o l ≡ entries_by o l
  all_own = take_all OwnerCapacity (entries_by o l) (omega (arith, only_length (is_owned o) (entries_in l), i.within o))

  own_ascends : Ascends (entries_by o l)
  own_ascends = only_ascends (is_owned o) (entries_in l) i.ascends

  own_filed : every is_filed (entries_by o l) ≡ true
  own_filed = only_every (is_owned o) is_filed (entries_in l) i.filed

-- of any depth, budget and region
pub delivers : (d b : ℕ) (g : Region) → 1 ≤ d → d ≤ 12 → (l : List ℤ) → IsIndex l → (o : ℕ)
    → Delivers o l g d (cover_of d b g).outer (cover_of d b g).inner (delivered_by (walk d (holds g) (cover_of d b g).outer (cover_of d b g).inner (entries_of o l)))
    (tests_of (walk d (holds g) (cover_of d b g).outer (cover_of d b g).inner (entries_of o l)))
delivers d b g low high l i o =
    let w : List Entry → List WalkStep = λ es. walk d (holds g) (cover_of d b g).outer (cover_of d b g).inner es in
    record {
      exactly = ap (λ es. map pos (delivered_by (w es))) (all_own l i o) ∙ exactly d b g low high (entries_by o l) (own_ascends l i o) (own_filed l i o);
      counted = ap (λ es. tests_of (w es)) (all_own l i o) ∙ counted d b g low high (entries_by o l) (own_ascends l i o) (own_filed l i o);
    }

-- as many as the region holds
pub delivered_tally : (d b : ℕ) (g : Region) → 1 ≤ d → d ≤ 12 → (l : List ℤ) → IsIndex l → (o : ℕ)
    → tally (λ m. is_delivered m.disposition) (walk d (holds g) (cover_of d b g).outer (cover_of d b g).inner (entries_of o l)) ≡ tally (λ e. holds g e.pointing) (entries_by o l)
delivered_tally d b g low high l i o =
    ap (λ es. tally (λ m. is_delivered m.disposition) (walk d (holds g) (cover_of d b g).outer (cover_of d b g).inner es)) (all_own l i o)
    ∙ held_delivered d b g low high (entries_by o l) (own_ascends l i o) (own_filed l i o)

pub frames_kept : (o : ℕ) (l : List ℤ) (f : List ℕ) (x : File) → IsIndex l → Accepted f x
    → Delivers o l x.region x.depth (cover x).outer (cover x).inner (delivered_by (walk_of o l x)) (tests_of (walk_of o l x))
unfolding walk_of
frames_kept o l f x i r =
    let d = depth_range x.depth (read_depth f x r) in
    delivers x.depth x.budget x.region d.0 d.1 l i o

-- ---- of the answers and of the calls

-- what an answer that gives says of its file
record Into (f ranges : List ℕ) (x : File) : Type 0 where
  accepted : Accepted f x
  long : leb (4 * budget_of x.budget) (length ranges) ≡ true

into : (o : ℕ) (l : List ℤ) (f ranges numbers : List ℕ) (x : File) → frames_into o l f ranges numbers ≡ gives x → Into f ranges x
into o l f ranges numbers x e =
    let third : File → Answer File = λ y. in_list l (gives y) in
    let second : File → Answer File = λ y. check Space (leb OwnerCapacity (length numbers)) (third y) in
    let first : File → Answer File = λ y. check Space (leb (4 * budget_of y.budget) (length ranges)) (second y) in
    let t = then_gives (read f) first x (check_gives Owner (is_owner o) (then (read f) first) x e) in
    let y = t.0 in
    let long = leb (4 * budget_of y.budget) (length ranges) in
    let b = check_gives Space long (second y) x t.2 in
    let c = check_gives Space (leb OwnerCapacity (length numbers)) (third y) x b in
    let same : y ≡ x = same_value y x (check_gives Space (leb IndexLength (length l)) (gives y) x c) in
    record {
      accepted = t.1 ∙ ap gives same;
      long = subst (λ z. leb (4 * budget_of z.budget) (length ranges) ≡ true) same (check_passed Space long (second y) x t.2);
    }

-- what the cover of that file answers and leaves
module _ (f ranges : List ℕ) (x : File) (t : Into f ranges x) where
  covers : cover_into f ranges ≡ gives x
  covers = ap (λ a. then a (λ y. room (4 * budget_of y.budget) ranges y)) t.accepted ∙ ap (λ b. check Space b (gives x)) t.long

  cover_answers : cover_answer f ranges ≡ gives (counts_of (cover x))
  unfolding cover_answer
  cover_answers = ap (with_value (λ y. counts_of (cover y))) covers

  cover_leaves : cover_after f ranges ≡ both_lists x ranges
  unfolding cover_after
  cover_leaves = ap (λ a. stored both_lists a ranges) covers

pub frames_answers : (o : ℕ) (l : List ℤ) (f ranges numbers : List ℕ) (r : declared.Frames) → IsIndex l → frames_answer o l f ranges numbers ≡ gives r
    → Delivered o l f ranges numbers r (ranges_after o l f ranges numbers) (numbers_after o l f ranges numbers)
unfolding frames_answer ranges_after numbers_after
frames_answers o l f ranges numbers r i e =
    let v = value_gives (λ y. frames_by (walk_of o l y)) (frames_into o l f ranges numbers) r e in
    let x = v.0 in
    let t = into o l f ranges numbers x v.1 in
    let B = budget_of x.budget in
    let C = cover x in
    let leaves : ranges_after o l f ranges numbers ≡ both_lists x ranges = ap (λ a. stored both_lists a ranges) v.1 in
    let space : 4 * B ≤ length ranges = leb-true (4 * B) (length ranges) t.long in
    let few = (outer_proper x.depth x.budget x.region).few in
    let outer : C.outer ≡ ranges_in (length C.outer) (ranges_after o l f ranges numbers) = sym (ap (ranges_in (length C.outer)) leaves ∙ outer_back B C ranges space few) in
    let inner : C.inner ≡ ranges_in (length C.inner) (drop (2 * B) (ranges_after o l f ranges numbers)) = sym (ap (λ k. ranges_in (length C.inner) (drop (2 * B) k)) leaves ∙ inner_back B C ranges space few) in
    let w = walk_of o l x in
    let same : frames_by w ≡ r = v.2 in
    record {
      file = x;
      accepted = t.accepted;
      counts = counts_of C;
      covered = cover_answers f ranges x t;
      lists_left = leaves ∙ sym (cover_leaves f ranges x t);
      delivered = delivered_by w;
      count = sym (ap (λ k. k.delivered) same);
      numbers_left = ap (λ a. stored (λ y before. put 0 (delivered_by (walk_of o l y)) before) a numbers) v.1;
      delivers = subst₃ (λ os ns n. Delivers o l x.region x.depth os ns (delivered_by w) n) outer inner (ap (λ k. k.tests) same) (frames_kept o l f x i t.accepted);
    }

pub frames_calls : FramesOfCalls
frames_calls o l f ranges numbers lists left r i k =
    subst₂ (λ x y. Delivered o l f ranges numbers r x y) (sym k.lists_left) (sym k.numbers_left) (frames_answers o l f ranges numbers r i (sym k.answer))
