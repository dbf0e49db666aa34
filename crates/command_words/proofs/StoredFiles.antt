-- What is stored of a file stands for the whole file. It is the file itself as long as that has at most FileDigits bytes, and a command reads as
-- many bytes of it as of the whole, or no file (`read_the_same`). Of a longer file at least FileDigits bytes are stored, all digits where all of
-- the file are, and an even number of digits was dropped. Assumes nothing.
use Prim.Native.Nat.{ℕ, ◌+◌, ◌*◌, ◌/◌, ◌≤◌, ◌<◌}
use native.Mathlib.Omega.{arith}
use mathlib.Core.Path.{◌≡◌, refl, sym, ap, subst, ◌∙◌}
use mathlib.Core.Bool.{Bool, true, false, ◌&&◌, true≢false}
use mathlib.Core.List.{List, [], ◌∷◌, ◌++◌}
use borrow.Author.Tests.{leb-true, leb-false, le-leb, lt-leb, eqb-true, eqb-false, eq-eqb, ne_eqb}
use lib.Dec.{leb, eqb}
use lib.ListN.{length, take, drop, set, take-append-drop, length-append, length-set, drop_of_length-le}
use lib.Seq.{drop-set-lt, drop_at, length-take-le, append_snoc}
use Rattle.algebra.specs.Lists.{every}
use Rattle.answer.specs.Answer.{refused, Long}
use Rattle.region.specs.Reader as rule
use Rattle.command_words.specs.Numbers.{provided}
use Rattle.command_words.specs.Files.{is_hex, FileCapacity, up_to_capacity, bytes_in, FileDigits, grown, stored_from, stored_of}
use Rattle.command_words.proofs.NumberLaws.{and_false}
use Rattle.command_words.proofs.FileLaws.{many, grown_short, grown_first, grown_second, grown_other}

-- ---- tests over joined lists

every_append : (v w : List ℕ) → every is_hex (v ++ w) ≡ (every is_hex v && every is_hex w)
unfolding every
every_append [] w = refl
every_append (b ∷ v) w = ap (λ t. is_hex b && t) (every_append v w) ∙ assoc (is_hex b) (every is_hex v) (every is_hex w)
  where
    assoc : (a b c : Bool) → (a && (b && c)) ≡ ((a && b) && c)
    assoc true b c = refl
    assoc false b c = refl

every_one : (b : ℕ) → every is_hex (b ∷ []) ≡ is_hex b
unfolding every
every_one b = and_true (is_hex b)
  where
    and_true : (t : Bool) → (t && true) ≡ t
    and_true true = refl
    and_true false = refl

every_more : (w : List ℕ) (b : ℕ) {t : Bool} → is_hex b ≡ t → every is_hex (w ++ (b ∷ [])) ≡ (every is_hex w && t)
every_more w b e = every_append w (b ∷ []) ∙ ap (λ t. every is_hex w && t) (every_one b ∙ e)

and_yes : (t : Bool) → (t && true) ≡ t
and_yes true = refl
and_yes false = refl

every_other : (s : List ℕ) (b : ℕ) → 0 < length s → is_hex b ≡ false → every is_hex (set s 0 b) ≡ false
unfolding every
every_other [] b h e = absurd (omega arith)
every_other (x ∷ s) b h e = ap (λ t. t && every is_hex s) e

every_front : (s : List ℕ) → every is_hex (drop FileDigits s) ≡ true → every is_hex (take FileDigits s) ≡ every is_hex s
every_front s e =
    sym (and_yes (every is_hex (take FileDigits s)))
    ∙ ap (λ t. every is_hex (take FileDigits s) && t) (sym e)
    ∙ sym (every_append (take FileDigits s) (drop FileDigits s))
    ∙ ap (every is_hex) (take-append-drop FileDigits s)

every_none : (s : List ℕ) → length s ≤ FileDigits → every is_hex (drop FileDigits s) ≡ true
unfolding every
every_none s h = ap (every is_hex) (drop_of_length-le s h)

-- ---- a stored file

record Stands (w s : List ℕ) : Type 0 where
  dropped : ℕ
  short : length w ≤ FileDigits → s ≡ w
  long : FileDigits < length w → (FileDigits ≤ length s) × (length s ≤ FileDigits + 1)
  digits : every is_hex s ≡ every is_hex w
  rest : every is_hex (drop FileDigits s) ≡ true
  pairs : every is_hex w ≡ true → length w ≡ length s + 2 * dropped

itself : (w : List ℕ) → length w ≤ FileDigits → Stands w w
itself w h =
    record {
      dropped = 0;
      short = λ _. refl;
      long = λ k. absurd (omega arith);
      digits = refl;
      rest = every_none w h;
      pairs = λ _. omega arith;
    }

length_more : (w : List ℕ) (b : ℕ) → length (w ++ (b ∷ [])) ≡ length w + 1
length_more w b = length-append w (b ∷ [])

module _ (w s : List ℕ) (b : ℕ) (st : Stands w s) where
  more_short : length s < FileDigits → Stands (w ++ (b ∷ [])) (grown s b)
  more_short h = by_length (leb (length w) FileDigits) refl
    where
      by_length : (t : Bool) → leb (length w) FileDigits ≡ t → Stands (w ++ (b ∷ [])) (grown s b)
      by_length true e =
          let same : s ≡ w = st.short (leb-true _ _ e) in
          let next : grown s b ≡ w ++ (b ∷ []) = grown_short s b h ∙ ap (λ v. v ++ (b ∷ [])) same in
          subst (Stands (w ++ (b ∷ []))) (sym next) (itself (w ++ (b ∷ [])) (omega (arith, length_more w b, ap length same)))
      by_length false e = absurd (omega (arith, (st.long (leb-false _ _ e)).0))

  -- past FileDigits: the file and what is stored of it have at least as many
  module _ (far : FileDigits ≤ length s) where
    sizes : (FileDigits ≤ length w) × (length s ≤ FileDigits + 1)
    sizes = by_length (leb (length w) FileDigits) refl
      where
        by_length : (t : Bool) → leb (length w) FileDigits ≡ t → (FileDigits ≤ length w) × (length s ≤ FileDigits + 1)
        by_length true e =
            let within : length w ≤ FileDigits = leb-true _ _ e in
            let same : length s ≡ length w = ap length (st.short within) in
            (omega arith, omega arith)
        by_length false e =
            let past : FileDigits < length w = leb-false _ _ e in
            (omega arith, (st.long past).1)

    longer : FileDigits < length (w ++ (b ∷ []))
    longer = omega (arith, length_more w b, sizes.0)

    more_other : is_hex b ≡ false → Stands (w ++ (b ∷ [])) (grown s b)
    more_other e =
        let none : every is_hex (w ++ (b ∷ [])) ≡ false = every_more w b e ∙ and_false (every is_hex w) in
        rw (grown_other s b far e) (record {
          dropped = 0;
          short = λ k. absurd (omega (arith, longer));
          long = λ _. (omega (arith, length-set s 0 b), omega (arith, length-set s 0 b, sizes.1));
          digits = every_other s b (omega arith) e ∙ sym none;
          rest = ap (every is_hex) (drop-set-lt FileDigits s 0 b (omega arith)) ∙ st.rest;
          pairs = λ all. absurd (true≢false (sym all ∙ none));
        })

    module _ (e : is_hex b ≡ true) where
      before : every is_hex (w ++ (b ∷ [])) ≡ every is_hex w
      before = every_more w b e ∙ and_yes (every is_hex w)

      more_first : length s ≡ FileDigits → Stands (w ++ (b ∷ [])) (grown s b)
      more_first h =
          rw (grown_first s b h e) (record {
            dropped = st.dropped;
            short = λ k. absurd (omega (arith, longer));
            long = λ _. (omega (arith, length_more s b), omega (arith, length_more s b));
            digits = every_more s b e ∙ and_yes (every is_hex s) ∙ st.digits ∙ sym before;
            rest = ap (every is_hex) (drop_at s (b ∷ []) FileDigits h) ∙ every_one b ∙ e;
            pairs = λ all. omega (arith, length_more w b, length_more s b, st.pairs (sym before ∙ all));
          })

      more_second : FileDigits < length s → Stands (w ++ (b ∷ [])) (grown s b)
      more_second h =
          let size : length (take FileDigits s) ≡ FileDigits = length-take-le FileDigits s (omega arith) in
          rw (grown_second s b h e) (record {
            dropped = st.dropped + 1;
            short = λ k. absurd (omega (arith, longer));
            long = λ _. (omega (arith, size), omega (arith, size));
            digits = every_front s st.rest ∙ st.digits ∙ sym before;
            rest = every_none (take FileDigits s) (omega (arith, size));
            pairs = λ all. omega (arith, length_more w b, size, sizes.1, st.pairs (sym before ∙ all));
          })

  more : Stands (w ++ (b ∷ [])) (grown s b)
  more = by_length (leb FileDigits (length s)) refl
    where
      by_digit : FileDigits ≤ length s → (t : Bool) → is_hex b ≡ t → (u : Bool) → leb (length s) FileDigits ≡ u → Stands (w ++ (b ∷ [])) (grown s b)
      by_digit far false e u f = more_other far e
      by_digit far true e true f = more_first far e (omega (arith, leb-true (length s) FileDigits f))
      by_digit far true e false f = more_second far e (leb-false _ _ f)

      by_length : (t : Bool) → leb FileDigits (length s) ≡ t → Stands (w ++ (b ∷ [])) (grown s b)
      by_length true e = by_digit (leb-true _ _ e) (is_hex b) refl (leb (length s) FileDigits) refl
      by_length false e = more_short (leb-false _ _ e)

stands_from : (v s w : List ℕ) → Stands v s → Stands (v ++ w) (stored_from s w)
unfolding stored_from
stands_from v s [] st = subst (λ u. Stands u s) (sym (append_nil v)) st
  where
    append_nil : (v : List ℕ) → v ++ [] ≡ v
    append_nil [] = refl
    append_nil (b ∷ v) = ap (λ u. b ∷ u) (append_nil v)
stands_from v s (b ∷ w) st = subst (λ u. Stands u (stored_from (grown s b) w)) (append_snoc v b w) (stands_from (v ++ (b ∷ [])) (grown s b) w (more v s b st))

stands : (w : List ℕ) → Stands w (stored_of w)
stands w = stands_from [] [] w (itself [] (omega arith))

-- a file of at most FileDigits bytes is stored as it is
pub stored_itself : (w : List ℕ) → length w ≤ FileDigits → stored_of w ≡ w
stored_itself w h = (stands w).short h

-- ---- what is read

long_by : (w : List ℕ) → FileDigits ≤ length w → (t : Bool) → eqb (length w / 2 * 2) (length w) ≡ t
    → provided (t && every is_hex w) (up_to_capacity (length w / 2)) ≡ provided (t && every is_hex w) FileCapacity
long_by w h true e = simp (sym (many (length w / 2) (omega (arith, eqb-true (length w / 2 * 2) (length w) e))))
long_by w h false e = refl

long_read : (w : List ℕ) → FileDigits ≤ length w → bytes_in w ≡ provided (eqb (length w / 2 * 2) (length w) && every is_hex w) FileCapacity
long_read w h = simp (ne_eqb (length w) 1 (λ e. omega arith), le-leb 2 (length w) (omega arith)) (long_by w h (eqb (length w / 2 * 2) (length w)) refl)

even_by : (m n k : ℕ) → m ≡ n + 2 * k → (t : Bool) → eqb (n / 2 * 2) n ≡ t → t ≡ eqb (m / 2 * 2) m
even_by m n k e true f = sym (eq-eqb (m / 2 * 2) m (omega (arith, eqb-true (n / 2 * 2) n f)))
even_by m n k e false f = sym (ne_eqb (m / 2 * 2) m (λ g. eqb-false (n / 2 * 2) n f (omega arith)))

module _ (w s : List ℕ) (st : Stands w s) where
  same_by : (t : Bool) → every is_hex w ≡ t
      → provided (eqb (length s / 2 * 2) (length s) && t) FileCapacity ≡ provided (eqb (length w / 2 * 2) (length w) && t) FileCapacity
  same_by true all = ap (λ u. provided (u && true) FileCapacity) (even_by (length w) (length s) st.dropped (st.pairs all) (eqb (length s / 2 * 2) (length s)) refl)
  same_by false all = simp and_false

  same_long : FileDigits < length w → bytes_in s ≡ bytes_in w
  same_long h =
      long_read s (st.long h).0
      ∙ ap (λ u. provided (eqb (length s / 2 * 2) (length s) && u) FileCapacity) st.digits
      ∙ same_by (every is_hex w) refl
      ∙ sym (long_read w (omega arith))

pub read_the_same : (w : List ℕ) → bytes_in (stored_of w) ≡ bytes_in w
read_the_same w = by_length (leb (length w) FileDigits) refl
  where
    by_length : (t : Bool) → leb (length w) FileDigits ≡ t → bytes_in (stored_of w) ≡ bytes_in w
    by_length true e = ap bytes_in (stored_itself w (leb-true _ _ e))
    by_length false e = same_long w (stored_of w) (stands w) (leb-false _ _ e)

-- FileCapacity bytes are too many, whatever they are
pub too_many : (f : List ℕ) → FileCapacity ≤ length f → rule.read f ≡ refused Long
unfolding rule.read
too_many f h = simp (lt-leb (length f) 10508 h)
