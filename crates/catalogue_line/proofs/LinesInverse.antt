-- The reader of catalogue lines takes what is written, and nothing else. What follows a decimal in a line, a blank or a line feed, is no digit, so the
-- digits end where they were written to end; and at each step the bytes read, written again, with those that are left are the bytes before.
-- Assumes nothing.
use Prim.Native.Nat.{ℕ, zero, suc, ◌+◌, ◌-◌, ◌≤◌, ◌<◌}
use native.Mathlib.Omega.{arith}
use mathlib.Core.Path.{◌≡◌, refl, sym, ap, ◌∙◌, subst}
use mathlib.Core.Bool.{Bool, true, false, ◌&&◌, false≢true}
use mathlib.Core.List.{List, [], ◌∷◌, ◌++◌}
use lib.Dec.{leb, eqb}
use lib.ListN.{length, drop, get_or, length-append}
use lib.Seq.{drop_at}
use borrow.Author.Tests.{leb-true, le-leb, eqb-true, ne_eqb}
use Rattle.algebra.specs.Lists.{every}
use Rattle.algebra.proofs.Tests.{split, and_left, and_right, and_both}
use Rattle.answer.specs.Answer as answer
use Rattle.answer.specs.Answer.{Answer, refused, gives, check, then}
use Rattle.answer.proofs.AnswerLaws.{refused_gives, check_passed, check_gives, same_value, then_gives}
use Rattle.catalogue_line.specs.Lines.{digit0, point, minus, blank, line_feed, Decimal, is_decimal, digit_bytes, sign_bytes, written, Line, is_line, line_of, Found, is_digit_to, digits_in, unsigned_in, decimal_in, next_in, is_end, decimals_in, LinesInverse, MalformedRefused}

abbrev small : ℕ → Bool
small n = leb n 9

-- ---- the digits

digit_byte : (n d : ℕ) → leb d n ≡ true → is_digit_to n (digit0 + d) ≡ true
digit_byte n d e = and_both (le-leb digit0 (digit0 + d) (omega arith)) (le-leb (digit0 + d) (digit0 + n) (omega (arith, leb-true d n e)))

-- a digit's byte, and its value
byte_digit : (n b : ℕ) → is_digit_to n b ≡ true → (digit0 + (b - digit0) ≡ b) × (leb (b - digit0) n ≡ true)
byte_digit n b e =
    let l = leb-true digit0 b (and_left (leb digit0 b) (leb b (digit0 + n)) e) in
    let h = leb-true b (digit0 + n) (and_right (leb digit0 b) (leb b (digit0 + n)) e) in
    (omega arith, le-leb (b - digit0) n (omega arith))

digits_length : (ds : List ℕ) → length (digit_bytes ds) ≡ length ds
unfolding digit_bytes
digits_length [] = refl
digits_length (d ∷ ds) = ap suc (digits_length ds)

pub no_digits : (n : ℕ) (t : List ℕ) → is_digit_to 9 (get_or t 0 0) ≡ false → digits_in n t ≡ []
unfolding digits_in
no_digits zero t e = refl
no_digits (suc n) [] e = refl
no_digits (suc n) (b ∷ t) e = simp e

digits_read : (n : ℕ) (ds t : List ℕ) → length ds ≤ n → every small ds ≡ true → is_digit_to 9 (get_or t 0 0) ≡ false → digits_in n (digit_bytes ds ++ t) ≡ ds
unfolding digits_in digit_bytes every
digits_read n [] t l e f = no_digits n t f
digits_read zero (d ∷ ds) t l e f = absurd (omega arith)
digits_read (suc n) (d ∷ ds) t l e f =
    let b = digit_byte 9 d (and_left (small d) (every small ds) e) in
    let r = digits_read n ds t (omega arith) (and_right (small d) (every small ds) e) f in
    let v : digit0 + d - digit0 ≡ d = omega arith in
    simp (b, r, v)

digits_few : (n : ℕ) (s : List ℕ) → length (digits_in n s) ≤ n
unfolding digits_in
digits_few zero s = omega arith
digits_few (suc n) [] = omega arith
digits_few (suc n) (b ∷ s) = split (is_digit_to 9 b) (λ e. rw e (omega (arith, digits_few n s))) (λ e. rw e (omega arith))

digits_small : (n : ℕ) (s : List ℕ) → every small (digits_in n s) ≡ true
unfolding digits_in every
digits_small zero s = refl
digits_small (suc n) [] = refl
digits_small (suc n) (b ∷ s) = split (is_digit_to 9 b) (λ e. rw e (and_both (byte_digit 9 b e).1 (digits_small n s))) (λ e. rw e refl)

digits_again : (n : ℕ) (s : List ℕ) → digit_bytes (digits_in n s) ++ drop (length (digits_in n s)) s ≡ s
unfolding digits_in digit_bytes
digits_again zero s = refl
digits_again (suc n) [] = refl
digits_again (suc n) (b ∷ s) = split (is_digit_to 9 b)
    (λ e. rw e (ap (λ x. x ∷ digit_bytes (digits_in n s) ++ drop (length (digits_in n s)) s) (byte_digit 9 b e).0 ∙ ap (λ l. b ∷ l) (digits_again n s)))
    (λ e. rw e refl)

-- ---- a decimal

-- what a decimal is
pub record IsDecimal (d : Decimal) : Type 0 where
  pub bit : leb d.whole 1 ≡ true
  pub some : leb 1 (length d.digits) ≡ true
  pub few : leb (length d.digits) 7 ≡ true
  pub each : every small d.digits ≡ true

is_decimal_law : (d : Decimal) → is_decimal d ≡ true → IsDecimal d
unfolding is_decimal
is_decimal_law d e =
    let n = length d.digits in
    let a = every small d.digits in
    let r = and_right (leb d.whole 1) (leb 1 n && (leb n 7 && a)) e in
    let q = and_right (leb 1 n) (leb n 7 && a) r in
    record {
      bit = and_left (leb d.whole 1) (leb 1 n && (leb n 7 && a)) e;
      some = and_left (leb 1 n) (leb n 7 && a) r;
      few = and_left (leb n 7) a q;
      each = and_right (leb n 7) a q;
    }

decimal_is : (d : Decimal) → IsDecimal d → is_decimal d ≡ true
unfolding is_decimal
decimal_is d h = and_both h.bit (and_both h.some (and_both h.few h.each))

abbrev found : Decimal → List ℕ → Found
found d t = record { decimal = d; rest = t }

abbrev unsigned_bytes : Decimal → List ℕ
unsigned_bytes d = (digit0 + d.whole) ∷ point ∷ digit_bytes d.digits

module _ (d : Decimal) (t : List ℕ) (h : IsDecimal d) (ends : is_digit_to 9 (get_or t 0 0) ≡ false) where
  unsigned_read : unsigned_in d.negative (unsigned_bytes d ++ t) ≡ gives (found d t)
  unfolding unsigned_in
  unsigned_read =
      let ds = d.digits in
      let r = digits_read 7 ds t (leb-true (length ds) 7 h.few) h.each ends in
      let v : digit0 + d.whole - digit0 ≡ d.whole = omega arith in
      simp (r, digit_byte 1 d.whole h.bit, h.some, v, drop_at (digit_bytes ds) t (length ds) (digits_length ds))

  by_sign : (g : Bool) → d.negative ≡ g → decimal_in ((sign_bytes g ++ unsigned_bytes d) ++ t) ≡ gives (found d t)
  unfolding decimal_in
  by_sign true e = ap (λ g. unsigned_in g (unsigned_bytes d ++ t)) (sym e) ∙ unsigned_read
  by_sign false e =
      let no : eqb (digit0 + d.whole) minus ≡ false = ne_eqb (digit0 + d.whole) minus (λ q. omega arith) in
      rw no (ap (λ g. unsigned_in g (unsigned_bytes d ++ t)) (sym e) ∙ unsigned_read)

  decimal_read : decimal_in (written d ++ t) ≡ gives (found d t)
  unfolding written
  decimal_read = by_sign d.negative refl

  next_read : next_in (blank ∷ (written d ++ t)) ≡ gives (found d t)
  unfolding next_in
  next_read = decimal_read

-- a decimal that was read, and what is left: they are the bytes that were there
pub record Reads (s : List ℕ) (f : Found) : Type 0 where
  pub good : IsDecimal f.decimal
  pub same : written f.decimal ++ f.rest ≡ s

unsigned_found : (g : Bool) (s : List ℕ) (f : Found) → unsigned_in g s ≡ gives f → IsDecimal f.decimal × (f.decimal.negative ≡ g) × (unsigned_bytes f.decimal ++ f.rest ≡ s)
unfolding unsigned_in
unsigned_found g [] f e = refused_gives answer.Line f e
unsigned_found g (b ∷ []) f e = refused_gives answer.Line f e
unsigned_found g (b ∷ p ∷ s) f e =
    let ds = digits_in 7 s in
    let d : Decimal = record { negative = g; whole = b - digit0; digits = ds } in
    let x = found d (drop (length ds) s) in
    let t = eqb p point && leb 1 (length ds) in
    let c = check_passed answer.Line (is_digit_to 1 b && t) (gives x) f e in
    let q = same_value x f (check_gives answer.Line (is_digit_to 1 b && t) (gives x) f e) in
    let byte = byte_digit 1 b (and_left (is_digit_to 1 b) t c) in
    let r = and_right (is_digit_to 1 b) t c in
    let pt = eqb-true p point (and_left (eqb p point) (leb 1 (length ds)) r) in
    let some = and_right (eqb p point) (leb 1 (length ds)) r in
    subst (λ f. IsDecimal f.decimal × (f.decimal.negative ≡ g) × (unsigned_bytes f.decimal ++ f.rest ≡ b ∷ p ∷ s)) q (
      record { bit = byte.1; some = some; few = le-leb (length ds) 7 (digits_few 7 s); each = digits_small 7 s },
      refl,
      ap (λ x. x ∷ point ∷ (digit_bytes ds ++ drop (length ds) s)) byte.0 ∙ ap (λ l. b ∷ point ∷ l) (digits_again 7 s) ∙ ap (λ x. b ∷ x ∷ s) (sym pt),
    )

decimal_found : (s : List ℕ) (f : Found) → decimal_in s ≡ gives f → Reads s f
unfolding decimal_in written
decimal_found [] f e = refused_gives answer.Line f e
decimal_found (b ∷ s) f e = split (eqb b minus)
    (λ t.
    let u = unsigned_found true s f (rw t at e) in
    record {
      good = u.0;
      same =
          ap (λ g. (sign_bytes g ++ unsigned_bytes f.decimal) ++ f.rest) u.1
          ∙ ap (λ l. minus ∷ l) u.2
          ∙ ap (λ x. x ∷ s) (sym (eqb-true b minus t));
    })
    (λ t.
    let u = unsigned_found false (b ∷ s) f (rw t at e) in
    record { good = u.0; same = ap (λ g. (sign_bytes g ++ unsigned_bytes f.decimal) ++ f.rest) u.1 ∙ u.2 })

next_found : (s : List ℕ) (f : Found) → next_in s ≡ gives f → IsDecimal f.decimal × (blank ∷ (written f.decimal ++ f.rest) ≡ s)
unfolding next_in
next_found [] f e = refused_gives answer.Line f e
next_found (b ∷ s) f e =
    let t = eqb-true b blank (check_passed answer.Line (eqb b blank) (decimal_in s) f e) in
    let r = decimal_found s f (check_gives answer.Line (eqb b blank) (decimal_in s) f e) in
    (r.good, ap (λ l. blank ∷ l) r.same ∙ ap (λ x. x ∷ s) (sym t))

end_found : (s : List ℕ) → is_end s ≡ true → line_feed ∷ [] ≡ s
end_found [] e = absurd (false≢true e)
end_found (b ∷ []) e = ap (λ x. x ∷ []) (sym (eqb-true b line_feed e))
end_found (b ∷ c ∷ s) e = absurd (false≢true e)

sign_length : (g : Bool) → length (sign_bytes g) ≤ 1
sign_length true = omega arith
sign_length false = omega arith

written_length : (d : Decimal) → IsDecimal d → length (written d) ≤ 10
unfolding written
written_length d h =
    let ds = d.digits in
    simp length-append (omega (arith, sign_length d.negative, digits_length ds, leb-true (length ds) 7 h.few))

-- ---- a line

-- what a line is
pub record IsLine (t : Line) : Type 0 where
  pub x : IsDecimal t.x
  pub y : IsDecimal t.y
  pub z : IsDecimal t.z

is_line_law : (t : Line) → is_line t ≡ true → IsLine t
is_line_law t e =
    let r = and_right (is_decimal t.x) (is_decimal t.y && is_decimal t.z) e in
    record {
      x = is_decimal_law t.x (and_left (is_decimal t.x) (is_decimal t.y && is_decimal t.z) e);
      y = is_decimal_law t.y (and_left (is_decimal t.y) (is_decimal t.z) r);
      z = is_decimal_law t.z (and_right (is_decimal t.y) (is_decimal t.z) r);
    }

line_read : (t : Line) → is_line t ≡ true → decimals_in (line_of t) ≡ gives t
unfolding decimals_in
line_read t e =
    let h = is_line_law t e in
    let after-z : List ℕ = line_feed ∷ [] in
    let after-y = blank ∷ (written t.z ++ after-z) in
    let after-x = blank ∷ (written t.y ++ after-y) in
    simp (decimal_read t.x after-x h.x refl, next_read t.y after-y h.y refl, next_read t.z after-z h.z refl)

line_found : (t : Line) (l : List ℕ) → decimals_in l ≡ gives t → (is_line t ≡ true) × (line_of t ≡ l)
unfolding decimals_in
line_found t l e =
    let x = then_gives (decimal_in l) _ t e in
    let y = then_gives (next_in x.0.rest) _ t x.2 in
    let z = then_gives (next_in y.0.rest) _ t y.2 in
    let u : Line = record { x = x.0.decimal; y = y.0.decimal; z = z.0.decimal } in
    let n = is_end z.0.rest in
    let end = end_found z.0.rest (check_passed answer.Line n (gives u) t z.2) in
    let a = decimal_found l x.0 x.1 in
    let b = next_found x.0.rest y.0 y.1 in
    let c = next_found y.0.rest z.0 z.1 in
    subst (λ t. (is_line t ≡ true) × (line_of t ≡ l)) (same_value u t (check_gives answer.Line n (gives u) t z.2)) (
      and_both (decimal_is u.x a.good) (and_both (decimal_is u.y b.0) (decimal_is u.z c.0)),
      ap (λ s. written u.x ++ blank ∷ (written u.y ++ blank ∷ (written u.z ++ s))) end
          ∙ ap (λ s. written u.x ++ blank ∷ (written u.y ++ s)) c.1
          ∙ ap (λ s. written u.x ++ s) b.1
          ∙ a.same,
    )

pub lines_inverse : LinesInverse
lines_inverse t l = (λ e q. subst (λ s. decimals_in s ≡ gives t) q (line_read t e), line_found t l)

-- ---- what is refused

longest : (t : Line) (l : List ℕ) → decimals_in l ≡ gives t → length l ≤ 33
longest t l e =
    let f = line_found t l e in
    let h = is_line_law t f.0 in
    omega (arith, simp length-append at (ap length f.1), written_length t.x h.x, written_length t.y h.y, written_length t.z h.z)

-- every refusal of an answer is 13
abbrev Only : {A : Type 0} → Answer A → Type 0
Only a = (n : ℕ) → a ≡ refused n → n ≡ answer.Line

module _ {A : Type 0} where
  plain_only : Only {A = A} (refused answer.Line)
  plain_only n e = cc

  check_only : (t : Bool) (a : Answer A) → Only a → Only (check answer.Line t a)
  check_only true a p = p
  check_only false a p = plain_only

  gives_only : (x : A) → Only (gives x)
  gives_only x n e = refused_gives n x (sym e)

module _ {A B : Type 0} where
  then_only : (a : Answer A) (f : A → Answer B) → Only a → ((x : A) → Only (f x)) → Only (then a f)
  then_only (refused m) f p q n e = let z : m ≡ n = cc in sym z ∙ p m refl
  then_only (gives x) f p q n e = q x n e

unsigned_only : (g : Bool) (s : List ℕ) → Only (unsigned_in g s)
unfolding unsigned_in
unsigned_only g [] = plain_only
unsigned_only g (b ∷ []) = plain_only
unsigned_only g (b ∷ p ∷ s) = check_only (is_digit_to 1 b && (eqb p point && leb 1 (length (digits_in 7 s)))) (gives _) (gives_only _)

decimal_only : (s : List ℕ) → Only (decimal_in s)
unfolding decimal_in
decimal_only [] = plain_only
decimal_only (b ∷ s) = split (eqb b minus) (λ t. rw t (unsigned_only true s)) (λ t. rw t (unsigned_only false (b ∷ s)))

next_only : (s : List ℕ) → Only (next_in s)
unfolding next_in
next_only [] = plain_only
next_only (b ∷ s) = check_only (eqb b blank) (decimal_in s) (decimal_only s)

line_only : (l : List ℕ) → Only (decimals_in l)
unfolding decimals_in
line_only l =
    then_only (decimal_in l) _ (decimal_only l) (λ x.
    then_only (next_in x.rest) _ (next_only x.rest) (λ y.
    then_only (next_in y.rest) _ (next_only y.rest) (λ z. check_only (is_end z.rest) (gives _) (gives_only _))))

pub malformed_refused : MalformedRefused
malformed_refused = (line_only, λ l h. too_long l h (decimals_in l) refl)
  where
    too_long : (l : List ℕ) → 33 < length l → (a : Answer Line) → decimals_in l ≡ a → decimals_in l ≡ refused answer.Line
    too_long l h (refused n) e = e ∙ ap refused (line_only l n e)
    too_long l h (gives t) e = absurd (omega (arith, longest t l e))
