-- Laws of files in digits: how many bytes a word writes, and what is stored of a line when the next byte comes. Assumes nothing.
use Prim.Native.Nat.{ℕ, zero, suc, ◌+◌, ◌-◌, ◌*◌, ◌/◌, ◌%◌, ◌≤◌, ◌<◌}
use native.Mathlib.Omega.{arith}
use native.Mathlib.Numerals.{add-one}
use mathlib.Core.Path.{◌≡◌, refl, sym, ap, subst, ◌∙◌}
use mathlib.Core.Bool.{Bool, true, false, cond, ◌&&◌}
use mathlib.Core.List.{List, [], ◌∷◌, ◌++◌, append_assoc}
use borrow.Author.Tests.{leb-true, leb-false, lt-leb, le-leb, eqb-true, eq-eqb, ne_eqb}
use lib.Dec.{leb, eqb}
use lib.ListN.{length, get_or, take, drop, set, take-append-drop, length-append, length-drop, length-set, drop_of_length-le}
use lib.Seq.{take-set-le, take-set-lt, drop-set-add, take-suc-set, take-take, take-add, length-take-le, drop-cons}
use Rattle.algebra.specs.Lists.{every}
use Rattle.std.specs.Prelude.{Option, Some, None, min}
use Rattle.std.specs.Option.{is_some}
use Rattle.std.specs.Simd.{first_chunks}
use lib.Pointwise.{pointwise}
use Rattle.std.proofs.lemmas.Bool.Decides.{Decides-eqb}
use Rattle.std.proofs.lemmas.Slice.Eq.{slice_eq-Decides}
use Rattle.command_words.specs.Files.{hex_value, is_hex, is_no_bytes, up_to_capacity, FileCapacity, bytes_in, FileDigits, past, grown, line_with, BytePushed, ByteAppended}
use Rattle.command_words.proofs.NumberLaws.{and_false}

-- ---- how many bytes a word writes

dash_by : (b : ℕ) (t : Bool) → eqb b 45 ≡ t → (b ∷ [] ≡ 45 ∷ [] → ⊥) → t ≡ false
dash_by b true e n = absurd (n (ap (λ (x : ℕ). x ∷ []) (eqb-true b 45 e)))
dash_by b false e n = refl

some_bytes : (w : List ℕ) → (w ≡ 45 ∷ [] → ⊥) → is_no_bytes w ≡ false
some_bytes [] n = refl
some_bytes (b ∷ []) n = dash_by b (eqb b 45) refl n
some_bytes (b ∷ c ∷ w) n = simp (ne_eqb (length (b ∷ c ∷ w)) 1 (λ e. omega arith))

-- a comparison with `-` has failed
pub no_dash : (w v : List ℕ) → v ≡ 45 ∷ [] → false ≡ pointwise eqb w v → is_no_bytes w ≡ false
no_dash w v dash h = some_bytes w (λ e. cc ((slice_eq-Decides Decides-eqb w v false h).1 (e ∙ sym dash)))

few_by : (n : ℕ) (t : Bool) → leb n FileCapacity ≡ t → min n FileCapacity ≡ cond t n FileCapacity
few_by n true q = omega (arith, leb-true n FileCapacity q)
few_by n false q = omega (arith, leb-false n FileCapacity q)

few : (n : ℕ) → min n FileCapacity ≡ up_to_capacity n
few n = few_by n (leb n FileCapacity) refl

pub many : (n : ℕ) → FileCapacity ≤ n → FileCapacity ≡ up_to_capacity n
many n h = subst (λ (m : ℕ). m ≡ up_to_capacity n) (omega arith) (few n)

module _ (w : List ℕ) (some : is_no_bytes w ≡ false) where
  pub no_digits : every is_hex w ≡ false → None ≡ bytes_in w
  no_digits h = simp (some, h, and_false)

  pub all_bytes : {n : ℕ} → 0 < length w / 2 → length w % 2 ≡ 0 → every is_hex w ≡ true → n ≡ min (length w / 2) FileCapacity → Some n ≡ bytes_in w
  all_bytes h k e m =
      ap (λ (r : ℕ). Some r) (m ∙ few (length w / 2))
      ∙ simp (some, le-leb 2 (length w) (omega (arith, h)), eq-eqb (length w / 2 * 2) (length w) (omega arith), e)

-- ---- the next pair of digits

-- the pairs of a list, in their places
pairs_at : (k i : ℕ) (w : List ℕ) → i < k → i * 2 + 1 < length w → get_or (first_chunks 2 k w) i [] ≡ get_or w (i * 2) 0 ∷ get_or w (i * 2 + 1) 0 ∷ []
pairs_at zero i w h l = absurd (omega arith)
pairs_at (suc k) i [] h l = absurd (omega arith)
pairs_at (suc k) i (x ∷ []) h l = absurd (omega arith)
pairs_at (suc k) zero (x ∷ y ∷ w) h l = refl
pairs_at (suc k) (suc i) (x ∷ y ∷ w) h l =
    let next : suc (suc (i * 2)) ≡ suc i * 2 = omega arith in
    let after : suc (suc (i * 2 + 1)) ≡ suc i * 2 + 1 = omega arith in
    pairs_at k i w (omega arith) (omega arith)
    ∙ ap (λ (j : ℕ). get_or (x ∷ y ∷ w) j 0 ∷ get_or w (i * 2 + 1) 0 ∷ []) next
    ∙ ap (λ (j : ℕ). get_or (x ∷ y ∷ w) (suc i * 2) 0 ∷ get_or (x ∷ y ∷ w) j 0 ∷ []) after

module _ (w : List ℕ) (i : ℕ) (here : i * 2 + 1 < length w) where
  abbrev upper : ℕ
  upper = get_or w (i * 2) 0

  abbrev lower : ℕ
  lower = get_or w (i * 2 + 1) 0

  next : suc (i * 2 + 1) ≡ (i + 1) * 2
  next = omega arith

  pair : every is_hex (drop (i * 2) w) ≡ (is_hex upper && (is_hex lower && every is_hex (drop ((i + 1) * 2) w)))
  unfolding every
  pair =
      ap (every is_hex) (drop-cons w (i * 2) 0 (omega arith))
      ∙ ap (λ (v : List ℕ). is_hex upper && every is_hex v) (subst (λ (k : ℕ). drop k w ≡ lower ∷ drop (suc (i * 2 + 1)) w) (add-one (i * 2)) (drop-cons w (i * 2 + 1) 0 here))
      ∙ ap (λ (k : ℕ). is_hex upper && (is_hex lower && every is_hex (drop k w))) next

  -- the digits of a pair, in the word as it is read by pairs
  module _ (ps : List (List ℕ)) (cut : ps ≡ first_chunks 2 (length w / 2) w) where
    digits_of : get_or ps i [] ≡ upper ∷ lower ∷ []
    digits_of = ap (λ (qs : List (List ℕ)). get_or qs i []) cut ∙ pairs_at (length w / 2) i w (omega arith) here

    digit_at : (k : ℕ) {r : Option ℕ} → r ≡ hex_value (get_or (get_or ps i []) k 0) → is_hex (get_or (upper ∷ lower ∷ []) k 0) ≡ is_some r
    digit_at k e = ap (λ (q : List ℕ). is_hex (get_or q k 0)) (sym digits_of) ∙ ap is_some (sym e)

    pub both_read : {x y : ℕ} → Some x ≡ hex_value (get_or (get_or ps i []) 0 0) → Some y ≡ hex_value (get_or (get_or ps i []) 1 0)
        → every is_hex (drop (i * 2) w) ≡ every is_hex (drop ((i + 1) * 2) w)
    both_read h k = pair ∙ simp (digit_at 0 h, digit_at 1 k)

    pub first_bad : None ≡ hex_value (get_or (get_or ps i []) 0 0) → every is_hex (drop (i * 2) w) ≡ false
    first_bad h = pair ∙ simp (digit_at 0 h)

    pub second_bad : None ≡ hex_value (get_or (get_or ps i []) 1 0) → every is_hex (drop (i * 2) w) ≡ false
    second_bad h = pair ∙ simp (digit_at 1 h, and_false)

pub all_read : (w : List ℕ) (n : ℕ) → length w ≤ n → every is_hex (drop n w) ≡ true
unfolding every
all_read w n h = ap (every is_hex) (drop_of_length-le w h)

-- ---- the next byte of a word

module _ (s : List ℕ) (b : ℕ) where
  pub grown_short : length s < FileDigits → grown s b ≡ s ++ (b ∷ [])
  unfolding grown
  grown_short h = simp (lt-leb FileDigits (length s) h)

  -- a digit after just FileDigits
  pub grown_first : length s ≡ FileDigits → is_hex b ≡ true → grown s b ≡ s ++ (b ∷ [])
  unfolding grown past
  grown_first e d = simp (e, d)

  -- a digit after more
  pub grown_second : FileDigits < length s → is_hex b ≡ true → grown s b ≡ take FileDigits s
  unfolding grown past
  grown_second h d = simp (le-leb FileDigits (length s) (omega arith), d, lt-leb (length s) FileDigits h)

  -- another byte
  pub grown_other : FileDigits ≤ length s → is_hex b ≡ false → grown s b ≡ set s 0 b
  unfolding grown past
  grown_other h d = simp (le-leb FileDigits (length s) h, d)

-- ---- the next byte of a line

module _ (p n b : ℕ) (line : List ℕ) (within : n ≤ length line) where
  abbrev stored : List ℕ
  stored = take n line

  abbrev word : List ℕ
  word = drop p (take n line)

  length_pushed : length (stored ++ (b ∷ [])) ≡ n + 1
  length_pushed = simp (length-append, length-take-le n line within)

  stored_pushed : {after : List ℕ} {r q : Option ℕ} → line_with q stored b ≡ stored ++ (b ∷ []) → BytePushed n b line after r → ByteAppended q n b line after r
  stored_pushed {after} {r} {q} one done =
      let long : length (line_with q stored b) ≡ n + 1 = ap length one ∙ length_pushed in
      record {
        fits = λ _ k.
            let new = done.fits (omega arith) in
            let all : take (n + 1) (set line n b) ≡ stored ++ (b ∷ []) = rw (add-one n) (take-suc-set line n b (omega arith)) in
            ap (λ (m : ℕ). take m after) long ∙ ap (λ (w : List ℕ). take (n + 1) w) new.1 ∙ all ∙ sym one;
        exact = λ _ k. let new = done.fits (omega arith) in new.0 ∙ ap (λ (m : ℕ). Some m) (sym long);
        full = λ k. let new = done.full (omega arith) in new.0;
        over = λ k. absurd (omega arith);
      }

  -- with no file
  pub plain : {after : List ℕ} {r : Option ℕ} → BytePushed n b line after r → ByteAppended None n b line after r
  plain done = stored_pushed refl done

  word_length : length word ≡ n - p
  word_length = simp (length-drop, length-take-le n line within)

  -- as it comes
  line_pushed : grown word b ≡ word ++ (b ∷ []) → line_with (Some p) stored b ≡ stored ++ (b ∷ [])
  line_pushed e = ap (λ (w : List ℕ). take p stored ++ w) e ∙ sym (append_assoc (take p stored) word (b ∷ [])) ∙ ap (λ (w : List ℕ). w ++ (b ∷ [])) (take-append-drop p stored)

  dropped : drop p (set stored p b) ≡ set word 0 b
  dropped = subst (λ (k : ℕ). drop p (set stored k b) ≡ set word 0 b) (omega arith) (drop-set-add p stored 0 b)

  parts : set stored p b ≡ take p stored ++ set word 0 b
  parts = sym (take-append-drop p (set stored p b)) ∙ rw (take-set-le p stored p b (omega arith), dropped) refl

  -- at the file's first place
  line_other : p < n → grown word b ≡ set word 0 b → line_with (Some p) stored b ≡ take n (set line p b)
  line_other h e = ap (λ (w : List ℕ). take p stored ++ w) e ∙ sym parts ∙ sym (take-set-lt n line p b h)

  -- two digits dropped
  line_dropped : p + FileDigits ≤ n → grown word b ≡ take FileDigits word → line_with (Some p) stored b ≡ take (p + FileDigits) line
  line_dropped h e =
      ap (λ (w : List ℕ). take p stored ++ w) e ∙ sym (take-add p FileDigits stored) ∙ take-take (p + FileDigits) n line h

  stored_other : p < n → grown word b ≡ set word 0 b → ByteAppended (Some p) n b line (set line p b) (Some n)
  stored_other h e =
      let one : line_with (Some p) stored b ≡ take n (set line p b) = line_other h e in
      let long : length (line_with (Some p) stored b) ≡ n = ap length one ∙ length-take-le n (set line p b) (simp length-set within) in
      record {
        fits = λ _ k. ap (λ (m : ℕ). take m (set line p b)) long ∙ sym one;
        exact = λ _ k. ap (λ (m : ℕ). Some m) (sym long);
        full = λ k. absurd (omega arith);
        over = λ k. absurd (omega arith);
      }

  stored_dropped : p + FileDigits ≤ n → grown word b ≡ take FileDigits word → ByteAppended (Some p) n b line line (Some (p + FileDigits))
  stored_dropped h e =
      let one : line_with (Some p) stored b ≡ take (p + FileDigits) line = line_dropped h e in
      let long : length (line_with (Some p) stored b) ≡ p + FileDigits = ap length one ∙ length-take-le (p + FileDigits) line (omega arith) in
      record {
        fits = λ _ k. ap (λ (m : ℕ). take m line) long ∙ sym one;
        exact = λ _ k. ap (λ (m : ℕ). Some m) (sym long);
        full = λ k. absurd (omega arith);
        over = λ k. absurd (omega arith);
      }

  pub short : {after : List ℕ} {r : Option ℕ} → n - p < FileDigits → BytePushed n b line after r → ByteAppended (Some p) n b line after r
  short h done = stored_pushed (line_pushed (grown_short word b (omega (arith, word_length)))) done

  module _ (far : p + FileDigits ≤ n) where
    pub other : is_hex b ≡ false → ByteAppended (Some p) n b line (set line p b) (Some n)
    other h = stored_other (omega arith) (grown_other word b (omega (arith, word_length)) h)

    pub first_digit : {after : List ℕ} {r : Option ℕ} → n - p ≤ FileDigits → is_hex b ≡ true → BytePushed n b line after r → ByteAppended (Some p) n b line after r
    first_digit k h done = stored_pushed (line_pushed (grown_first word b (omega (arith, word_length)) h)) done

    pub second_digit : FileDigits < n - p → is_hex b ≡ true → ByteAppended (Some p) n b line line (Some (p + FileDigits))
    second_digit k h = stored_dropped far (grown_second word b (omega (arith, word_length)) h)
