-- Two digits more, which are ASCII.
use Rattle.std.proofs.Common.{rules, arith, ◌≡◌, ◌<◌, ◌+◌, ◌*◌, ◌/◌, ◌%◌, ℕ, suc, false, List, [], ◌∷◌, ◌++◌, length, take, slice_index, slice_set, ap, ◌∙◌, sym}
use Rattle.std.proofs.lemmas.List.{append_assoc, length-set, take_all, take_more, take_more_set, flat_map_more}
use Rattle.std.proofs.lemmas.Str.Ascii.{IsAscii-nil, IsAscii-cons}
use Rattle.std.specs.Fmt.{digit_glyph}
use Rattle.std.specs.Str.{IsAscii}
use Rattle.print.specs.Texts.{byte_text, digits_text}
use Rattle.print.proofs.regions.put_digits.Goals as goal

-- two elements that are set, one behind the other
two_more : (xs : List ℕ) (n x y : ℕ) → n + 1 < length xs → take (n + 2) (slice_set (slice_set xs n x) (n + 1) y) ≡ take n xs ++ (x ∷ y ∷ [])
two_more xs n x y h =
    let long = length-set xs n x in
    let next : n + 2 ≡ n + 1 + 1 = omega arith in
    let second = take_more_set (slice_set xs n x) (n + 1) y (omega (arith, long)) in
    let first = take_more_set xs n x (omega arith) in
    rw (next, second, first) (append_assoc (take n xs) (x ∷ []) (y ∷ []))

pub loop-i-preserved : goal.loop-i-preserved
loop-i-preserved c =
    let part : List ℕ = c.args.part.now in
    let i : ℕ = c.loop-i.i in
    let next : 2 * (i + 1) ≡ 2 * i + 2 = omega arith in
    let more = two_more c.loop-i.text (2 * i) c.digit.result c.digit-in-loop-i.result (search rules) in
    rw (next, more, c.loop-i.invariant, c.digit.ensures, c.digit-in-loop-i.ensures)
    (flat_map_more byte_text [] (take i part) (slice_index part i) ∙ ap digits_text (sym (take_more part i 0 c.loop-i-test.true)))

pub returns-clause-digits : goal.returns-clause-digits
returns-clause-digits c =
    let part : List ℕ = c.args.part.now in
    let all : c.loop-i.i ≡ length part = omega arith in
    rw (← all) c.loop-i.invariant ∙ ap digits_text (take_all c.loop-i.i part (omega arith))

glyph_ascii : (d : ℕ) → d < 16 → digit_glyph false d < 128
glyph_ascii d h = grind arith

digits_ascii : (xs : List ℕ) → ((i : ℕ) → slice_index xs i < 256) → IsAscii (digits_text xs)
digits_ascii [] h = IsAscii-nil
digits_ascii (b ∷ xs) h =
    let byte : b < 256 = h 0 in
    IsAscii-cons (digit_glyph false (b / 16)) (digit_glyph false (b % 16) ∷ digits_text xs) (glyph_ascii (b / 16) (omega arith))
    (IsAscii-cons (digit_glyph false (b % 16)) (digits_text xs) (glyph_ascii (b % 16) (omega arith)) (digits_ascii xs (λ i. h (suc i))))

pub returns-clause-ascii : goal.returns-clause-ascii
returns-clause-ascii c = digits_ascii c.args.part.now (λ i. (c.type_inv.part i).fits)
