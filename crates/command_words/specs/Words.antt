-- The words that are left of a line, parted by one blank each. A line is a list of bytes, and none is left where it is over.
--   left r              the bytes that are left
--   first_word l        the bytes before the first blank, or all
--   after_word l        the bytes after it, none where there is no blank
--   words_in l          all the words: those between the blanks, or none
--   number_next l       the number without a sign, with at most m, that the first word writes
--   whole_next l        the same with a sign
--   point_next l        the three whole numbers that the first three words write
--   file_next l         how many bytes the file has that the first word writes
use Rattle.std.specs.Prelude.{ℕ, ℤ, ◌+◌, List, [], eqb, length, take, drop, Option, Some, None}
use Rattle.std.specs.Borrow.{Bor}
use Rattle.std.specs.List.{position, slice_split}
use Rattle.std.specs.Option.{option_map, option_and_then, unwrap_or}
use Rattle.command_words.specs.Numbers.{natural_in, whole_in}
use Rattle.command_words.specs.Files.{bytes_in}

abbrev pub left : Option (Bor (List ℕ)) → Option (List ℕ)
left r = option_map (λ l. l.now) r

abbrev pub blank_in : List ℕ → Option ℕ
blank_in l = position (λ b. eqb b 32) l

abbrev pub first_word : Option (List ℕ) → Option (List ℕ)
first_word r = option_map (λ l. take (unwrap_or (blank_in l) (length l)) l) r

abbrev pub after_word : Option (List ℕ) → Option (List ℕ)
after_word r = option_and_then (λ l. option_map (λ n. drop (n + 1) l) (blank_in l)) r

abbrev pub words_in : Option (List ℕ) → List (List ℕ)
words_in (Some l) = slice_split (λ b. eqb b 32) l
words_in None = []

abbrev pub number_next : ℕ → Option (List ℕ) → Option ℕ
number_next m r = option_and_then (λ w. natural_in m w) (first_word r)

abbrev pub whole_next : Option (List ℕ) → Option ℤ
whole_next r = option_and_then (λ w. whole_in w) (first_word r)

abbrev pub point_next : Option (List ℕ) → Option (ℤ × ℤ × ℤ)
point_next r =
    option_and_then (λ x. option_and_then (λ y. option_map (λ z. (x, y, z)) (whole_next (after_word (after_word r)))) (whole_next (after_word r))) (whole_next r)

abbrev pub file_next : Option (List ℕ) → Option ℕ
file_next r = option_and_then (λ w. bytes_in w) (first_word r)
