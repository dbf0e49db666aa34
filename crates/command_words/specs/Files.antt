-- Files in hexadecimal digits, as a command line writes them, and what is stored of such a line while it comes. A word and a line are lists of bytes.
--   hex_value b           the value of a digit, whose letters are small or capital; none for another byte
--   is_hex b              a byte is a digit
--   FileCapacity         the bytes of a file that is one byte too long for a region file
--   bytes_in w            how many bytes a word writes, two digits each and none for `-`; FileCapacity where there are more
--   file_length r           the length of a file that was read, if there is one
--   FileDigits           one digit less than a file of FileCapacity bytes has
--   grown s b            what is stored of a file when s is stored of it and b follows: FileDigits bytes as they come. Then a digit is stored
--                        until a second one comes, and both are dropped; another byte takes the place of the first, so that there is no file
--   stored_of w           what is stored of a whole file
--   line_with p s b       what is stored of a line with a file from p on, or with none, when s is stored of it and b follows
--   file_place b p        where the file of a line begins that had one from p on when b follows: nowhere after a blank, which ends it
--   BytePushed, ByteAppended   a byte is appended to a list of which n bytes are stored: so many are stored then as r says, none where the list cannot
--                        hold them or has less than n
--   ByteStored           as above, where n is an Option too: of a line that was too long nothing is stored
use Rattle.std.specs.Prelude.{ℕ, ◌+◌, ◌-◌, ◌*◌, ◌/◌, ◌≤◌, ◌<◌, ◌≡◌, Bool, cond, ◌&&◌, List, [], ◌∷◌, ◌++◌, leb, eqb, length, get_or, take, drop, set, Option, Some, None}
use Rattle.std.specs.Borrow.{Bor}
use Rattle.std.specs.Option.{option_map, is_some}
use Rattle.algebra.specs.Lists.{every}
use Rattle.command_words.specs.Numbers.{provided}

-- the value of a letter from a on, or o for another byte
abbrev pub letter_value : ℕ → ℕ → Option ℕ → Option ℕ
letter_value b a o = cond (leb a b && leb (b - a) 5) (Some (b - a + 10)) o

abbrev pub hex_value : ℕ → Option ℕ
hex_value b = cond (leb 48 b) (cond (leb b 57) (Some (b - 48)) (letter_value b 97 (letter_value b 65 None))) None

abbrev pub is_hex : ℕ → Bool
is_hex b = is_some (hex_value b)

abbrev pub FileCapacity : ℕ
FileCapacity = 10509

-- `-` is the file with no bytes
abbrev pub is_no_bytes : List ℕ → Bool
is_no_bytes w = eqb (length w) 1 && eqb (get_or w 0 0) 45

abbrev pub up_to_capacity : ℕ → ℕ
up_to_capacity n = cond (leb n FileCapacity) n FileCapacity

abbrev pub in_pairs : List ℕ → Option ℕ
in_pairs w = provided ((leb 2 (length w) && eqb (length w / 2 * 2) (length w)) && every is_hex w) (up_to_capacity (length w / 2))

abbrev pub bytes_in : List ℕ → Option ℕ
bytes_in w = cond (is_no_bytes w) (Some 0) (in_pairs w)

abbrev pub file_length : Option (Bor (List ℕ)) → Option ℕ
file_length r = option_map (λ file. length file.now) r

abbrev pub FileDigits : ℕ
FileDigits = 21017

unfoldable pub past : List ℕ → ℕ → List ℕ
past s b = cond (is_hex b) (cond (leb (length s) FileDigits) (s ++ (b ∷ [])) (take FileDigits s)) (set s 0 b)

unfoldable pub grown : List ℕ → ℕ → List ℕ
grown s b = cond (leb FileDigits (length s)) (past s b) (s ++ (b ∷ []))

unfoldable pub stored_from : List ℕ → List ℕ → List ℕ
stored_from s [] = s
stored_from s (b ∷ w) = stored_from (grown s b) w

abbrev pub stored_of : List ℕ → List ℕ
stored_of w = stored_from [] w

abbrev pub line_with : Option ℕ → List ℕ → ℕ → List ℕ
line_with None s b = s ++ (b ∷ [])
line_with (Some p) s b = take p s ++ grown (drop p s) b

abbrev pub NoFile : Option ℕ
NoFile = None

abbrev pub file_place : ℕ → Option ℕ → Option ℕ
file_place b p = cond (eqb b 32) NoFile p

pub record BytePushed (n b : ℕ) (line after : List ℕ) (r : Option ℕ) : Type 0 where
  pub fits : n < length line → (r ≡ Some (n + 1)) × (after ≡ set line n b)
  pub full : length line ≤ n → (r ≡ None) × (after ≡ line)

pub record ByteAppended (p : Option ℕ) (n b : ℕ) (line after : List ℕ) (r : Option ℕ) : Type 0 where
  pub fits : n ≤ length line → length (line_with p (take n line) b) ≤ length line → take (length (line_with p (take n line) b)) after ≡ line_with p (take n line) b
  pub exact : n ≤ length line → length (line_with p (take n line) b) ≤ length line → r ≡ Some (length (line_with p (take n line) b))
  pub full : length line < length (line_with p (take n line) b) → r ≡ None
  pub over : length line < n → r ≡ None

abbrev pub ByteStored : Option ℕ → Option ℕ → ℕ → List ℕ → List ℕ → Option ℕ → Type 0
ByteStored p (Some n) b line after r = ByteAppended p n b line after r
ByteStored p None b line after r = r ≡ None
