-- Demand 1, of the rules. Document 01, 'What is sent back': number 10 comes after all other checks, and a refusal changes no lent element. Proved in
-- proofs/Refusals, for each call that is lent a list to write into. The calls for C that answer a length have the rules of the others.
--   Keeps a b       where a refuses, b refuses with the same number: a is what a call checks before the length of any lent list, b what it answers
--   Stays a after before   where the call refuses, which answers a, the list stays
--   SpaceLast       what is refused for another reason keeps its number, whatever list is lent. Of an add and a removal, 10 says that the list is no index, and
--                   comes before what is asked of one
--   LentListsStay   where a call refuses, every lent list is as it was; so is that of the entry for C where there is none
use Rattle.std.specs.Prelude.{ℕ, ◌≡◌, List, ℤ}
use Rattle.answer.specs.Answer.{Answer, refused, gives, check, then, Owner}
use Rattle.mesh.specs.Identifiers.{corners}
use Rattle.mesh.specs.Names.{name_of}
use Rattle.mesh.specs.Answers.{name_answer, name_after}
use Rattle.region.specs.Reader.{File, read}
use Rattle.region.specs.declared.Style.{Style}
use Rattle.region.specs.Writer.{write_in}
use Rattle.region.specs.Converting.{convert}
use Rattle.region.specs.Answers.{read_answer, read_after, file_answer, file_after}
use Rattle.index.specs.declared.Key.{Key}
use Rattle.index.specs.Exposures.{is_owner, Exposure}
use Rattle.index.specs.Entries.{nothing}
use Rattle.index.specs.Answers.{addable, removable, begin_answer, begin_after, add_answer, add_after, remove_answer, remove_after}
use Rattle.frames.specs.Answers.{frames_answer, ranges_after, numbers_after}
use Rattle.trial.specs.declared.Setting.{Setting}
use Rattle.trial.specs.Answers.{check_setting, trial_answer, first_after, second_after}
use Rattle.htm.specs.Answers.{cover_answer, cover_after}
use Rattle.htm.specs.CalledFromC.{entry_for_c, entry_after_c, corners_for_c, corners_after_c, read_for_c, rows_after_c, header_after_c, contents_for_c, contents_after_c}
use Rattle.htm.specs.CalledFromC.{cover_for_c, cover_after_c, counts_after_c, frames_for_c, ranges_after_c, numbers_after_c, frames_after_c}
use Rattle.htm.specs.TrialFromC.{trial_for_c, first_after_c, second_after_c, trial_after_c, chosen_for_c, chosen_after_c}

abbrev pub Keeps : {A B : Type 0} → Answer A → Answer B → Type 0
Keeps a b = (n : ℕ) → a ≡ refused n → b ≡ refused n

abbrev pub Stays : {A X : Type 0} → Answer A → List X → List X → Type 0
Stays a after before = (n : ℕ) → a ≡ refused n → after ≡ before

-- ---- number 10 last

-- what is checked before the length of any lent list: an owner and a file, then two settings; an owner and a vector
abbrev pub own_file : ℕ → List ℕ → Answer File
own_file o f = check Owner (is_owner o) (read f)

abbrev pub tried_file : ℕ → List ℕ → Setting → Setting → Answer File
tried_file o f s t = check Owner (is_owner o) (then (read f) (λ x. check_setting s (check_setting t (gives x))))

pub record SpaceLast : Type 0 where
  pub name : (i : ℕ) (before : List ℕ) → Keeps (name_of i) (name_answer i before)
  pub reader : (f : List ℕ) (before : List ℤ) → Keeps (read f) (read_answer f before)
  pub writer : (s : Style) (d b : ℕ) (rs : List ℤ) (before : List ℕ) → Keeps (write_in s d b rs) (file_answer (write_in s d b rs) before)
  pub converter : (s : Style) (f before : List ℕ) → Keeps (read f) (file_answer (convert s f) before)
  pub cover : (f before : List ℕ) → Keeps (read f) (cover_answer f before)
  pub add : (x : Exposure) (l : List ℤ) → Keeps (addable x) (add_answer x l)
  pub remove : (k : Key) (l : List ℤ) → Keeps (removable k) (remove_answer k l)
  pub frames : (o : ℕ) (l : List ℤ) (f ranges numbers : List ℕ) → Keeps (own_file o f) (frames_answer o l f ranges numbers)
  pub trial : (o : ℕ) (l : List ℤ) (f : List ℕ) (s t : Setting) (first second : List ℕ) → Keeps (tried_file o f s t) (trial_answer o l f s t first second)
  pub corners_C : (i : ℕ) (out : List ℤ) → Keeps (corners i) (corners_for_c i out)
  pub reader_C : (f : List ℕ) (rows : List ℤ) (header : List ℕ) → Keeps (read f) (read_for_c f rows header)
  pub contents_C : (f header : List ℕ) → Keeps (read f) (contents_for_c f header)
  pub cover_C : (f out counts : List ℕ) → Keeps (read f) (cover_for_c f out counts)
  pub frames_C : (o : ℕ) (l : List ℤ) (f ranges numbers counts : List ℕ) → Keeps (own_file o f) (frames_for_c o l f ranges numbers counts)
  pub trial_C : (o : ℕ) (l : List ℤ) (f : List ℕ) (s t : Setting) (first second numbers : List ℕ)
      → Keeps (tried_file o f s t) (trial_for_c o l f s t first second numbers)

-- ---- a refusal changes nothing

pub record LentListsStay : Type 0 where
  pub name : (i : ℕ) (before : List ℕ) → Stays (name_answer i before) (name_after i before) before
  pub reader : (f : List ℕ) (before : List ℤ) → Stays (read_answer f before) (read_after f before) before
  pub file : (a : Answer (List ℕ)) (before : List ℕ) → Stays (file_answer a before) (file_after a before) before
  pub cover : (f before : List ℕ) → Stays (cover_answer f before) (cover_after f before) before
  pub begin : (l : List ℤ) → Stays (begin_answer l) (begin_after l) l
  pub add : (x : Exposure) (l : List ℤ) → Stays (add_answer x l) (add_after x l) l
  pub remove : (k : Key) (l : List ℤ) → Stays (remove_answer k l) (remove_after k l) l
  pub frames : (o : ℕ) (l : List ℤ) (f ranges numbers : List ℕ)
      → Stays (frames_answer o l f ranges numbers) (ranges_after o l f ranges numbers) ranges
      × Stays (frames_answer o l f ranges numbers) (numbers_after o l f ranges numbers) numbers
  pub trial : (o : ℕ) (l : List ℤ) (f : List ℕ) (s t : Setting) (first second : List ℕ)
      → Stays (trial_answer o l f s t first second) (first_after o l f s t first second) first
      × Stays (trial_answer o l f s t first second) (second_after o l f s t first second) second
  pub corners_C : (i : ℕ) (out : List ℤ) → Stays (corners_for_c i out) (corners_after_c i out) out
  pub reader_C : (f : List ℕ) (rows : List ℤ) (header : List ℕ)
      → Stays (read_for_c f rows header) (rows_after_c f rows header) rows × Stays (read_for_c f rows header) (header_after_c f rows header) header
  pub contents_C : (f header : List ℕ) → Stays (contents_for_c f header) (contents_after_c f header) header
  pub cover_C : (f out counts : List ℕ)
      → Stays (cover_for_c f out counts) (cover_after_c f out counts) out × Stays (cover_for_c f out counts) (counts_after_c f out counts) counts
  pub entry_C : (i : ℕ) (l out : List ℤ) → Stays (entry_for_c i l out) (entry_after_c i l out) out
  pub no_entry_C : (i : ℕ) (l out : List ℤ) → entry_for_c i l out ≡ gives nothing → entry_after_c i l out ≡ out
  pub frames_C : (o : ℕ) (l : List ℤ) (f ranges numbers counts : List ℕ)
      → Stays (frames_for_c o l f ranges numbers counts) (ranges_after_c o l f ranges numbers counts) ranges
      × Stays (frames_for_c o l f ranges numbers counts) (numbers_after_c o l f ranges numbers counts) numbers
      × Stays (frames_for_c o l f ranges numbers counts) (frames_after_c o l f ranges numbers counts) counts
  pub trial_C : (o : ℕ) (l : List ℤ) (f : List ℕ) (s t : Setting) (first second numbers : List ℕ)
      → Stays (trial_for_c o l f s t first second numbers) (first_after_c o l f s t first second numbers) first
      × Stays (trial_for_c o l f s t first second numbers) (second_after_c o l f s t first second numbers) second
      × Stays (trial_for_c o l f s t first second numbers) (trial_after_c o l f s t first second numbers) numbers
  pub chosen_C : (z : ℤ) (ns first second part : List ℕ) → Stays (chosen_for_c z ns first second part) (chosen_after_c z ns first second part) part
