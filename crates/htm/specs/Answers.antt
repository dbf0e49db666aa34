-- What the cover, the lookups of a report and of a catalogue line and the C entry answer, and the cover's lent list afterwards. Document 01, 'The two lists' and
-- 'What is sent back'; document 02, F-1 and F-3. The other calls: mesh/specs, region/specs/Answers.
--   located p d            the lookup of a pointing in another form: 5, then what p is refused with, then the ordinary lookup, which refuses 8
--   lookup_report r d       the lookup of a mount's report: 5, 12, 8
--   locate_line l d         the lookup of a catalogue line: 5, 13, 8
--   lookup_for_c x y z d     the lookup from C: the identifier, or 0 for a refusal
--   cover_into f before     the file that is covered, or its refusal, with 10 after all other checks
--   cover_answer f before   the counts: both lists', seen, full, partial and swallowed
--   cover_after f before    the list afterwards: the outer list at element 0, the inner list at element 2 × budget
--   outer_in, inner_in       the two lists, read back from the lent list
use Rattle.std.specs.Prelude.{ℕ, ◌*◌, List, drop, ℤ}
use Rattle.answer.specs.Answer.{Answer, check, then, with_value, Depth}
use Rattle.answer.specs.Lent.{stored, room}
use Rattle.vector.specs.declared.Vec3.{Vec3}
use Rattle.vector.specs.Numbers.{is_depth}
use Rattle.vector.specs.Vectors.{vec}
use Rattle.mount.specs.declared.Report.{Report}
use Rattle.mount.specs.Reports.{pointing}
use Rattle.catalogue_line.specs.Lines.{pointing_in}
use Rattle.mesh.specs.Lookup.{lookup}
use Rattle.region.specs.Budgets.{budget_of}
use Rattle.region.specs.Reader.{File, read}
use Rattle.ranges.specs.declared.Range.{Range}
use Rattle.ranges.specs.Ranges.{ranges_in}
use Rattle.covering.specs.declared.Counts.{Counts}
use Rattle.covering.specs.Cover.{cover, counts_of, both_listed}
use Rattle.htm_abi.specs.Values.{or_zero}

-- ---- the lookup of a pointing that comes in another form: it is a point like any other

unfoldable pub located : Answer Vec3 → ℕ → Answer ℕ
located p d = check Depth (is_depth d) (then p (λ v. lookup v d))

abbrev pub lookup_report : Report → ℕ → Answer ℕ
lookup_report r d = located (pointing r) d

abbrev pub locate_line : List ℕ → ℕ → Answer ℕ
locate_line l d = located (pointing_in l) d

-- ---- lookup from C: the identifier, or 0 for a refusal

unfoldable pub lookup_for_c : ℤ → ℤ → ℤ → ℕ → ℕ
lookup_for_c x y z d = or_zero (lookup (vec x y z) d)

-- ---- the cover: the counts; the outer list at element 0 and the inner list at element 2 × budget

abbrev pub cover_into : List ℕ → List ℕ → Answer File
cover_into f before = then (read f) (λ x. room (4 * budget_of x.budget) before x)

unfoldable pub cover_answer : List ℕ → List ℕ → Answer Counts
cover_answer f before = with_value (λ x. counts_of (cover x)) (cover_into f before)

abbrev pub both_lists : File → List ℕ → List ℕ
both_lists x before = both_listed (budget_of x.budget) (cover x) before

unfoldable pub cover_after : List ℕ → List ℕ → List ℕ
cover_after f before = stored both_lists (cover_into f before) before

-- ---- the two lists, read back from the lent list

abbrev pub outer_in : Counts → List ℕ → List Range
outer_in c after = ranges_in c.outer after

-- b is the budget that is counted with
abbrev pub inner_in : ℕ → Counts → List ℕ → List Range
inner_in b c after = ranges_in c.inner (drop (2 * b) after)
