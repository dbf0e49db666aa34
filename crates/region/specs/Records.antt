-- Records of a region file by kind and length, and the two styles of a file. Document 01, 'Regions' and 'What is sent back', 3; document 02, F-7.
--   layout r              the kind and the length in bytes of a record r: a header, a convex, a halfspace, the end, or a group of n halfspaces
--   kind r, size r        each of the two
--   record_of n len        the record of kind n and length len, or the refusal 3
--   same_style s t         s and t are the same style, plain (kinds 2 and 3) or grouped (kind 5)
--   Styles                the styles that the records of a file may have: either of them, or only one
--   fits k r              the record r may stand among records of the styles k; a header and the end belong to no style
--   styles_after k n       the styles after a record of kind n: only its own from the first record of kind 2 or 5 on
use Rattle.std.specs.Prelude.{ℕ, ◌+◌, ◌-◌, ◌*◌, ◌/◌, Bool, true, false, cond, ◌&&◌, List, [], ◌∷◌, leb, eqb}
use Rattle.answer.specs.Answer.{Answer, refused, gives, Kind}
use Rattle.region.specs.declared.Record.{Record}
use Rattle.region.specs.declared.Style.{Style}
use Rattle.region.specs.Building.{most_in_convex}

-- the table of kinds and lengths
pub record Layout : Type 0 where
  pub kind : ℕ
  pub size : ℕ

abbrev pub layout : Record → Layout
layout Record.Header = record { kind = 1; size = 8 }
layout Record.Convex = record { kind = 2; size = 4 }
layout Record.Halfspace = record { kind = 3; size = 20 }
layout Record.End = record { kind = 4; size = 4 }
layout (Record.Group n) = record { kind = 5; size = 4 + 16 * n }

abbrev pub kind : Record → ℕ
kind r = (layout r).kind

abbrev pub size : Record → ℕ
size r = (layout r).size

-- a group has 1 to 100 halfspaces
abbrev pub allowed : Record → Bool
allowed Record.Header = true
allowed Record.Convex = true
allowed Record.Halfspace = true
allowed Record.End = true
allowed (Record.Group n) = leb 1 n && leb n most_in_convex

abbrev pub is : ℕ → ℕ → Record → Bool
is n len r = eqb n (kind r) && (allowed r && eqb len (size r))

-- the first of some records that has this kind and length
abbrev pub first_of : ℕ → ℕ → List Record → Answer Record
first_of n len [] = refused Kind
first_of n len (r ∷ rs) = cond (is n len r) (gives r) (first_of n len rs)

-- the records that may have this length
abbrev pub known : ℕ → List Record
known len = Record.Header ∷ Record.Convex ∷ Record.Halfspace ∷ Record.End ∷ Record.Group ((len - 4) / 16) ∷ []

abbrev pub record_of : ℕ → ℕ → Answer Record
record_of n len = first_of n len (known len)

-- ---- styles

abbrev pub same_style : Style → Style → Bool
same_style Style.Plain Style.Plain = true
same_style Style.Plain Style.Grouped = false
same_style Style.Grouped Style.Plain = false
same_style Style.Grouped Style.Grouped = true

pub data Styles : Type 0 where
  either : Styles
  only : Style → Styles

abbrev pub fits : Styles → Record → Bool
fits Styles.either r = true
fits (Styles.only s) Record.Header = true
fits (Styles.only s) Record.Convex = same_style s Style.Plain
fits (Styles.only s) Record.Halfspace = same_style s Style.Plain
fits (Styles.only s) Record.End = true
fits (Styles.only s) (Record.Group n) = same_style s Style.Grouped

abbrev pub styles_after : Styles → ℕ → Styles
styles_after Styles.either n = cond (eqb n 2) (Styles.only Style.Plain) (cond (eqb n 5) (Styles.only Style.Grouped) Styles.either)
styles_after (Styles.only s) n = Styles.only s
