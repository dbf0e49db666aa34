-- The twelve starred facts of document 01, 'Starred facts and an example run', in one statement. Proved from the rules: proofs/Starred.
--   name l a b    the name of a letter and two digits
--   found x y z   the name of what the lookup at depth 2 answers
use Rattle.std.specs.Prelude.{ℕ, ◌+◌, ◌≡◌, List, [], ◌∷◌, ℤ, pos, neg_ℤ}
use Rattle.answer.specs.Answer.{Answer, gives, then}
use Rattle.vector.specs.Numbers.{K}
use Rattle.vector.specs.Vectors.{vec, unit}
use Rattle.mesh.specs.Lookup.{lookup}
use Rattle.mesh.specs.Names.{letter_s, letter_n, digit0, name_of, identifier_of}
use Rattle.classify.specs.Shape.{DOf, GOf}

abbrev pub name : ℕ → ℕ → ℕ → List ℕ
name l a b = l ∷ (digit0 + a) ∷ (digit0 + b) ∷ []

abbrev pub found : ℤ → ℤ → ℤ → Answer (List ℕ)
found x y z = then (lookup (vec x y z) 2) name_of

abbrev pub Starred : Type 0
Starred =
    (found (pos 0) (pos 0) K ≡ gives (name letter_n 3 1))
    × (found K (pos 0) (pos 0) ≡ gives (name letter_n 3 2))
    × (found (pos 0) K (pos 0) ≡ gives (name letter_n 3 0))
    × (found (neg_ℤ K) (pos 0) (pos 0) ≡ gives (name letter_n 2 0))
    × (found (pos 0) (neg_ℤ K) (pos 0) ≡ gives (name letter_n 0 2))
    × (found (pos 0) (pos 0) (neg_ℤ K) ≡ gives (name letter_s 0 1))
    × (found (pos 605396) (pos 605396) (pos 605396) ≡ gives (name letter_n 3 3))
    × (found (pos 0) (pos 741455) (pos 741455) ≡ gives (name letter_n 3 0))
    × (identifier_of (name letter_n 0 1) ≡ gives 0x31)
    × (unit (vec K (pos 0) K) ≡ vec (pos 741455) (pos 0) (pos 741455))
    × (DOf K ≡ pos 1048574)
    × (GOf K ≡ pos 1048579)
