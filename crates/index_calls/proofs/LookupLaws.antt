-- An add and its lookup at depth 12: what that refuses is refused as no vector, and else its identifier is the entry's. So what an add does with the
-- lookup's answer is what the add's rule says. Assumes nothing.
use Rattle.std.specs.Prelude.{Result, Err}
use Rattle.answer.specs.declared.Refusal.{Refusal}
use mathlib.Core.Path.{◌≡◌, refl, ap}
use mathlib.Core.Bool.{Bool, true, false}
use mathlib.Core.List.{List}
use lib.IntN.{ℤ}
use Rattle.answer.specs.Answer.{Answer, refused, gives, check, Vector}
use Rattle.answer.proofs.AnswerLaws.{refused_gives}
use Rattle.vector.specs.Vectors.{is_vector}
use Rattle.mesh.specs.Lookup.{identifier, lookup}
use Rattle.index.specs.declared.Entry.{Entry}
use Rattle.index.specs.Exposures.{is_owner, Exposure, key_of}
use Rattle.index.specs.Entries.{entry_of, entries_in, inserting}
use Rattle.index.specs.Answers.{in_list, adding}
use Rattle.answer.specs.Calls.{number}
use Rattle.index_calls.specs.Done.{Done}
use Rattle.index_calls.proofs.CallLaws.{of_owner}

no_vector_law : (x : Exposure) (l : List ℤ) (r : Refusal) (a : Answer (List Entry)) (t : Bool) → refused (number r) ≡ check Vector t (gives (identifier x.pointing 12)) → Done (check Vector t a) l l (Err r)
no_vector_law x l r a true e = refused_gives (number r) (identifier x.pointing 12) e
no_vector_law x l r a false e = let f : number r ≡ Vector = cc in record { answer = ap refused f; list = refl }

pub not_added : (x : Exposure) (l : List ℤ) (r : Refusal) → is_owner x.owner ≡ true → refused (number r) ≡ lookup x.pointing 12 → Done (adding x l) l l (Err r)
unfolding lookup
not_added x l r o e = of_owner o (no_vector_law x l r _ (is_vector x.pointing) e)

pub added : (x : Exposure) (e : Entry) (l m : List ℤ) (r : Result (Unit {0}) Refusal) → is_owner x.owner ≡ true → is_vector x.pointing ≡ true → e ≡ entry_of x
    → Done (in_list l (inserting (key_of x) e (entries_in l))) l m r → Done (adding x l) l m r
added x e l m r o v f d = rw (o, v) (rw f at d)
