-- The header of an accepted file has the file's depth and budget: no later record changes them. Assumes nothing.
use Prim.Native.Nat.{ℕ}
use mathlib.Core.Path.{◌≡◌, refl, ap, ◌∙◌}
use mathlib.Core.List.{List}
use Rattle.answer.specs.Answer.{Answer, refused, gives, with_value}
use Rattle.region.specs.Building.{total}
use Rattle.region.specs.Reader.{File, header, Accepted}
use Rattle.region.specs.declared.Header.{Header}
use Rattle.region.specs.Answers.{header_of}
use Rattle.region.proofs.ReaderLaws.{header_says, header_kept}
use Rattle.region_records.specs.declared.Settings.{Settings}
use Rattle.region_records.specs.Headers.{settings_of}

pub header_accepted : (f : List ℕ) (x : File) → Accepted f x → with_value header_of (header f) ≡ gives (record { count = 0; depth = x.depth; budget = x.budget })
unfolding total
header_accepted f x e =
    header_kept (λ y. with_value header_of (header f) ≡ gives (record { count = 0; depth = y.depth; budget = y.budget })) (λ y c k. k) (λ y g h q k. k) f x e
    (λ z h. ap (with_value header_of) h ∙ (λ i. gives (record { count = total ((header_says f z h).region i); depth = z.depth; budget = z.budget })))

-- the two of a header
abbrev of_header : Header → Settings
of_header h = record { depth = h.depth; budget = h.budget }

by_header : (a : Answer File) → with_value settings_of a ≡ with_value of_header (with_value header_of a)
by_header (refused n) = refl
by_header (gives x) = refl

pub settings_accepted : (f : List ℕ) (x : File) → Accepted f x → with_value settings_of (header f) ≡ gives (settings_of x)
settings_accepted f x e = by_header (header f) ∙ ap (with_value of_header) (header_accepted f x e)
