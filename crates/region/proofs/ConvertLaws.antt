-- Conversions keep what a file says, and converting back gives the same bytes: what an accepted file says is within all limits, so it may be written in either
-- style, what is written is accepted, and an accepted file is the only one of its style that says the same. Assumes nothing.
use Prim.Native.Nat.{ℕ}
use mathlib.Core.Path.{◌≡◌, refl, sym, ap, subst, ◌∙◌}
use mathlib.Core.Bool.{false, cond, true}
use mathlib.Core.List.{List}
use lib.ListN.{length}
use Rattle.algebra.proofs.Tests.{split}
use Rattle.answer.specs.Lent.{stored, room}
use Rattle.answer.specs.Answer.{Answer, gives, check, then, with_value, Vector, refused}
use Rattle.answer.proofs.AnswerLaws.{value_gives}
use Rattle.vector.specs.Vectors.{is_vector}
use Rattle.region.specs.Regions.{holds}
use Rattle.region.specs.Rows.{rows}
use Rattle.region.specs.declared.Style.{Style}
use Rattle.region.specs.Records.{same_style}
use Rattle.region.specs.Reader.{File, style_of, read, Accepted, AcceptedIn}
use Rattle.region.specs.Writer.{file_in, write_in}
use Rattle.region.specs.Answers.{header_of, rows_into, read_answer, read_after, point_test}
use Rattle.region.specs.Converting.{in_style, convert, AsItIs}
use Rattle.region.proofs.ReaderLaws.{read_depth, read_budget}
use Rattle.region.proofs.StyleLaws.{same_style_law, style_itself}
use Rattle.region.proofs.ReadBack.{read_back}
use Rattle.region.proofs.RowsBack.{accepted_rows, accepted_within_limits}
use Rattle.region.proofs.FileBack.{read_file}
use Rattle.region.specs.Bytes.{are_bytes}
use Rattle.vector.specs.declared.Vec3.{Vec3}
use lib.IntN.{ℤ}

abbrev anew : Style → File → List ℕ
anew s x = file_in s x.depth x.budget x.region

-- what an accepted file says, written in either style, is accepted and says the same
pub said_anew : (s : Style) (f : List ℕ) (x : File) → Accepted f x → AcceptedIn s (anew s x) x
said_anew s f x a = read_back s x.depth x.budget x.region (read_depth f x a) (read_budget f x a) (accepted_within_limits f x a)

-- ---- what is given

given : (s : Style) (f : List ℕ) (x : File) → Accepted f x → convert s f ≡ gives (in_style s f x)
unfolding convert
given s f x a = ap (with_value (in_style s f)) a

in_it : (s : Style) (f : List ℕ) (x : File) → style_of f ≡ s → in_style s f x ≡ f
in_it s f x e = ap (λ t. cond t f (anew s x)) (ap (same_style s) e ∙ style_itself s)

pub as_it_is : AsItIs
as_it_is s f x a = given s f x a.1 ∙ ap gives (in_it s f x a.0)

-- a file of the other style is written from its rows
pub written_anew : (s : Style) (f : List ℕ) (x : File) → Accepted f x → same_style s (style_of f) ≡ false
    → convert s f ≡ write_in s x.depth x.budget (rows x.region)
unfolding write_in
written_anew s f x a t =
    given s f x a ∙ ap (λ t. gives (cond t f (anew s x))) t
    ∙ sym (rw (read_depth f x a, read_budget f x a, accepted_rows f x a) refl)

pub refusal_stays : (s : Style) (f : List ℕ) (n : ℕ) → read f ≡ refused n → convert s f ≡ refused n
unfolding convert
refusal_stays s f n e = ap (with_value (in_style s f)) e

-- ---- it says the same

either_way : (s : Style) (f : List ℕ) (x : File) → Accepted f x → AcceptedIn s (in_style s f x) x
either_way s f x a = split (same_style s (style_of f))
    (λ t. let e = sym (same_style_law s (style_of f) t) in subst (λ h. AcceptedIn s h x) (sym (in_it s f x e)) (e, a))
    (λ t. subst (λ h. AcceptedIn s h x) (ap (λ t. cond t f (anew s x)) (sym t)) (said_anew s f x a))

pub converted : (s : Style) (f h : List ℕ) → convert s f ≡ gives h → (style_of h ≡ s) × (read h ≡ read f)
unfolding convert
converted s f h e =
    let w = value_gives (in_style s f) (read f) h e in
    let a = subst (λ h. AcceptedIn s h w.0) w.2 (either_way s f w.0 w.1) in
    (a.0, a.1 ∙ sym w.1)

pub same_points : (s : Style) (f h : List ℕ) (p : Vec3) → convert s f ≡ gives h → point_test h p ≡ point_test f p
unfolding point_test
same_points s f h p e = ap (λ a. then a (λ x. check Vector (is_vector p) (gives (holds x.region p)))) (converted s f h e).1

pub same_rows :
    (s : Style) (f h : List ℕ) (before : List ℤ) → convert s f ≡ gives h
    → (read_answer h before ≡ read_answer f before) × (read_after h before ≡ read_after f before)
unfolding read_answer read_after
same_rows s f h before e =
    let into : Answer File → Answer File = λ a. then a (λ x. room (length (rows x.region)) before x) in
    let same = (converted s f h e).1 in
    (ap (λ a. with_value header_of (into a)) same, ap (λ a. stored rows_into (into a) before) same)

-- ---- and back

pub converted_back : (s t : Style) (f : List ℕ) (x : File) → are_bytes f ≡ true → AcceptedIn s f x → then (convert t f) (convert s) ≡ gives f
converted_back s t f x b a =
    let h = in_style t f x in
    let c = either_way t f x a.1 in
    ap (λ r. then r (convert s)) (given t f x a.1)
    ∙ given s h x c.1
    ∙ ap gives (split (same_style s (style_of h))
    (λ e.
    let q : s ≡ t = same_style_law s (style_of h) e ∙ c.0 in
    in_it s h x (sym (same_style_law s (style_of h) e)) ∙ in_it t f x (a.0 ∙ q))
    (λ e. ap (λ t. cond t h (anew s x)) e ∙ read_file s f x b a))
