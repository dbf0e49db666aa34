-- What the decoder ensures is that the file is decoded: it is accepted, and its rows stand in the array. Its depth is 1 to 12, and the cover of its rows is the
-- cover of the file. Assumes nothing.
use Prim.Native.Nat.{ℕ, ◌+◌, ◌≤◌}
use native.Mathlib.Omega.{arith}
use mathlib.Core.Path.{◌≡◌, sym, ap, subst, ◌∙◌}
use mathlib.Core.List.{List}
use lib.ListN.{length, drop}
use lib.IntN.{ℤ}
use Rattle.answer.specs.Answer.{gives, with_value}
use Rattle.answer.specs.Lent.{put}
use Rattle.answer.proofs.AnswerLaws.{value_gives}
use Rattle.vector.proofs.DepthLaws.{depth_range}
use Rattle.region.specs.declared.Header.{Header}
use Rattle.region.specs.Budgets.{budget_of}
use Rattle.region.specs.Building.{total}
use Rattle.region.specs.Rows.{rows}
use Rattle.region.specs.Reader.{File, read}
use Rattle.region.specs.Answers.{header_of}
use Rattle.region.proofs.ReaderLaws.{read_depth}
use Rattle.region.proofs.GoodRegions.{accepted_good}
use Rattle.region.proofs.FilledLaws.{accepted_filled, accepted_few}
use Rattle.region_reader.proofs.ReadAnswers.{accepted_total}
use Rattle.covering.specs.declared.Counts.{Counts}
use Rattle.covering.specs.Cover.{cutting, listed, cover, cover_of, counts_of, both_listed}
use Rattle.covering_walk.specs.Walk.{SomeRows, CoversRows}
use Rattle.covering_calls.specs.Decoded.{Decoded}

-- `rs` is the array, which was `zeros` before
pub decoded : (f : List ℕ) (h : Header) (zeros rs : List ℤ) → gives h ≡ with_value header_of (read f) → ((x : File) → read f ≡ gives x → rs ≡ put 0 (rows x.region) zeros)
    → Decoded f h rs
decoded f h zeros rs e w =
    let v = value_gives header_of (read f) h (sym e) in
    let x = v.0 in
    let a = v.1 in
    let count : h.count ≡ total x.region = sym (ap (λ z. z.count) v.2) in
    record {
      file = x;
      accepted = a;
      header = v.2;
      rows = record {
        count = count;
        most = omega (arith, count, accepted_total f x a);
        some = (accepted_filled f x a).0;
        few = accepted_few f x a;
        good = accepted_good f x a;
        filled = (accepted_filled f x a).1;
        more = drop (0 + length (rows x.region)) zeros;
        list = w x a;
      };
    }

module _ {f : List ℕ} {h : Header} {rs : List ℤ} (k : Decoded f h rs) where
  pub some_rows : SomeRows h.count rs
  some_rows = (k.file.region, k.rows)

  pub depth_fits : (1 ≤ h.depth) × (h.depth ≤ 12)
  depth_fits =
      let same : k.file.depth ≡ h.depth = ap (λ z. z.depth) k.header in
      subst (λ n. (1 ≤ n) × (n ≤ 12)) same (depth_range k.file.depth (read_depth f k.file k.accepted))

  pub budget_same : budget_of k.file.budget ≡ budget_of h.budget
  budget_same = ap (λ z. budget_of z.budget) k.header

  -- the cover of its rows
  pub cover_same : listed (budget_of h.budget) (cutting h.depth k.file.region) ≡ cover k.file
  unfolding cover_of
  cover_same = sym (λ i. listed (budget_of (k.header i).budget) (cutting (k.header i).depth k.file.region))

  pub rows_cover : (before : List ℕ) {after : List ℕ} {c : Counts} → CoversRows h.count rs (budget_of h.budget) h.depth before c after
      → (c ≡ counts_of (cover k.file)) × (after ≡ both_listed (budget_of k.file.budget) (cover k.file) before)
  rows_cover before {after} {c} u =
      let r = u k.file.region k.rows in
      (r.0 ∙ ap counts_of cover_same, r.1 ∙ (λ i. both_listed (sym budget_same i) (cover_same i) before))
