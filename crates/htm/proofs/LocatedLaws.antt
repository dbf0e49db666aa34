-- The lookup of a pointing that comes in another form, by its checks: depth, then the pointing's own, then the ordinary lookup. What it gives is what the
-- lookup gives at that pointing, which is a vector: so `calls_kept` (AnswersKept) covers it. Assumes nothing.
use Prim.Native.Nat.{ℕ, ◌^◌, ◌<◌}
use native.Mathlib.Omega.{arith}
use mathlib.Core.Path.{◌≡◌, sym}
use mathlib.Core.Bool.{true, false}
use mathlib.Core.List.{List}
use Rattle.answer.specs.Answer.{Answer, refused, gives, then, Depth}
use Rattle.answer.proofs.AnswerLaws.{check_gives, then_gives}
use Rattle.vector.specs.declared.Vec3.{Vec3}
use Rattle.vector.specs.Numbers.{is_depth}
use Rattle.vector.specs.Vectors.{is_vector}
use Rattle.mount.specs.declared.Report.{Report}
use Rattle.mount.specs.Reports.{pointing}
use Rattle.catalogue_line.specs.Lines.{pointing_in}
use Rattle.mesh.specs.Lookup.{lookup}
use Rattle.mesh.proofs.LookupLaws.{lookup_is, identifier_small}
use Rattle.htm.specs.Answers.{located, lookup_report, locate_line}

-- ---- what the lookup gives is small

pub lookup_small : (v : Vec3) (d i : ℕ) → lookup v d ≡ gives i → i < 2 ^ 26
lookup_small v d i e = let h = lookup_is v d i e in omega (arith, identifier_small v d h.1, h.2)

-- ---- the checks in their order

-- i is what the lookup gives at the pointing that p gives, a vector
abbrev pub GivenAt : Answer Vec3 → ℕ → ℕ → Type 0
GivenAt p d i = (v : Vec3) × (p ≡ gives v) × (is_vector v ≡ true) × (lookup v d ≡ gives i)

module _ (p : Answer Vec3) (d : ℕ) where
  pub no_depth : is_depth d ≡ false → refused Depth ≡ located p d
  unfolding located
  no_depth e = simp e

  module _ (depth : is_depth d ≡ true) where
    pub no_pointing : {n : ℕ} → refused n ≡ p → refused n ≡ located p d
    unfolding located
    no_pointing e = rw (depth, sym e)

    pub looked_up : {v : Vec3} {a : Answer ℕ} → gives v ≡ p → a ≡ lookup v d → a ≡ located p d
    unfolding located
    looked_up e h = rw (depth, sym e) h

  pub located_at : (i : ℕ) → located p d ≡ gives i → GivenAt p d i
  unfolding located
  located_at i e =
      let t = then_gives p (λ v. lookup v d) i (check_gives Depth (is_depth d) (then p (λ v. lookup v d)) i e) in
      (t.0, t.1, (lookup_is t.0 d i t.2).0, t.2)

  pub located_small : (i : ℕ) → located p d ≡ gives i → i < 2 ^ 26
  located_small i e = let t = located_at i e in lookup_small t.0 d i t.3

-- ---- a mount's report, a catalogue line

pub report_located : (r : Report) (d i : ℕ) → lookup_report r d ≡ gives i → GivenAt (pointing r) d i
report_located r d = located_at (pointing r) d

pub line_located : (l : List ℕ) (d i : ℕ) → locate_line l d ≡ gives i → GivenAt (pointing_in l) d i
line_located l d = located_at (pointing_in l) d
