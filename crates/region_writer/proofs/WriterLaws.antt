-- The writer's answer by its checks in their order, and its file by the parts that are put one after the other. Assumes nothing.
use Prim.Native.Nat.{ℕ, ◌+◌, ◌*◌, ◌≤◌, ◌<◌}
use native.Mathlib.Omega.{arith}
use mathlib.Core.Path.{◌≡◌, refl, sym, ap, ◌∙◌}
use mathlib.Core.Bool.{Bool, true, false}
use mathlib.Core.List.{List, ◌++◌}
use lib.ListN.{length, length-append}
use lib.IntN.{ℤ}
use borrow.Author.Tests.{leb-true}
use Rattle.answer.specs.Answer.{Answer, refused, gives, check, then, with_value, Depth, Budget, Space}
use Rattle.answer.specs.Lent.{put}
use Rattle.answer.proofs.AnswerLaws.{check_passed, check_gives, same_value, value_gives, value_refused}
use Rattle.answer.proofs.PutLaws.{put_put}
use Rattle.vector.specs.Numbers.{is_depth}
use Rattle.vector.proofs.DepthLaws.{depth_range}
use Rattle.region.specs.declared.Style.{Style}
use Rattle.region.specs.Regions.{Region}
use Rattle.region.specs.Budgets.{is_budget}
use Rattle.region.specs.Building.{total}
use Rattle.region.specs.Rows.{region_of}
use Rattle.region.specs.Writer.{header_bytes, end_bytes, region_bytes, file_in, write_in}
use Rattle.region.proofs.FileAnswers.{Answered, no_file, no_space, file_written}
use Rattle.region.proofs.WriteBack.{region_back}
use Rattle.region_records.specs.declared.Settings.{Settings}
use Rattle.region_records.specs.Headers.{settings_in}
use Rattle.region_rows.specs.declared.counts.RegionSize.{RegionSize}
use Rattle.region_rows.specs.RegionSizes.{region_size}
use Rattle.region_writer.specs.Writing.{width, FileFits}
use Rattle.region_writer.proofs.GrowthLaws.{region_length, whole_length}

-- ---- the answer

by_checks : {A : Type 0} (p q : Bool) (t : Settings) (a : Answer A) → check Depth p (check Budget q a) ≡ then (check Depth p (check Budget q (gives t))) (λ u. a)
by_checks false q t a = refl
by_checks true false t a = refl
by_checks true true t a = refl

-- what passed
pub record SettingsPassed (d b : ℕ) (t : Settings) : Type 0 where
  pub depth : d ≤ 12
  pub budget : b ≤ 2048
  pub same : t ≡ record { depth = d; budget = b }

pub settings_passed : (d b : ℕ) (t : Settings) → gives t ≡ settings_in d b → SettingsPassed d b t
settings_passed d b t e =
    let u : Settings = record { depth = d; budget = b } in
    let last = check Budget (is_budget b) (gives u) in
    let f = check_gives Depth (is_depth d) last t (sym e) in
    record {
      depth = (depth_range d (check_passed Depth (is_depth d) last t (sym e))).1;
      budget = leb-true b 2048 (check_passed Budget (is_budget b) (gives u) t f);
      same = sym (same_value u t (check_gives Budget (is_budget b) (gives u) t f));
    }

module _ (s : Style) (d b : ℕ) (rs : List ℤ) (before : List ℕ) where
  by_settings : write_in s d b rs ≡ then (settings_in d b) (λ t. with_value (file_in s d b) (region_of rs))
  unfolding write_in
  by_settings = by_checks (is_depth d) (is_budget b) (record { depth = d; budget = b }) (with_value (file_in s d b) (region_of rs))

  pub no_settings : (n : ℕ) → refused n ≡ settings_in d b → Answered (write_in s d b rs) before (refused n) before
  no_settings n e =
      no_file (write_in s d b rs) before n (by_settings ∙ ap (λ r. then r (λ (t : Settings). with_value (file_in s d b) (region_of rs))) (sym e))

  module _ (t : Settings) (q : gives t ≡ settings_in d b) where
    written : write_in s d b rs ≡ with_value (file_in s d b) (region_of rs)
    written = by_settings ∙ ap (λ r. then r (λ (t : Settings). with_value (file_in s d b) (region_of rs))) (sym q)

    pub no_rows : (n : ℕ) → refused n ≡ with_value region_size (region_of rs) → Answered (write_in s d b rs) before (refused n) before
    no_rows n e =
        no_file (write_in s d b rs) before n (written ∙ ap (with_value (file_in s d b)) (value_refused region_size (region_of rs) n (sym e)))

    module _ (g : Region) (e : region_of rs ≡ gives g) where
      file : write_in s d b rs ≡ gives (file_in s d b g)
      file = written ∙ ap (with_value (file_in s d b)) e

      pub no_room : length before < length (file_in s d b g) → Answered (write_in s d b rs) before (refused Space) before
      no_room l = no_space (write_in s d b rs) before (file_in s d b g) file l

      pub has_file : {m : ℕ} {xs : List ℕ} → m ≡ length (file_in s d b g) → m ≤ length before → xs ≡ put 0 (file_in s d b g) before
          → Answered (write_in s d b rs) before (gives m) xs
      has_file n l e = let w = file_written (write_in s d b rs) before (file_in s d b g) file (omega arith) in (ap gives n ∙ w.0, e ∙ w.1)

-- ---- rows that passed

-- the region g of the rows rs has the counts k and is within the limits
pub record RowsWithin (rs : List ℤ) (k : RegionSize) : Type 0 where
  pub region : Region
  pub is : region_of rs ≡ gives region
  pub convexes : k.convexes ≡ length region
  pub all : k.all ≡ total region
  pub few : k.convexes ≤ 64
  pub limit : k.all ≤ 512

pub passed : (rs : List ℤ) (k : RegionSize) → gives k ≡ with_value region_size (region_of rs) → RowsWithin rs k
passed rs k e =
    let w = value_gives region_size (region_of rs) k (sym e) in
    let m = (region_back rs w.0 w.1).0 in
    let c : k.convexes ≡ length w.0 = ap (λ k. k.convexes) (sym w.2) in
    let a : k.all ≡ total w.0 = ap (λ k. k.all) (sym w.2) in
    record { region = w.0; is = w.1; convexes = c; all = a; few = omega (arith, c, m.convexes); limit = omega (arith, a, m.halfspaces) }

module _ {rs : List ℤ} {k : RegionSize} (p : RowsWithin rs k) (s : Style) where
  pub counted_length : (d b : ℕ) → 12 + 4 * k.convexes + width s * k.all ≡ length (file_in s d b p.region)
  counted_length d b = (λ i. 12 + 4 * p.convexes i + width s * p.all i) ∙ sym (whole_length s d b p.region)

  pub has_room : (n : ℕ) → 12 + 4 * k.convexes + width s * k.all ≤ n → FileFits s rs n
  has_room n l =
      let e : 4 * k.convexes + width s * k.all ≡ length (region_bytes s p.region) =
      (λ i. 4 * p.convexes i + width s * p.all i) ∙ sym (region_length s p.region) in
      record { region = p.region; is = p.is; room = omega (arith, e) }

-- ---- the file by its parts

module _ (s : Style) (d b : ℕ) (g : Region) (before : List ℕ) where
  pub header_rows_end : (m : ℕ) (xs : List ℕ) → m ≡ 8 + length (region_bytes s g) → xs ≡ put 8 (region_bytes s g) (put 0 (header_bytes d b) before)
      → put m end_bytes xs ≡ put 0 (file_in s d b g) before
  unfolding file_in
  header_rows_end m xs n e =
      ap (put m end_bytes) e
      ∙ ap (put m end_bytes) (put_put 0 8 (header_bytes d b) (region_bytes s g) before refl (omega arith))
      ∙ put_put 0 m (header_bytes d b ++ region_bytes s g) end_bytes before (omega (arith, length-append (header_bytes d b) (region_bytes s g))) (omega arith)
