-- The bytes of a region that grows at its end, in either style: a new convex adds the record with which it begins; a new halfspace adds its record, or its
-- numbers, and then the length of the last group grows too. Assumes nothing.
use Prim.Native.Nat.{ℕ, ◌+◌, ◌-◌, ◌*◌, ◌≤◌, ◌<◌}
use native.Mathlib.Omega.{arith}
use mathlib.Core.Path.{◌≡◌, refl, sym, ap, ap₂, ◌∙◌}
use mathlib.Core.List.{List, [], ◌∷◌, ◌++◌, append_assoc, append-nil}
use lib.ListN.{length, length-append}
use Rattle.answer.specs.Lent.{put}
use Rattle.answer.proofs.PutLaws.{put_put, put_over}
use Rattle.region.specs.declared.Halfspace.{Halfspace}
use Rattle.region.specs.declared.Record.{Record}
use Rattle.region.specs.declared.Style.{Style}
use Rattle.region.specs.Regions.{Convex, Region}
use Rattle.region.specs.Building.{last_convex, total, with_convex, with_halfspace}
use Rattle.region.specs.Writer.{begin, numbers_bytes, halfspace_bytes, convexes_bytes, payload_bytes, group_bytes, groups_bytes, region_bytes, file_in}
use Rattle.region.proofs.RegionLaws.{convex_length, convex_last, halfspace_length, halfspace_last, halfspace_total}
use Rattle.region.proofs.ReadBack.{with_last, payload_length, convexes_length, groups_length, file_length, grouped_length}
use Rattle.region.proofs.FileBack.{convex_bytes_law, halfspace_bytes_law, group_bytes_law}
use Rattle.region_writer.specs.declared.WriteCursor.{WriteCursor}
use Rattle.region_writer.specs.Writing.{width, opening, with_convex_at, with_halfspace_at, RegionStands}

-- ---- lengths

pub region_length : (s : Style) (g : Region) → length (region_bytes s g) ≡ 4 * length g + width s * total g
region_length Style.Plain g = convexes_length g
region_length Style.Grouped g = groups_length g

pub whole_length : (s : Style) (d b : ℕ) (g : Region) → length (file_in s d b g) ≡ 12 + 4 * length g + width s * total g
whole_length Style.Plain d b g = file_length d b g
whole_length Style.Grouped d b g = grouped_length d b g

-- ---- a new convex

pub convex_more : (s : Style) (g : Region) → region_bytes s (with_convex g) ≡ region_bytes s g ++ begin (opening s)
unfolding payload_bytes
convex_more Style.Plain g = sym (append-nil (convexes_bytes (with_convex g))) ∙ convex_bytes_law g []
convex_more Style.Grouped g = sym (append-nil (groups_bytes (with_convex g))) ∙ group_bytes_law g [] []

-- ---- a new halfspace

payload_more : (c : Convex) (h : Halfspace) → payload_bytes (c ++ h ∷ []) ≡ payload_bytes c ++ numbers_bytes h
unfolding payload_bytes
payload_more [] h = refl
payload_more (a ∷ c) h = ap (λ l. numbers_bytes a ++ l) (payload_more c h)

-- a region before its last convex
front : (g : Region) → 0 < length g → (f : Region) × (g ≡ f ++ last_convex g ∷ [])
unfolding last_convex
front [] b = absurd (omega arith)
front (c ∷ []) b = ([], refl)
front (c ∷ d ∷ cs) b = let w = front (d ∷ cs) (omega arith) in (c ∷ w.0, ap (λ l. c ∷ l) w.1)

-- the bytes of the groups before the last one and of its halfspaces, and its head, before and after
module _ (g : Region) (h : Halfspace) (b : 0 < length g) where
  abbrev c : Convex
  c = last_convex g

  abbrev groups : List ℕ
  groups = groups_bytes (front g b).0

  abbrev head : ℕ → List ℕ
  head n = begin (Record.Group n)

  last_group : (d : Convex) → groups_bytes ((front g b).0 ++ d ∷ []) ≡ groups ++ group_bytes d
  last_group d = sym (append-nil _) ∙ group_bytes_law (front g b).0 d [] ∙ ap (λ l. groups ++ l) (append-nil (group_bytes d))

  was : groups_bytes g ≡ groups ++ (head (length c) ++ payload_bytes c)
  was = ap groups_bytes (front g b).1 ∙ last_group c

  is : groups_bytes (with_halfspace g h) ≡ (groups ++ (head (length c + 1) ++ payload_bytes c)) ++ numbers_bytes h
  is =
      ap (λ g. groups_bytes (with_halfspace g h)) (front g b).1
      ∙ ap groups_bytes (with_last (front g b).0 c h)
      ∙ last_group (c ++ h ∷ [])
      ∙ ap₂ (λ n p. groups ++ (head n ++ p)) (length-append c (h ∷ [])) (payload_more c h)
      ∙ sym (append_assoc groups (head (length c + 1) ++ payload_bytes c) (numbers_bytes h))

  was_length : length (groups_bytes g) ≡ length groups + (4 + 16 * length c)
  was_length = omega (arith, ap length was, length-append groups (head (length c) ++ payload_bytes c), payload_length c)

  head_over : (m n : ℕ) (before : List ℕ) → m ≡ 8 + length (groups_bytes g) → n ≡ length c → 8 + length (groups_bytes g) ≤ length before
      → put m (numbers_bytes h) (put (m - (4 + 16 * n)) (head (n + 1)) (put 8 (groups_bytes g) before)) ≡ put 8 (groups_bytes (with_halfspace g h)) before
  head_over m n before e k l =
      let at : m - (4 + 16 * n) ≡ 8 + length groups = omega (arith, was_length) in
      let longer : List ℕ = groups ++ (head (length c + 1) ++ payload_bytes c) in
      let size : length longer ≡ length groups + (4 + 16 * length c) =
      omega (arith, length-append groups (head (length c + 1) ++ payload_bytes c), payload_length c) in
      ap₂ (λ n b. put m (numbers_bytes h) (put (m - (4 + 16 * n)) (head (n + 1)) (put 8 b before))) k was
      ∙ ap (put m (numbers_bytes h)) (put_over 8 (m - (4 + 16 * length c)) groups (head (length c)) (head (length c + 1)) (payload_bytes c) before
      (ap (λ n. m - (4 + 16 * n)) (sym k) ∙ at) refl (omega (arith, was_length)))
      ∙ put_put 8 m longer (numbers_bytes h) before (omega (arith, size, was_length)) (omega arith)
      ∙ ap (λ b. put 8 b before) (sym is)

  plain_more : convexes_bytes (with_halfspace g h) ≡ convexes_bytes g ++ halfspace_bytes h
  plain_more = sym (append-nil (convexes_bytes (with_halfspace g h))) ∙ halfspace_bytes_law g h [] b

  pub halfspace_longer : (s : Style) → length (region_bytes s (with_halfspace g h)) ≡ length (region_bytes s g) + width s
  halfspace_longer Style.Plain = ap length plain_more ∙ length-append (convexes_bytes g) (halfspace_bytes h)
  halfspace_longer Style.Grouped = omega (arith, groups_length g, groups_length (with_halfspace g h), halfspace_length g h, halfspace_total g h b)

-- ---- what stands in a list

module _ {s : Style} {g : Region} {before xs : List ℕ} {p : WriteCursor} (v : RegionStands s g before xs p) (room : 8 + length (region_bytes s g) ≤ length before) where
  pub stands_convex : {ys : List ℕ} → ys ≡ with_convex_at s p xs
      → RegionStands s (with_convex g) before ys (record { at = p.at + 4; convexes = p.convexes + 1; last = 0 })
  stands_convex e = record {
    at = omega (arith, v.at, ap length (convex_more s g), length-append (region_bytes s g) (begin (opening s)));
    convexes = omega (arith, v.convexes, convex_length g);
    last = sym (ap length (convex_last g));
    bytes = e ∙ ap (put p.at (begin (opening s))) v.bytes
        ∙ put_put 8 p.at (region_bytes s g) (begin (opening s)) before v.at (omega arith)
        ∙ ap (λ b. put 8 b before) (sym (convex_more s g));
  }

  -- the bytes with a new halfspace
  bytes_more : (t : Style) → s ≡ t → (h : Halfspace) → 0 < length g → with_halfspace_at t p h xs ≡ put 8 (region_bytes t (with_halfspace g h)) before
  bytes_more Style.Plain q h b =
      ap (put p.at (halfspace_bytes h)) (v.bytes ∙ ap (λ s. put 8 (region_bytes s g) before) q)
      ∙ put_put 8 p.at (convexes_bytes g) (halfspace_bytes h) before (v.at ∙ ap (λ s. 8 + length (region_bytes s g)) q) (omega arith)
      ∙ ap (λ b. put 8 b before) (sym (plain_more g h b))
  bytes_more Style.Grouped q h b =
      let same : length (region_bytes s g) ≡ length (groups_bytes g) = ap (λ s. length (region_bytes s g)) q in
      ap (λ x. put p.at (numbers_bytes h) (put (p.at - (4 + 16 * p.last)) (begin (Record.Group (p.last + 1))) x))
      (v.bytes ∙ ap (λ s. put 8 (region_bytes s g) before) q)
      ∙ head_over g h b p.at p.last before (v.at ∙ ap (λ n. 8 + n) same) v.last (omega arith)

  pub stands_halfspace : (h : Halfspace) → 0 < length g → {ys : List ℕ} → ys ≡ with_halfspace_at s p h xs
      → RegionStands s (with_halfspace g h) before ys (record { at = p.at + width s; convexes = p.convexes; last = p.last + 1 })
  stands_halfspace h b e = record {
    at = omega (arith, v.at, halfspace_longer g h b s);
    convexes = v.convexes ∙ sym (halfspace_length g h);
    last = omega (arith, v.last, ap length (halfspace_last g h b), length-append (last_convex g) (h ∷ []));
    bytes = e ∙ bytes_more s refl h b;
  }
