-- The digits of a part are text, and they come behind those of the parts before it.
use Rattle.std.proofs.Common.{rules, ◌≡◌, List, ℕ, ◌++◌, append_assoc, ap, sym, ◌∙◌}
use Rattle.std.proofs.Output.{has_written_append}
use Rattle.std.proofs.lemmas.List.Concat.{flat_map-append}
use Rattle.std.proofs.lemmas.Str.{IsUtf8-from_ascii}
use Rattle.std.specs.Slice.Iter.{chunks_rest}
use Rattle.print.specs.Texts.{byte_text, digits_text}
use Rattle.print.proofs.regions.DigitsDisplay.fmt.Goals as goal

pub unreachable-requires : goal.unreachable-requires
unreachable-requires g c =
    c.in_default.ensures.cases.0 (rw c.put_digits.ensures.digits (IsUtf8-from_ascii (digits_text c.in-Some.part.now) c.put_digits.ensures.ascii))

pub loop-part-preserved : goal.loop-part-preserved
loop-part-preserved g c =
    let part : List ℕ = c.in-Some.part.now in
    let rest : List ℕ = chunks_rest c.next.new.self in
    let steps = c.in-Some.ensures.steps in
    let shown : c.in-Ok.digits.now ≡ digits_text part = c.in-Ok.ensures.cases.0 ∙ c.put_digits.ensures.digits in (
      search rules,
      tt,
      steps.0 ∙ c.loop-part.invariant.2,
      λ plain.
          let so_far = c.loop-part.invariant.3 plain in (
            so_far.0 ++ c.in-Ok.digits.now,
            has_written_append _ _ _ _ _ _ so_far.1 (search rules),
            append_assoc so_far.0 _ _
                ∙ ap (λ (t : List ℕ). so_far.0 ++ t) (rw shown (sym (flat_map-append byte_text part rest) ∙ ap digits_text (sym steps.1.0)))
                ∙ so_far.2,
          ),
    )
