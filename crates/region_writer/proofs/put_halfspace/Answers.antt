-- In the plain style length and kind and the numbers stand one after the other, and so as one list; in the grouped one the group's length is put first, then
-- the numbers. Assumes nothing.
use Prim.Native.Nat.{◌+◌}
use native.Mathlib.Omega.{arith}
use mathlib.Core.Path.{refl, sym, ap, ◌∙◌}
use Rattle.region.specs.declared.Record.{Record}
use Rattle.region.specs.Writer.{begin, numbers_bytes}
use Rattle.answer.specs.Lent.{put}
use Rattle.answer.proofs.PutLaws.{put_next}
use Rattle.region_writer.specs.Writing.{width, with_halfspace_at}
use Rattle.region_writer.proofs.put_halfspace.Goals as goal

pub overflow_add-next : goal.overflow_add-next
overflow_add-next c = omega (arith, c.requires.style_in_bounds)

pub put_kind-requires : goal.put_kind-requires
put_kind-requires c =
    (omega (arith, c.requires.style_in_bounds.0, ap width c.in-Plain.is), omega arith)

pub overflow_add-at : goal.overflow_add-at
overflow_add-at c =
    omega (arith, c.requires.style_in_bounds.0, ap width c.in-Plain.is)

pub put_numbers-requires : goal.put_numbers-requires
put_numbers-requires c =
    record {
      at_in_bounds = omega (arith, c.requires.style_in_bounds.0, ap width c.in-Plain.is, c.put_kind.auto.out);
      small = c.requires.small;
      upto = c.requires.upto;
    }

pub put_kind-requires-in-Grouped : goal.put_kind-requires-in-Grouped
put_kind-requires-in-Grouped c = (omega arith, omega arith)

pub put_numbers-requires-in-Grouped : goal.put_numbers-requires-in-Grouped
put_numbers-requires-in-Grouped c =
    record {
      at_in_bounds = omega (arith, c.requires.style_in_bounds.0, ap width c.in-Grouped.is, c.put_kind-in-Grouped.auto.out);
      small = c.requires.small;
      upto = c.requires.upto;
    }

pub returns-in-Plain : goal.returns-in-Plain
returns-in-Plain c =
    let a = c.args in record {
      value = (λ i. record { at = a.p.at + c.width.ensures.0 i; convexes = a.p.convexes; last = a.p.last + 1 });
      out_after = put_next a.p.at (begin Record.Halfspace) (numbers_bytes a.h) a.out.now c.put_kind.ensures c.put_numbers.ensures refl (omega arith)
          ∙ ap (λ s. with_halfspace_at s a.p a.h a.out.now) (sym c.in-Plain.is);
    }

pub returns-in-Grouped : goal.returns-in-Grouped
returns-in-Grouped c =
    let a = c.args in record {
      value = (λ i. record { at = a.p.at + c.width.ensures.0 i; convexes = a.p.convexes; last = a.p.last + 1 });
      out_after = c.put_numbers-in-Grouped.ensures
          ∙ ap (put a.p.at (numbers_bytes a.h)) c.put_kind-in-Grouped.ensures
          ∙ ap (λ s. with_halfspace_at s a.p a.h a.out.now) (sym c.in-Grouped.is);
    }
