-- Another byte, a second digit of two, and a first digit.
use Rattle.std.proofs.Common.{sym, ap, ◌∙◌, arith}
use Rattle.std.specs.Option.{is_some}
use Rattle.command_words.proofs.FileLaws.{other, first_digit, second_digit}
use Rattle.command_words.proofs.store_past.Goals as goal

pub returns-then-is_none-clause-stored : goal.returns-then-is_none-clause-stored
returns-then-is_none-clause-stored c =
    other _ _ _ _ c.requires.n_in_bounds c.requires.file_bound (sym (ap is_some c.digit.ensures.value) ∙ c.if-is_none.ensures)

pub returns-then-n-file-gt-FILE_DIGITS-clause-stored : goal.returns-then-n-file-gt-FILE_DIGITS-clause-stored
returns-then-n-file-gt-FILE_DIGITS-clause-stored c =
    second_digit _ _ _ _ c.requires.n_in_bounds c.requires.file_bound (omega arith) (sym (ap is_some c.digit.ensures.value) ∙ c.if-is_none.ensures)

pub returns-clause-stored : goal.returns-clause-stored
returns-clause-stored c =
    first_digit _ _ _ _ c.requires.n_in_bounds c.requires.file_bound (omega arith) (sym (ap is_some c.digit.ensures.value) ∙ c.if-is_none.ensures) c.push.ensures.pushed
