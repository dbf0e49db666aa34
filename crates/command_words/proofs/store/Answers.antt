-- With no file, or with less than FILE_DIGITS of it stored, the byte is appended as it comes.
use Rattle.std.proofs.Common.{◌≤◌, ◌≡◌, Some, length, arith, rules}
use Rattle.command_words.proofs.FileLaws.{plain, short}
use Rattle.command_words.proofs.store.Goals.{in_default-via-in-Some+else-saturating_sub-ge-FILE_DIGITS, in_default-via-in_default}
use Rattle.command_words.proofs.store.Goals as goal

pub returns-in_default-clause-stored : goal.returns-in_default-clause-stored
returns-in_default-clause-stored c =
    let is : c.args.bytes ≡ Some c.in_ok-n.n = search rules in
    let within : c.in_ok-n.n ≤ length c.args.line.now = search rules in
    rw is (elim c.in_default.branch [
      | in_default-via-in-Some+else-saturating_sub-ge-FILE_DIGITS w ↦
          rw w.in-Some.is (short w.in-Some.p _ _ _ within (omega (arith, w.saturating_sub.ensures)) c.push.ensures.pushed)
      | in_default-via-in_default w ↦ rw w.in_default.is (plain 0 _ _ _ within c.push.ensures.pushed)
    ])
