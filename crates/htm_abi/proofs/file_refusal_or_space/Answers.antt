-- `htm_abi::file_refusal_or_space` decodes the file, and answers its refusal or 10. Assumes nothing.
use Rattle.answer.specs.Answer.{refused, Space}
use Rattle.htm_abi.proofs.RefusalLaws.{accepted, file_refused}
use Rattle.htm_abi.proofs.file_refusal_or_space.Goals as goal

pub returns-in-Ok : goal.returns-in-Ok
returns-in-Ok c = accepted c.args.file.now (refused Space) c.decode.ensures.result_value _ c.in-Ok.is

pub returns-in-Err : goal.returns-in-Err
returns-in-Err c = file_refused c.args.file.now (refused Space) c.decode.ensures.result_value _ c.in-Err.is
