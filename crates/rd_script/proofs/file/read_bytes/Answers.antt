-- The goals of read_bytes that the check left open.
use Rattle.rd_script.proofs.AppLaws.{not_utf8, utf8_read}
use Rattle.rd_script.proofs.file.read_bytes.Goals as goal

pub returns-in-Ok-clause-exact : goal.returns-in-Ok-clause-exact
returns-in-Ok-clause-exact c =
    let read = c.in-Ok.ensures.cases in
    utf8_read c.args.bytes.now c.in-Ok.text.now c.read_text.result read.0 read.1 c.read_text.ensures.exact

pub returns-in-Err-clause-exact : goal.returns-in-Err-clause-exact
returns-in-Err-clause-exact c = λ other. not_utf8 c.args.bytes.now c.in-Err.ensures.cases.0
