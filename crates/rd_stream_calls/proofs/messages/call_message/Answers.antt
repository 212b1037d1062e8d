-- The goals of `call_message` that the check left open.
use Rattle.rd_app.specs.Application.{priorities_of}
use Rattle.rd_app.specs.declared.instr.MessageCall.TheVariants.{Write, Read}
use Rattle.rd_stream_calls.proofs.BufferLaws.{pc_stays}
use Rattle.rd_stream_calls.proofs.MessageCallLaws.{message_call-pcs}
use Rattle.rd_stream_calls.proofs.messages.call_message.Goals as goal

pub returns-in-Write-clause-stays : goal.returns-in-Write-clause-stays
returns-in-Write-clause-stays c =
    let s = c.args.editing.now.now in
    pc_stays c.write.result c.args.editing.now c.write.new.editing _ _ c.args.task c.write.ensures.ok
    (message_call-pcs (priorities_of c.args.app.now) s c.args.task c.args.message (Write c.in-Write.wait))

pub returns-in-Read-clause-stays : goal.returns-in-Read-clause-stays
returns-in-Read-clause-stays c =
    let s = c.args.editing.now.now in
    pc_stays c.read.result c.args.editing.now c.read.new.editing _ _ c.args.task c.read.ensures.ok
    (message_call-pcs (priorities_of c.args.app.now) s c.args.task c.args.message (Read c.in-Read.room c.in-Read.wait))
