-- The goals of `call_stream` that the check left open.
use Rattle.rd_app.specs.Application.{priorities_of}
use Rattle.rd_app.specs.declared.instr.StreamCall.TheVariants.{Write, Read}
use Rattle.rd_stream_calls.proofs.BufferLaws.{pc_stays}
use Rattle.rd_stream_calls.proofs.StreamCallLaws.{stream_call-pcs}
use Rattle.rd_stream_calls.proofs.streams.call_stream.Goals as goal

pub returns-in-Write-clause-stays : goal.returns-in-Write-clause-stays
returns-in-Write-clause-stays c =
    let s = c.args.editing.now.now in
    pc_stays c.write.result c.args.editing.now c.write.new.editing _ _ c.args.task c.write.ensures.ok
    (stream_call-pcs (priorities_of c.args.app.now) s c.args.task c.args.stream (Write c.in-Write.wait))

pub returns-in-Read-clause-stays : goal.returns-in-Read-clause-stays
returns-in-Read-clause-stays c =
    let s = c.args.editing.now.now in
    pc_stays c.read.result c.args.editing.now c.read.new.editing _ _ c.args.task c.read.ensures.ok
    (stream_call-pcs (priorities_of c.args.app.now) s c.args.task c.args.stream (Read c.in-Read.room c.in-Read.wait))
