-- The goals of read_application that the check left open.
use Rattle.rd_start.proofs.FaultLaws.{not_said, reads_up_to, said}
use Rattle.rd_start.proofs.file.read_application.Goals as goal

pub returns-clause-app : goal.returns-clause-app
returns-clause-app g c =
    let read = c.read_to_end-read in
    let up_to = reads_up_to g.R.Read.remaining c.take.result c.args.reader read.result c.new-bytes.result.items read.new.buf.items
    c.take.ensures.limit c.take.ensures.inner c.new-bytes.ensures.items read.ensures.bytes in
    said _ read.result c.as_slice.result.now c.app_of_read.result (rw c.as_slice.ensures.value up_to)
    c.app_of_read.ensures.failed c.app_of_read.ensures.short c.app_of_read.ensures.app c.app_of_read.ensures.limits

pub returns-clause-fault : goal.returns-clause-fault
returns-clause-fault g c =
    let read = c.read_to_end-read in
    let up_to = reads_up_to g.R.Read.remaining c.take.result c.args.reader read.result c.new-bytes.result.items read.new.buf.items
    c.take.ensures.limit c.take.ensures.inner c.new-bytes.ensures.items read.ensures.bytes in
    not_said _ read.result c.as_slice.result.now c.app_of_read.result (rw c.as_slice.ensures.value up_to)
    c.app_of_read.ensures.failed c.app_of_read.ensures.long c.app_of_read.ensures.fault
