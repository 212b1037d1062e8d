-- The goal of `deliver` that the check left open.
use Rattle.rd_kernel.specs.Tasks.{HasEntry}
use Rattle.rd_kernel.proofs.Offered.{room_while_one_waits}
use Rattle.rd_interrupts.proofs.interrupt.deliver.Goals as goal

pub notify-requires-clause-room : goal.notify-requires-clause-room
notify-requires-clause-room c =
    let s = c.args.editing.now.now in
    let has : HasEntry s c.in-Notify.task c.in-Notify.index = rw c.in-Notify.is at c.requires.there in
    λ waits. room_while_one_waits c.args.app.now s c.in-Notify.task c.requires.valid has.0 waits
