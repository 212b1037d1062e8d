-- The goals of `who_waits_leaves_room` that the check left open.
use Rattle.rd_kernel.proofs.CallLaws.{who_waits_leaves_room}
use Rattle.rd_kernel.proofs.waking.who_waits_leaves_room.Goals as goal

pub returns : goal.returns
returns c = who_waits_leaves_room
