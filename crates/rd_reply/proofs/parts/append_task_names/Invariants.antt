-- What holds in each turn of append_task_names's loop.
use Rattle.std.proofs.Common.{take}
use Rattle.rd_reply.specs.Pages.{Appends}
use Rattle.rd_reply.specs.Replies.{separated}
use Rattle.rd_reply.specs.Names.{name_at}
use Rattle.rd_reply.proofs.parts.append_task_names.Given as goal

abbrev pub invariant-loop-index : goal.invariant-loop-index
invariant-loop-index l =
    Appends l.fn.page l.page (separated (name_at l.names.tasks) (take l.index l.tasks))
