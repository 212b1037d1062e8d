-- What holds in each turn of append_running_names's loop.
use Rattle.std.proofs.Common.{take}
use Rattle.rd_reply.specs.Pages.{Appends}
use Rattle.rd_reply.specs.Replies.{separated}
use Rattle.rd_reply.specs.Names.{name_or_dash}
use Rattle.rd_reply.proofs.tasks.append_running_names.Given as goal

abbrev pub invariant-loop-index : goal.invariant-loop-index
invariant-loop-index l =
    Appends l.fn.page l.page (separated (name_or_dash l.names.tasks) (take l.index l.cores))
