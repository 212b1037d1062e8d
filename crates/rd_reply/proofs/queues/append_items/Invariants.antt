-- What holds in each turn of append_items's loop.
use Rattle.std.proofs.Common.{take}
use Rattle.rd_reply.specs.Pages.{Appends}
use Rattle.rd_reply.specs.Replies.{bytes_text, separated}
use Rattle.rd_reply.proofs.queues.append_items.Given as goal

abbrev pub invariant-loop-index : goal.invariant-loop-index
invariant-loop-index l =
    Appends l.fn.page l.page (separated bytes_text (take l.index l.queue.items))
