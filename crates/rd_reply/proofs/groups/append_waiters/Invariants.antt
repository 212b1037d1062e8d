-- What holds in each turn of append_waiters's loop.
use Rattle.std.proofs.Common.{take}
use Rattle.std.specs.List.{zip}
use Rattle.rd_reply.specs.Pages.{Appends}
use Rattle.rd_reply.specs.Replies.{separated, waiter_text}
use Rattle.rd_reply.proofs.groups.append_waiters.Given as goal

abbrev pub invariant-loop-index : goal.invariant-loop-index
invariant-loop-index l =
    Appends l.fn.page l.page (separated (waiter_text l.names)
    (take l.index (zip l.group.waiting l.group.wishes)))
