-- What holds in each turn of append_watch_list's loop.
use Rattle.std.proofs.Common.{take}
use Rattle.rd_reply.specs.Pages.{Appends}
use Rattle.rd_reply.specs.Replies.{separated, watch_shown_text}
use Rattle.rd_reply.proofs.watches.append_watch_list.Given as goal

abbrev pub invariant-loop-index : goal.invariant-loop-index
invariant-loop-index l =
    Appends l.fn.page l.page (separated watch_shown_text (take l.index l.watches))
