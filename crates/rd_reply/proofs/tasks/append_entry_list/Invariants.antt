-- What holds in each turn of append_entry_list's loop.
use Rattle.std.proofs.Common.{take}
use Rattle.rd_reply.specs.Pages.{Appends}
use Rattle.rd_reply.specs.Replies.{entry_text, separated}
use Rattle.rd_reply.proofs.tasks.append_entry_list.Given as goal

abbrev pub invariant-loop-index : goal.invariant-loop-index
invariant-loop-index l = Appends l.fn.page l.page (separated entry_text (take l.index l.entries))
