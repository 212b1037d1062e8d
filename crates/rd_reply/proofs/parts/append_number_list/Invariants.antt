-- What holds in each turn of append_number_list's loop.
use Rattle.std.proofs.Common.{decimal, take}
use Rattle.rd_reply.specs.Pages.{Appends}
use Rattle.rd_reply.specs.Replies.{separated}
use Rattle.rd_reply.proofs.parts.append_number_list.Given as goal

abbrev pub invariant-loop-index : goal.invariant-loop-index
invariant-loop-index l = Appends l.fn.page l.page (separated decimal (take l.index l.numbers))
