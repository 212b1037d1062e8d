-- The goals of `Queue::unput` that the check left open.
use Rattle.std.proofs.Common.{◌-◌, [], length, arith}
use Rattle.std.proofs.lemmas.Option.{slice_get-get_or}
use Rattle.rd_queue.proofs.queue.Queue.unput.Goals as goal

pub returns-clause-item : goal.returns-clause-item
returns-clause-item c = rw (c.new-item.ensures, c.last.ensures.item) (slice_get-get_or c.args.self.now.items (length c.args.self.now.items - 1) [] (omega (arith, c.requires)))
