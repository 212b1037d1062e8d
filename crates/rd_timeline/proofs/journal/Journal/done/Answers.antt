-- The goal of `Journal::done` that the check left open.
use Rattle.std.proofs.Common.{sym}
use Rattle.rd_timeline.proofs.JournalLaws.{done_count}
use Rattle.rd_timeline.proofs.journal.Journal.done.Goals as goal

pub returns : goal.returns
returns c = sym (done_count c.self.inside c.args.self.now c.self.view_is c.self.invariant)
