-- The goal of `Journal::undone` that the check left open.
use Rattle.std.proofs.Common.{arith}
use Rattle.rd_timeline.proofs.JournalLaws.{undone_count}
use Rattle.rd_timeline.proofs.journal.Journal.undone.Goals as goal

pub returns : goal.returns
returns c = omega (arith, c.len.ensures, undone_count c.self.inside c.args.self.now c.self.view_is)
