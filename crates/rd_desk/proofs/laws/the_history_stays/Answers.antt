-- The goals of the_history_stays that the check left open.
use Rattle.rd_desk.proofs.WatchLaws.{the_history_stays}
use Rattle.rd_desk.proofs.laws.the_history_stays.Goals as goal

pub returns : goal.returns
returns c = the_history_stays
