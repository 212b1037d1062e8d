-- The goals of `takes_count_down` that the check left open.
use Rattle.rd_notify_calls.proofs.NotifyLaws.{takes_count_down}
use Rattle.rd_notify_calls.proofs.laws.takes_count_down.Goals as goal

pub returns : goal.returns
returns c = takes_count_down
