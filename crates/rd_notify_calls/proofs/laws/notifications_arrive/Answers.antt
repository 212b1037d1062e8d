-- The goals of `notifications_arrive` that the check left open.
use Rattle.rd_notify_calls.proofs.NotifyLaws.{notifications_arrive}
use Rattle.rd_notify_calls.proofs.laws.notifications_arrive.Goals as goal

pub returns : goal.returns
returns c = notifications_arrive
