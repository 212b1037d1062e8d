-- The goals of `nothing_is_overwritten` that the check left open.
use Rattle.rd_notify_calls.proofs.NotifyLaws.{nothing_is_overwritten}
use Rattle.rd_notify_calls.proofs.laws.nothing_is_overwritten.Goals as goal

pub returns : goal.returns
returns c = nothing_is_overwritten
