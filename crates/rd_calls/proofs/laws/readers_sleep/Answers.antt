-- The goals of `readers_sleep` that the check left open.
use Rattle.rd_calls.proofs.SleepingLaws.{readers_sleep}
use Rattle.rd_calls.proofs.laws.readers_sleep.Goals as goal

pub returns : goal.returns
returns c = readers_sleep
