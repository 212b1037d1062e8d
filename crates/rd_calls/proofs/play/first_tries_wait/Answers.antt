-- The goals of `first_tries_wait` that the check left open.
use Rattle.rd_kernel.proofs.Offered.{first_tries_wait}
use Rattle.rd_calls.proofs.play.first_tries_wait.Goals as goal

pub returns : goal.returns
returns c = first_tries_wait
