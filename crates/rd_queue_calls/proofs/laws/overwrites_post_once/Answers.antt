-- The goals of `overwrites_post_once` that the check left open.
use Rattle.rd_queue_calls.proofs.HandleLaws.{overwrites_post_once}
use Rattle.rd_queue_calls.proofs.laws.overwrites_post_once.Goals as goal

pub returns : goal.returns
returns c = overwrites_post_once
