-- The loop of `start_of`: where the message at the counter begins.
use Rattle.std.proofs.Common.{◌≡◌}
use Rattle.rd_stream.proofs.MessageListLaws.{start_of}
use Rattle.rd_stream.proofs.message_buf.start_of.Given as goal

abbrev pub invariant-loop : goal.invariant-loop
invariant-loop l = l.at ≡ start_of l.ring.bytes l.counter
