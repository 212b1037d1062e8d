-- The loop of `count_in`: so many messages lie before the offset.
use Rattle.std.proofs.Common.{◌≡◌, ◌≤◌, ◌-◌, length}
use Rattle.rd_stream.proofs.MessageListLaws.{start_of}
use Rattle.rd_stream.specs.Messages.{messages_in}
use Rattle.rd_stream.proofs.message_buf.count_in.Given as goal

abbrev pub invariant-loop-at : goal.invariant-loop-at
invariant-loop-at l = record {
  at : l.at ≡ start_of l.ring.bytes l.count;
  count : l.count ≤ length (messages_in l.ring.bytes);
}

abbrev pub decreases-loop-at : goal.decreases-loop-at
decreases-loop-at l = length l.ring.bytes - l.at
