-- The goal of `MessageBuf::count` that the check left open.
use Rattle.std.proofs.Common.{arith}
use Rattle.rd_stream.proofs.MessageRingLaws.{few_counted}
use Rattle.rd_stream.proofs.message_buf.MessageBuf.count.Goals as goal

pub returns-clause-few : goal.returns-clause-few
returns-clause-few c =
    let holds = c.self.invariant in
    omega (arith, few_counted c.self.inside.ring c.self.inside.count holds, holds.1, holds.2)
