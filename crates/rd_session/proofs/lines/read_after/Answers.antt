-- The goals of read_after that the check left open.
use Rattle.rd_session.proofs.ReadLaws.{read_adds}
use Rattle.rd_session.proofs.lines.read_after.Goals as goal

pub returns-clause-ok : goal.returns-clause-ok
returns-clause-ok g c =
    let split = c.split_at_mut-room.ensures in
    read_adds c.read.result _ _ _ _ _ _ split.front_len split.front c.read.ensures.within c.read.ensures.bytes
