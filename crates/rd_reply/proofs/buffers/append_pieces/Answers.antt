-- The goals of append_pieces that the check left open.
use Rattle.std.proofs.Common.{arith, ◌+◌, ◌<◌, length}
use Rattle.rd_reply.proofs.PageLaws.{appends_as, appends_then}
use Rattle.rd_reply.proofs.TextLaws.{pieces_shown}
use Rattle.rd_reply.proofs.buffers.append_pieces.Goals as goal

pub returns : goal.returns
returns c =
    let some : 0 < length c.args.front.now + length c.args.back.now = elim c.else-is_empty.branch [
      | goal.else-is_empty-via-then-is_empty+else-is_empty-2 w ↦
          grind (arith, w.if-is_empty-2.false, w.is_empty-then-is_empty.ensures)
      | goal.else-is_empty-via-else-is_empty w ↦
          grind (arith, w.if-is_empty.false, c.is_empty.ensures)
    ] in
    appends_as (appends_then c.append_digits.ensures c.append_digits-2.ensures)
    (pieces_shown _ _ some)
