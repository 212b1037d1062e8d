-- The goals of `meet` that the check left open.
use Rattle.std.proofs.Common.{rules}
use Rattle.rd_group_calls.proofs.GroupCallLaws.{room_once_set}
use Rattle.rd_group_calls.proofs.calls.meet.Goals as goal

pub wait_or_return-requires-clause-room : goal.wait_or_return-requires-clause-room
wait_or_return-requires-clause-room c =
    room_once_set c.args.app.now c.args.editing.now.now c.give_bits.new.editing.now c.args.task c.args.group c.args.set c.requires.caller c.requires.group (search rules)
    (search rules)
