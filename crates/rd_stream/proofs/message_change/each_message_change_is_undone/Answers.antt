-- The goal of `each_message_change_is_undone`.
use Rattle.rd_stream.proofs.MessageChangeLaws.{message_change_is_undone}
use Rattle.rd_stream.proofs.message_change.each_message_change_is_undone.Goals as goal

pub returns : goal.returns
returns c = message_change_is_undone
