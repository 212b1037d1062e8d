-- The goal of `messages_come_out_whole_and_in_order`.
use Rattle.rd_stream.proofs.MessageOrderLaws.{messages_come_out_whole_and_in_order}
use Rattle.rd_stream.proofs.message_laws.messages_come_out_whole_and_in_order.Goals as goal

pub returns : goal.returns
returns c = messages_come_out_whole_and_in_order
