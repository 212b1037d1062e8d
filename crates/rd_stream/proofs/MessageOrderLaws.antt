-- Messages come out whole and in order, by the calls in turn.
use Rattle.std.proofs.Common.{◌∙◌, List, [], ◌∷◌, ◌++◌, ℕ, get_or, ap, append_assoc}
use Rattle.std.proofs.lemmas.List.{append-nil, drop_more}
use Rattle.rd_stream.specs.MessageChanges.{message_applied, Push, Take}
use Rattle.rd_stream.specs.MessageLaws.{Write, Read, written_by, MessagesComeOutWholeAndInOrder}
use Rattle.std.proofs.Common.{sym}

pub messages_come_out_whole_and_in_order : MessagesComeOutWholeAndInOrder
messages_come_out_whole_and_in_order buffer [] fit = append-nil buffer.messages
messages_come_out_whole_and_in_order buffer (Write message ∷ calls) fit =
    sym (append_assoc buffer.messages (message ∷ []) (written_by calls))
    ∙ messages_come_out_whole_and_in_order (message_applied buffer (Push message)) calls fit.1
messages_come_out_whole_and_in_order buffer (Read ∷ calls) fit =
    let first : List ℕ = get_or buffer.messages 0 [] in
    ap (λ (ms : List (List ℕ)). ms ++ written_by calls) (drop_more buffer.messages 0 [] fit.0)
    ∙ ap (λ (ms : List (List ℕ)). first ∷ ms) (messages_come_out_whole_and_in_order (message_applied buffer Take) calls fit.1)
