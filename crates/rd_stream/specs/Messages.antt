-- Message buffers as lists of messages, and messages as bytes one after the other.
use Rattle.std.specs.Prelude.{ℕ, zero, suc, ◌≡◌, ◌+◌, ◌<◌, List, [], ◌∷◌, ◌++◌, length, map, take}
use Rattle.std.specs.Prelude.{drop, All}
use Rattle.std.specs.Int.{w32, from_le_bytes, to_le_bytes}
use Rattle.std.specs.List.{concat}
use Rattle.rd_stream.specs.Holders.{HoldersView, no_holders}
use Rattle.rd_stream.specs.MessageSnapshot.{MessageSnapshot}

-- a message as it lies in a buffer: the four bytes of its length, lowest first, and its own
abbrev pub framed : List ℕ → List ℕ
framed message = to_le_bytes w32 (length message) ++ message

-- messages, one after the other
abbrev pub all_framed : List (List ℕ) → List ℕ
all_framed messages = concat (map framed messages)

-- the length that stands at the front of bytes
abbrev pub first_length : List ℕ → ℕ
first_length bytes = from_le_bytes w32 (take 4 bytes)

-- the messages that lie in bytes, one after the other; no more than so many
abbrev pub first_messages : ℕ → List ℕ → List (List ℕ)
first_messages zero bytes = []
first_messages (suc n) [] = []
first_messages (suc n) (byte ∷ bytes) =
    take (first_length (byte ∷ bytes)) (drop 4 (byte ∷ bytes))
    ∷ first_messages n (drop (4 + first_length (byte ∷ bytes)) (byte ∷ bytes))

abbrev pub messages_in : List ℕ → List (List ℕ)
messages_in bytes = first_messages (length bytes) bytes

-- how many bytes messages take, those of their lengths among them
abbrev pub bytes_held : List (List ℕ) → ℕ
bytes_held messages = length (all_framed messages)

-- The bytes are messages, one after the other and none of them empty.
pub record AreMessages (bytes : List ℕ) : Type 0 where
  pub whole : all_framed (messages_in bytes) ≡ bytes
  pub some : All (λ message. 0 < length message) (messages_in bytes)

-- a new buffer at which that many tasks can wait
abbrev pub empty_message_buffer : ℕ → ℕ → MessageSnapshot
empty_message_buffer capacity task_count =
    record { messages = []; capacity = capacity; holders = no_holders task_count }

-- the buffer with these messages, these names in place of its own
abbrev pub with_messages : MessageSnapshot → List (List ℕ) → MessageSnapshot
with_messages buffer messages = record buffer { messages = messages }

abbrev pub with_message_holders : MessageSnapshot → HoldersView → MessageSnapshot
with_message_holders buffer holders = record buffer { holders = holders }
