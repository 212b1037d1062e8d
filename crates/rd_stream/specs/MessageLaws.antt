-- Laws of message buffers, in their own words.
use Rattle.std.specs.Prelude.{ℕ, ◌≡◌, List, [], ◌∷◌, ◌++◌, slice_index_or}
use Rattle.rd_stream.specs.MessageChanges.{message_applied, MessageChange, MessageFits, Push, Take}
use Rattle.rd_stream.specs.MessageSnapshot.{MessageSnapshot}

-- a message written, or the message at the front read
pub data MessageUse : Type 0 where
  Write : List ℕ → MessageUse
  Read : MessageUse

-- the change that it makes
abbrev pub change_by : MessageUse → MessageChange
change_by (Write message) = Push message
change_by Read = Take

-- Each has space, or something to read, where those before it have left the buffer.
abbrev pub FitInTurn : MessageSnapshot → List MessageUse → Type 0
FitInTurn buffer [] = Unit {0}
FitInTurn buffer (call ∷ calls) =
    MessageFits buffer (change_by call)
    × FitInTurn (message_applied buffer (change_by call)) calls

-- the buffer after all of them
abbrev pub left_by : MessageSnapshot → List MessageUse → MessageSnapshot
left_by buffer [] = buffer
left_by buffer (call ∷ calls) = left_by (message_applied buffer (change_by call)) calls

-- the messages written, and those that the reads gave, each list in the order of the calls
abbrev pub written_by : List MessageUse → List (List ℕ)
written_by [] = []
written_by (Write message ∷ calls) = message ∷ written_by calls
written_by (Read ∷ calls) = written_by calls

abbrev pub read_by : MessageSnapshot → List MessageUse → List (List ℕ)
read_by buffer [] = []
read_by buffer (Write message ∷ calls) = read_by (message_applied buffer (Push message)) calls
read_by buffer (Read ∷ calls) =
    slice_index_or buffer.messages 0 [] ∷ read_by (message_applied buffer Take) calls

-- What was there and then what was written is what was read and then what is there: each message
-- comes out whole and in its turn, none is lost, and none comes twice.
abbrev pub MessagesComeOutWholeAndInOrder : Type 0
MessagesComeOutWholeAndInOrder = (buffer : MessageSnapshot) (calls : List MessageUse)
    → FitInTurn buffer calls
    → buffer.messages ++ written_by calls ≡ read_by buffer calls ++ (left_by buffer calls).messages
