-- The answers to lines, and what was written of them.
use Rattle.std.specs.Prelude.{ℕ, ◌≡◌, ◌+◌, ◌<◌, List, [], ◌∷◌, ◌++◌, Option, Some, None, is_some}
use Rattle.std.specs.Prelude.{length, IsTrue, option_map}
use Rattle.std.specs.List.{flat_map}
use Rattle.std.specs.Io.KnownBytes.{Appends}
use Rattle.rd_ends.specs.Ends.{IsFront, SinkView}
use Rattle.rd_text.specs.Words.{words_of}
use Rattle.rd_command.specs.Commands.{command_of}
use Rattle.rd_desk.specs.declared.entry.Event.{Event}
use Rattle.rd_desk.specs.declared.entry.Event.TheVariants.{Ask}
use Rattle.rd_desk.specs.declared.entry.Receipt.{Receipt}
use Rattle.rd_hall.specs.SeatView.{SeatView}
use Rattle.rd_session.specs.Calls.{GateCall, GateCalled}
use Rattle.rd_session.specs.Lines.{Line, Whole, Long}
use Rattle.rd_session.specs.Replies.{LineAnswer, Served, Unserved, Syntax, TooLong, text}

-- what a line asks for, if it is a command
abbrev pub asked : List ℕ → Option Event
asked line = option_map Ask (command_of (words_of line))

-- The answer is one to this line.
abbrev pub IsAnswerTo : Line → LineAnswer → Type 0
IsAnswerTo (Whole line) (Served receipt) = asked line ≡ Some receipt.entry.event
IsAnswerTo (Whole line) (Unserved error) = IsTrue (is_some (asked line))
IsAnswerTo (Whole line) Syntax = asked line ≡ None
IsAnswerTo (Whole line) TooLong = ⊥
IsAnswerTo Long TooLong = Unit {0}
IsAnswerTo Long answer = ⊥

-- Each line has its answer, in order.
abbrev pub AreAnswers : List Line → List LineAnswer → Type 0
AreAnswers [] [] = Unit {0}
AreAnswers [] (answer ∷ answers) = ⊥
AreAnswers (line ∷ lines) [] = ⊥
AreAnswers (line ∷ lines) (answer ∷ answers) = IsAnswerTo line answer × AreAnswers lines answers

abbrev pub receipt_in : LineAnswer → List Receipt
receipt_in (Served receipt) = receipt ∷ []
receipt_in (Unserved error) = []
receipt_in Syntax = []
receipt_in TooLong = []

-- the receipts among answers
abbrev pub receipts_in : List LineAnswer → List Receipt
receipts_in answers = flat_map receipt_in answers

-- their texts, one after the other
abbrev pub texts : List LineAnswer → List ℕ
texts answers = flat_map text answers

-- the seat with these receipts more, each of which counts as one in the ledger
abbrev pub with_all : SeatView → List Receipt → SeatView
with_all seat receipts = record {
  who = seat.who;
  receipts = seat.receipts ++ receipts;
  share = seat.share + length receipts;
}

-- whom a session stands between: its seat, where its answers go, and what was called of its gate
pub record Talk : Type 0 where
  pub seat : SeatView
  pub sink : SinkView
  pub calls : Option (List GateCall)

-- Each line was answered: the seat has gained the receipts among the answers, and their texts were
-- written. No write has failed. The gate was called for each line, before and after.
pub record Talks (lines : List Line) (old new : Talk) : Type 0 where
  pub answers : List LineAnswer
  pub each : AreAnswers lines answers
  pub gained : new.seat ≡ with_all old.seat (receipts_in answers)
  pub out : Appends old.sink.contents new.sink.contents (texts answers)
  pub given : Appends old.sink.given new.sink.given (texts answers)
  pub faults : new.sink.faults ≡ old.sink.faults
  pub called : GateCalled old.seat.who old.calls new.calls (length answers) (length answers) 0

-- There are no such answers, or one that has no room beside these bytes.
abbrev pub HasNoRoom : List ℕ → List LineAnswer → Type 0
HasNoRoom bytes [] = Unit {0}
HasNoRoom bytes (answer ∷ []) = 65536 < length bytes + length (text answer)
HasNoRoom bytes (answer ∷ other ∷ answers) = ⊥

-- A write has failed, and it was the last. The lines that were asked are those whose answers the
-- writes before it took (told), those whose answers it was given (lost), of whose texts it took a
-- front, and at the most one whose answer had no room beside these. Behind them no line was asked.
-- The gate was called before each that was asked, and after each that was told; of the others one at
-- the most was begun before an answer went out.
pub record BreaksOff (lines : List Line) (old new : Talk) : Type 0 where
  pub heard : List Line
  pub rest : List Line
  pub lines_are : lines ≡ heard ++ rest
  pub told : List LineAnswer
  pub lost : List LineAnswer
  pub unsaid : List LineAnswer
  pub no_room : HasNoRoom (texts lost) unsaid
  pub each : AreAnswers heard ((told ++ lost) ++ unsaid)
  pub gained : new.seat ≡ with_all old.seat (receipts_in ((told ++ lost) ++ unsaid))
  pub front : List ℕ
  pub is_front : IsFront front (texts lost)
  pub out : Appends old.sink.contents new.sink.contents (texts told ++ front)
  pub given : Appends old.sink.given new.sink.given (texts (told ++ lost))
  pub faults : new.sink.faults ≡ old.sink.faults + 1
  pub called : GateCalled old.seat.who old.calls new.calls
      (length ((told ++ lost) ++ unsaid)) (length told) 1
