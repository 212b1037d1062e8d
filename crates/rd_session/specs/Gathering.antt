-- Answers that are gathered, and written many at a time.
use Rattle.std.specs.Prelude.{ℕ, ◌≡◌, ◌+◌, ◌-◌, ◌<◌, ◌≤◌, List, [], ◌∷◌, ◌++◌, length, slice_get}
use Rattle.std.specs.Prelude.{Option, None, Some, Result, OnErr, OnOk}
use Rattle.std.specs.Io.KnownBytes.{Appends}
use Rattle.rd_ends.specs.Ends.{SinkView}
use Rattle.rd_desk.specs.declared.entry.Receipt.{Receipt}
use Rattle.rd_reply.specs.declared.reply.TheConstants.{MAX_REPLY}
use Rattle.rd_hall.specs.SeatView.{SeatView}
use Rattle.rd_session.specs.BuffersView.{PendingView}
use Rattle.rd_session.specs.Calls.{Adds, GateCall, GateCalled, LeadTo}
use Rattle.rd_session.specs.Lines.{Line}
use Rattle.rd_session.specs.Replies.{LineAnswer, IsShown, reply_line, text}
use Rattle.rd_session.specs.Answers.{AreAnswers, BreaksOff, HasNoRoom, IsAnswerTo, Talk, Talks}
use Rattle.rd_session.specs.Answers.{receipt_in, receipts_in, texts, with_all}
use Rattle.rd_session.specs.declared.session.Ended.{Ended}
use Rattle.rd_session.specs.declared.session.Ended.TheVariants.{LineTooLong, WriteFault}

-- where a session is: whom it stands between, and its answers that weren't written yet
pub record Spot : Type 0 where
  pub talk : Talk
  pub pending : PendingView

abbrev pub spot : SeatView → SinkView → Option (List GateCall) → PendingView → Spot
spot seat sink calls pending = record {
  talk = record { seat = seat; sink = sink; calls = calls };
  pending = pending;
}

-- the spot with this seat
abbrev pub with_seat : Spot → SeatView → Spot
with_seat old seat = spot seat old.talk.sink old.talk.calls old.pending

-- No more answers are out than lines were begun, and no write has failed.
pub record IsAtWork (now : Spot) : Type 0 where
  pub out : now.pending.out ≤ now.pending.begun
  pub faults : now.talk.sink.faults ≡ 0

-- There is room for a reply in a few words.
abbrev pub HasReplyRoom : PendingView → Type 0
HasReplyRoom pending = length pending.bytes + MAX_REPLY ≤ pending.capacity

-- A line was begun that has no answer yet, there is room for a reply in a few words, and no write
-- has failed.
pub record IsReady (now : Spot) : Type 0 where
  pub room : HasReplyRoom now.pending
  pub out : now.pending.out < now.pending.begun
  pub faults : now.talk.sink.faults ≡ 0

-- Since the beginning these lines were heard and answered: some of the answers are written (told),
-- some gathered behind them (waiting), and some are neither yet (unsaid). So many at the most of the
-- lines that were begun when an answer went out last have no answer that is out (left).
pub record Talking (start : Talk) (heard : List Line) (unsaid : List LineAnswer) (left : ℕ) (now : Spot)
    : Type 0 where
  pub answers : List LineAnswer
  pub told : List LineAnswer
  pub waiting : List LineAnswer
  pub split : answers ≡ (told ++ waiting) ++ unsaid
  pub each : AreAnswers heard answers
  pub gained : now.talk.seat ≡ with_all start.seat (receipts_in answers)
  pub out : Appends start.sink.contents now.talk.sink.contents (texts told)
  pub given : Appends start.sink.given now.talk.sink.given (texts told)
  pub faults : now.talk.sink.faults ≡ start.sink.faults
  pub gathered : now.pending.bytes ≡ texts waiting
  pub begun_is : now.pending.begun ≡ length answers
  pub out_is : now.pending.out ≡ length told
  pub called : GateCalled start.seat.who start.calls now.talk.calls (length answers) (length told)
      left

-- ---- what a call does, whatever was heard before

-- The gate was told that the answers behind these, up to so many, are out.
abbrev pub AreOut : ℕ → ℕ → ℕ → Option (List GateCall) → Option (List GateCall) → Type 0
AreOut who out upto old new =
    (calls : List GateCall) × Adds old new calls
    × ((begun round : ℕ) → upto ≤ begun → round ≤ begun
    → (round' : ℕ) × (round' ≤ begun)
    × LeadTo who calls (record { begun = begun; out = out; round = round })
    (record { begun = begun; out = upto; round = round' }))

-- the line of the reply in the last receipt of a seat
abbrev pub line_in : Option Receipt → List ℕ
line_in None = []
line_in (Some receipt) = reply_line receipt.entry.reply

abbrev pub last_line : SeatView → List ℕ
last_line seat = line_in (slice_get seat.receipts (length seat.receipts - 1))

-- That reply is a view.
abbrev pub is_shown_in : Option Receipt → Type 0
is_shown_in None = ⊥
is_shown_in (Some receipt) = IsShown receipt.entry.reply

abbrev pub has_shown : SeatView → Type 0
has_shown seat = is_shown_in (slice_get seat.receipts (length seat.receipts - 1))

-- All that was gathered is written; what is unsaid isn't out.
abbrev pub IsFlushed : ℕ → Spot → Spot → Type 0
IsFlushed upto old new = (start : Talk) (heard : List Line) (unsaid : List LineAnswer)
    → start.seat.who ≡ old.talk.seat.who → upto + length unsaid ≡ old.pending.begun
    → Talking start heard unsaid 0 old → Talking start heard unsaid (length unsaid) new

-- What was heard and answered stays so.
abbrev pub GoesOn : Spot → Spot → Type 0
GoesOn old new = (start : Talk) (heard : List Line) → start.seat.who ≡ old.talk.seat.who
    → Talking start heard [] 0 old → Talking start heard [] 0 new

-- A write has failed that was given all that was gathered.
abbrev pub IsLost : Spot → Talk → Type 0
IsLost old new = (start : Talk) (heard : List Line) (unsaid : List LineAnswer)
    → start.seat.who ≡ old.talk.seat.who → HasNoRoom old.pending.bytes unsaid
    → Talking start heard unsaid 0 old → BreaksOff heard start new

-- An answer with this text, which was neither gathered nor written before, is so now.
abbrev pub IsSaid : List ℕ → Spot → Spot → Type 0
IsSaid line old new = (start : Talk) (heard : List Line) (answer : LineAnswer)
    → start.seat.who ≡ old.talk.seat.who → text answer ≡ line
    → Talking start heard (answer ∷ []) 0 old → Talking start heard [] 0 new

-- A write has failed where an answer with this text was to be gathered or written.
abbrev pub IsUnsaid : List ℕ → Spot → Talk → Type 0
IsUnsaid line old new = (start : Talk) (heard : List Line) (answer : LineAnswer)
    → start.seat.who ≡ old.talk.seat.who → text answer ≡ line
    → Talking start heard (answer ∷ []) 0 old → BreaksOff heard start new

-- A line was begun: with an answer to it, and the seat that has its receipt, it is heard.
abbrev pub Begins : Spot → Spot → Type 0
Begins old new = (start : Talk) (heard : List Line) (after : SeatView) (line : Line)
    (answer : LineAnswer)
    → start.seat.who ≡ old.talk.seat.who → IsAnswerTo line answer
    → after ≡ with_all new.talk.seat (receipt_in answer) → Talking start heard [] 0 old
    → Talking start (heard ++ line ∷ []) (answer ∷ []) 0 (with_seat new after)

-- A line that was begun has its answer, whose text was gathered or written, or the sink failed.
pub record Answered {T E : Type 0} (line : Line) (old new : Spot) (result : Result T E) : Type 0
  where
    pub answer : LineAnswer
    pub to_line : IsAnswerTo line answer
    pub gained : new.talk.seat ≡ with_all old.talk.seat (receipt_in answer)
    pub said : OnOk result (IsSaid (text answer) (with_seat old new.talk.seat) new)
    pub unsaid : OnErr result (IsUnsaid (text answer) (with_seat old new.talk.seat) new.talk)

-- These lines were heard, and answered.
abbrev pub HearsMore : List Line → Spot → Spot → Type 0
HearsMore lines old new = (start : Talk) (heard : List Line) → start.seat.who ≡ old.talk.seat.who
    → Talking start heard [] 0 old → Talking start (heard ++ lines) [] 0 new

-- A write has failed amid these lines.
abbrev pub BreaksAmid : List Line → Spot → Talk → Type 0
BreaksAmid lines old new = (start : Talk) (heard : List Line)
    → start.seat.who ≡ old.talk.seat.who
    → Talking start heard [] 0 old → BreaksOff (heard ++ lines) start new

-- These lines were heard and answered, and all answers are written.
abbrev pub SaysAll : List Line → Spot → Talk → Type 0
SaysAll lines old new = (start : Talk) (heard : List Line) → start.seat.who ≡ old.talk.seat.who
    → Talking start heard [] 0 old → Talks (heard ++ lines) start new

-- What was answered where a session stops amid these lines.
abbrev pub Stops : Ended → List Line → Option (List ℕ) → Spot → Talk → Type 0
Stops LineTooLong lines rest old new = SaysAll lines old new × (rest ≡ None)
Stops WriteFault lines rest old new = BreaksAmid lines old new
