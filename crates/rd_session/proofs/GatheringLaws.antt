-- Answers that are gathered, and written many at a time.
use Rattle.std.proofs.Common.{◌≡◌, ◌∙◌, ℕ, ◌+◌, ◌-◌, List, [], ◌∷◌, ◌++◌, length, refl, ap, subst, sym, arith}
use Rattle.std.specs.Prelude.{Option, Some, None, slice_get, option_map, is_some, IsTrue}
use Rattle.std.specs.Io.KnownBytes.{Appends}
use Rattle.std.proofs.lemmas.List.{append_assoc, append-nil, length-append, length_push}
use Rattle.std.proofs.lemmas.Grind.{flat_map-append}
use Rattle.rd_ends.specs.Ends.{IsFront, SinkView}
use Rattle.rd_ends.proofs.Offered.{Appends-append, Appends-none}
use Rattle.rd_text.specs.Words.{words_of}
use Rattle.rd_command.specs.Commands.{CommandView, command_of}
use Rattle.rd_desk.specs.declared.desk.NotServed.{NotServed}
use Rattle.rd_desk.specs.declared.entry.Event.{Event}
use Rattle.rd_desk.specs.declared.entry.Event.TheVariants.{Ask}
use Rattle.rd_desk.specs.declared.entry.Receipt.{Receipt}
use Rattle.rd_hall.specs.SeatView.{SeatView}
use Rattle.rd_hall.specs.Seats.{Gains}
use Rattle.rd_session.specs.BuffersView.{PendingView}
use Rattle.rd_session.specs.Calls.{Adds, Before, GateCall}
use Rattle.rd_session.specs.Lines.{Line, Whole, Long}
use Rattle.rd_session.specs.Replies.{LineAnswer, Served, Unserved, Syntax, TooLong, refusal_line, refusal_of, text}
use Rattle.rd_session.specs.Answers.{AreAnswers, BreaksOff, HasNoRoom, IsAnswerTo, Talk, Talks, receipt_in, receipts_in, texts, with_all}
use Rattle.rd_session.specs.Gathering.{AreOut, Spot, Talking, last_line, line_in, spot}
use Rattle.rd_session.proofs.CallLaws.{GateCalled-begun, GateCalled-none, GateCalled-out, GateCalled-same, GateCalled-weak}

-- ---- texts and receipts

texts_append : (xs ys : List LineAnswer) → texts (xs ++ ys) ≡ texts xs ++ texts ys
texts_append xs ys = flat_map-append text xs ys

texts_push : (xs : List LineAnswer) (answer : LineAnswer) → texts (xs ++ answer ∷ []) ≡ texts xs ++ text answer
texts_push xs answer = texts_append xs (answer ∷ []) ∙ ap (λ (bs : List ℕ). texts xs ++ bs) (append-nil (text answer))

no_answers : (xs : List LineAnswer) → length xs ≡ 0 → xs ≡ []
no_answers [] none = refl
no_answers (x ∷ xs) none = absurd (omega (arith, none))

last_pushed : {X : Type 0} (xs : List X) (x : X) → slice_get (xs ++ x ∷ []) (length xs) ≡ Some x
last_pushed [] x = refl
last_pushed (y ∷ ys) x = last_pushed ys x

-- a seat, by what is seen of it
abbrev seat_of : ℕ → List Receipt → ℕ → SeatView
seat_of who receipts share = record { who = who; receipts = receipts; share = share }

seat_same : (who : ℕ) (rs rs' : List Receipt) (n n' : ℕ) → rs ≡ rs' → n ≡ n' → seat_of who rs n ≡ seat_of who rs' n'
seat_same who rs rs' n n' receipts share =
    ap (λ (r : List Receipt). seat_of who r n) receipts ∙ ap (seat_of who rs') share

-- the last receipt of a seat that has gained one
gained_last : (xs ys : List Receipt) (receipt : Receipt) → ys ≡ xs ++ receipt ∷ [] → slice_get ys (length ys - 1) ≡ Some receipt
gained_last xs ys receipt is =
    let place : length ys - 1 ≡ length xs = omega (arith, ap length is, length_push xs receipt) in
    ap (slice_get ys) place ∙ ap (λ (zs : List Receipt). slice_get zs (length xs)) is ∙ last_pushed xs receipt

gained_nothing : (seat after : SeatView) → after ≡ seat → after ≡ with_all seat []
gained_nothing seat after same =
    same ∙ seat_same seat.who seat.receipts (seat.receipts ++ []) seat.share (seat.share + 0) (sym (append-nil seat.receipts)) (omega arith)

gained_more : (seat mid after : SeatView) (xs : List LineAnswer) (answer : LineAnswer) → mid ≡ with_all seat (receipts_in xs) → after ≡ with_all mid (receipt_in answer) → after ≡ with_all seat (receipts_in (xs ++ answer ∷ []))
gained_more seat mid after xs answer one two =
    let all : receipts_in (xs ++ answer ∷ []) ≡ receipts_in xs ++ receipt_in answer =
    flat_map-append receipt_in xs (answer ∷ []) ∙ ap (λ (rs : List Receipt). receipts_in xs ++ rs) (append-nil (receipt_in answer)) in
    two ∙ ap (λ (s : SeatView). with_all s (receipt_in answer)) one
    ∙ seat_same seat.who ((seat.receipts ++ receipts_in xs) ++ receipt_in answer) (seat.receipts ++ receipts_in (xs ++ answer ∷ []))
    ((seat.share + length (receipts_in xs)) + length (receipt_in answer)) (seat.share + length (receipts_in (xs ++ answer ∷ [])))
    (append_assoc seat.receipts (receipts_in xs) (receipt_in answer) ∙ ap (λ (rs : List Receipt). seat.receipts ++ rs) (sym all))
    (omega (arith, ap length all, length-append (receipts_in xs) (receipt_in answer)))

-- ---- the answer to one line

-- what is known of an answer: to which line it is, and what the seat has by it
pub record Answers (line : Line) (seat after : SeatView) (said : List ℕ) : Type 0 where
  pub answer : LineAnswer
  pub to_line : IsAnswerTo line answer
  pub gained : after ≡ with_all seat (receipt_in answer)
  pub says : text answer ≡ said

pub answer_served : (line : List ℕ) (command : CommandView) (seat after : SeatView)
    → command_of (words_of line) ≡ Some command → (receipt : Receipt) × Gains seat (Ask command) after receipt
    → Answers (Whole line) seat after (last_line after)
answer_served line command seat after is gains =
    let receipt = gains.0 in
    let last = gained_last seat.receipts after.receipts receipt (ap (λ (s : SeatView). s.receipts) gains.1.after) in
    record {
      answer = Served receipt;
      to_line = ap (option_map Ask) is ∙ ap (λ (e : Event). Some e) (sym gains.1.event);
      gained = gains.1.after ∙ seat_same seat.who (seat.receipts ++ receipt ∷ []) (seat.receipts ++ receipt ∷ []) (seat.share + 1) (seat.share + length (receipt ∷ [])) refl (omega arith);
      says = sym (ap line_in last);
    }

pub answer_refused : (line : List ℕ) (command : CommandView) (seat after : SeatView) (error : NotServed)
    → command_of (words_of line) ≡ Some command → after ≡ seat → Answers (Whole line) seat after (refusal_line (refusal_of error))
answer_refused line command seat after error is same = record {
  answer = Unserved error;
  to_line = subst (λ (o : Option CommandView). IsTrue (is_some (option_map Ask o))) (sym is) refl;
  gained = gained_nothing seat after same;
  says = refl;
}

pub answer_syntax : (line : List ℕ) (seat : SeatView) → command_of (words_of line) ≡ None → Answers (Whole line) seat seat (text Syntax)
answer_syntax line seat is = record {
  answer = Syntax;
  to_line = ap (option_map Ask) is;
  gained = gained_nothing seat seat refl;
  says = refl;
}

pub answer_long : (seat : SeatView) → Answers Long seat seat (text TooLong)
answer_long seat = record { answer = TooLong; to_line = tt; gained = gained_nothing seat seat refl; says = refl }

AreAnswers-append : (xs ys : List Line) (as' bs : List LineAnswer) → AreAnswers xs as' → AreAnswers ys bs → AreAnswers (xs ++ ys) (as' ++ bs)
AreAnswers-append [] ys [] bs one two = two
AreAnswers-append [] ys (a ∷ as') bs one two = absurd one
AreAnswers-append (x ∷ xs) ys [] bs one two = absurd one
AreAnswers-append (x ∷ xs) ys (a ∷ as') bs one two = (one.0, AreAnswers-append xs ys as' bs one.1 two)

-- ---- where a session is, one step after the other

pub Talking-new : (start : Talk) (pending : PendingView) → pending.bytes ≡ [] → pending.begun ≡ 0 → pending.out ≡ 0 → Talking start [] [] 0 (record { talk = start; pending = pending })
Talking-new start pending bytes begun out = record {
  answers = [];
  told = [];
  waiting = [];
  split = refl;
  each = tt;
  gained = gained_nothing start.seat start.seat refl;
  out = Appends-none start.sink.contents;
  given = Appends-none start.sink.given;
  faults = refl;
  gathered = bytes;
  begun_is = begun;
  out_is = out;
  called = GateCalled-none start.seat.who start.calls;
}

-- a line was begun, and this is its answer
pub Talking-begun : (who : ℕ) (start : Talk) (heard : List Line) (seat after : SeatView) (line : Line) (answer : LineAnswer) (sink : SinkView) (calls calls' : Option (List GateCall)) (pending pending' : PendingView) (number : ℕ)
    → start.seat.who ≡ who → IsAnswerTo line answer → after ≡ with_all seat (receipt_in answer)
    → Adds calls calls' (Before who number ∷ []) → number ≡ pending.begun + 1 → pending'.bytes ≡ pending.bytes → pending'.begun ≡ pending.begun + 1 → pending'.out ≡ pending.out
    → Talking start heard [] 0 (spot seat sink calls pending) → Talking start (heard ++ line ∷ []) (answer ∷ []) 0 (spot after sink calls' pending')
Talking-begun who start heard seat after line answer sink calls calls' pending pending' number is to_line gained added number_is bytes begun out t = record {
  answers = t.answers ++ answer ∷ [];
  told = t.told;
  waiting = t.waiting;
  split = ap (λ (l : List LineAnswer). l ++ answer ∷ []) (t.split ∙ append-nil (t.told ++ t.waiting));
  each = AreAnswers-append heard (line ∷ []) t.answers (answer ∷ []) t.each (to_line, tt);
  gained = gained_more start.seat seat after t.answers answer t.gained gained;
  out = t.out;
  given = t.given;
  faults = t.faults;
  gathered = bytes ∙ t.gathered;
  begun_is = omega (arith, begun, t.begun_is, length_push t.answers answer);
  out_is = out ∙ t.out_is;
  called = GateCalled-begun start.seat.who start.calls calls calls' number (length t.answers) (length (t.answers ++ answer ∷ [])) (length t.told) t.called
      (subst (λ (w : ℕ). Adds calls calls' (Before w number ∷ [])) (sym is) added) (omega (arith, number_is, t.begun_is)) (length_push t.answers answer);
}

-- a text was gathered
pub Talking-gathered : (start : Talk) (heard : List Line) (seat : SeatView) (answer : LineAnswer) (line : List ℕ) (sink : SinkView) (calls : Option (List GateCall)) (pending pending' : PendingView)
    → text answer ≡ line → pending'.bytes ≡ pending.bytes ++ line → pending'.begun ≡ pending.begun → pending'.out ≡ pending.out
    → Talking start heard (answer ∷ []) 0 (spot seat sink calls pending) → Talking start heard [] 0 (spot seat sink calls pending')
Talking-gathered start heard seat answer line sink calls pending pending' says bytes begun out t = record {
  answers = t.answers;
  told = t.told;
  waiting = t.waiting ++ answer ∷ [];
  split = t.split ∙ append_assoc t.told t.waiting (answer ∷ []) ∙ sym (append-nil (t.told ++ (t.waiting ++ answer ∷ [])));
  each = t.each;
  gained = t.gained;
  out = t.out;
  given = t.given;
  faults = t.faults;
  gathered = bytes ∙ ap (λ (bs : List ℕ). bs ++ line) t.gathered ∙ ap (λ (bs : List ℕ). texts t.waiting ++ bs) (sym says) ∙ sym (texts_push t.waiting answer);
  begun_is = begun ∙ t.begun_is;
  out_is = out ∙ t.out_is;
  called = t.called;
}

-- these bytes were taken behind those
taken : (old between new : Option (List ℕ)) (xs ys : List LineAnswer) (bytes : List ℕ) → Appends old between (texts xs) → Appends between new bytes → bytes ≡ texts ys → Appends old new (texts (xs ++ ys))
taken old between new xs ys bytes one two is =
    subst (λ (bs : List ℕ). Appends old new bs) (ap (λ (bs : List ℕ). texts xs ++ bs) is ∙ sym (texts_append xs ys)) (Appends-append old between new (texts xs) bytes one two)

-- all that was gathered is written
pub Talking-flushed : (who upto : ℕ) (start : Talk) (heard : List Line) (unsaid : List LineAnswer) (seat : SeatView) (sink sink' : SinkView) (calls calls' : Option (List GateCall)) (pending pending' : PendingView)
    → start.seat.who ≡ who → upto + length unsaid ≡ pending.begun
    → Appends sink.contents sink'.contents pending.bytes → Appends sink.given sink'.given pending.bytes → sink'.faults ≡ sink.faults → AreOut who pending.out upto calls calls'
    → pending'.bytes ≡ [] → pending'.begun ≡ pending.begun → pending'.out ≡ upto
    → Talking start heard unsaid 0 (spot seat sink calls pending) → Talking start heard unsaid (length unsaid) (spot seat sink' calls' pending')
Talking-flushed who upto start heard unsaid seat sink sink' calls calls' pending pending' is all contents given faults outs bytes begun out t =
    let sum : length t.answers ≡ length (t.told ++ t.waiting) + length unsaid = ap length t.split ∙ length-append (t.told ++ t.waiting) unsaid in
    let reached : upto ≡ length (t.told ++ t.waiting) = omega (arith, sum, all, t.begun_is) in
    record {
      answers = t.answers;
      told = t.told ++ t.waiting;
      waiting = [];
      split = t.split ∙ ap (λ (l : List LineAnswer). l ++ unsaid) (sym (append-nil (t.told ++ t.waiting)));
      each = t.each;
      gained = t.gained;
      out = taken start.sink.contents sink.contents sink'.contents t.told t.waiting pending.bytes t.out contents t.gathered;
      given = taken start.sink.given sink.given sink'.given t.told t.waiting pending.bytes t.given given t.gathered;
      faults = faults ∙ t.faults;
      gathered = bytes;
      begun_is = begun ∙ t.begun_is;
      out_is = out ∙ reached;
      called = GateCalled-out start.seat.who start.calls calls calls' pending.out upto (length t.answers) (length t.told) (length (t.told ++ t.waiting)) 0 (length unsaid) t.called
          (subst (λ (w : ℕ). AreOut w pending.out upto calls calls') (sym is) outs) t.out_is reached (sym sum);
    }

-- nothing waits, and a text was written by itself
pub Talking-alone : (who : ℕ) (start : Talk) (heard : List Line) (seat : SeatView) (answer : LineAnswer) (line : List ℕ) (sink sink' : SinkView) (calls calls' : Option (List GateCall)) (pending pending' : PendingView)
    → start.seat.who ≡ who → text answer ≡ line → pending.bytes ≡ []
    → Appends sink.contents sink'.contents line → Appends sink.given sink'.given line → sink'.faults ≡ sink.faults → AreOut who pending.out pending.begun calls calls'
    → pending'.bytes ≡ [] → pending'.begun ≡ pending.begun → pending'.out ≡ pending.begun
    → Talking start heard (answer ∷ []) 1 (spot seat sink calls pending) → Talking start heard [] 0 (spot seat sink' calls' pending')
Talking-alone who start heard seat answer line sink sink' calls calls' pending pending' is says none contents given faults outs bytes begun out t =
    let nothing : texts (t.told ++ t.waiting) ≡ texts t.told = texts_append t.told t.waiting ∙ ap (λ (bs : List ℕ). texts t.told ++ bs) (sym t.gathered ∙ none) ∙ append-nil (texts t.told) in
    let one : line ≡ texts (answer ∷ []) = sym says ∙ sym (append-nil (text answer)) in
    record {
      answers = t.answers;
      told = (t.told ++ t.waiting) ++ answer ∷ [];
      waiting = [];
      split = t.split ∙ sym (append-nil ((t.told ++ t.waiting) ++ answer ∷ [])) ∙ sym (append-nil (((t.told ++ t.waiting) ++ answer ∷ []) ++ []));
      each = t.each;
      gained = t.gained;
      out = taken start.sink.contents sink.contents sink'.contents (t.told ++ t.waiting) (answer ∷ []) line (subst (λ (bs : List ℕ). Appends start.sink.contents sink.contents bs) (sym nothing) t.out) contents one;
      given = taken start.sink.given sink.given sink'.given (t.told ++ t.waiting) (answer ∷ []) line (subst (λ (bs : List ℕ). Appends start.sink.given sink.given bs) (sym nothing) t.given) given one;
      faults = faults ∙ t.faults;
      gathered = bytes;
      begun_is = begun ∙ t.begun_is;
      out_is = out ∙ t.begun_is ∙ ap length t.split;
      called = GateCalled-out start.seat.who start.calls calls calls' pending.out pending.begun (length t.answers) (length t.told) (length ((t.told ++ t.waiting) ++ answer ∷ [])) 1 0 t.called
          (subst (λ (w : ℕ). AreOut w pending.out pending.begun calls calls') (sym is) outs) t.out_is (t.begun_is ∙ ap length t.split) (omega (arith, ap length t.split));
    }

-- ---- a write has failed

-- It was given all that was gathered.
pub Talking-lost : (start : Talk) (heard : List Line) (unsaid : List LineAnswer) (seat : SeatView) (sink sink' : SinkView) (calls : Option (List GateCall)) (pending : PendingView)
    → HasNoRoom pending.bytes unsaid → (front : List ℕ) × IsFront front pending.bytes × Appends sink.contents sink'.contents front → Appends sink.given sink'.given pending.bytes
    → sink'.faults ≡ sink.faults + 1
    → Talking start heard unsaid 0 (spot seat sink calls pending) → BreaksOff heard start (record { seat = seat; sink = sink'; calls = calls })
Talking-lost start heard unsaid seat sink sink' calls pending room says given faults t = record {
  heard = heard;
  rest = [];
  lines_are = sym (append-nil heard);
  told = t.told;
  lost = t.waiting;
  unsaid = unsaid;
  no_room = subst (λ (bs : List ℕ). HasNoRoom bs unsaid) t.gathered room;
  each = subst (λ (l : List LineAnswer). AreAnswers heard l) t.split t.each;
  gained = t.gained ∙ ap (λ (l : List LineAnswer). with_all start.seat (receipts_in l)) t.split;
  front = says.0;
  is_front = subst (λ (bs : List ℕ). IsFront says.0 bs) t.gathered says.1;
  out = Appends-append start.sink.contents sink.contents sink'.contents (texts t.told) says.0 t.out says.2;
  given = taken start.sink.given sink.given sink'.given t.told t.waiting pending.bytes t.given given t.gathered;
  faults = omega (arith, faults, t.faults);
  called = GateCalled-same start.seat.who start.calls calls (length t.answers) (length ((t.told ++ t.waiting) ++ unsaid)) (length t.told) (length t.told) 1
      (GateCalled-weak start.seat.who start.calls calls (length t.answers) (length t.told) 0 1 (omega arith) t.called) (ap length t.split) refl;
}

-- It was given a text by itself, where nothing waits.
pub Talking-lost_alone : (start : Talk) (heard : List Line) (seat : SeatView) (answer : LineAnswer) (line : List ℕ) (sink sink' : SinkView) (calls : Option (List GateCall)) (pending : PendingView)
    → text answer ≡ line → pending.bytes ≡ [] → pending.out + 1 ≡ pending.begun
    → (front : List ℕ) × IsFront front line × Appends sink.contents sink'.contents front → Appends sink.given sink'.given line → sink'.faults ≡ sink.faults + 1
    → Talking start heard (answer ∷ []) 1 (spot seat sink calls pending) → BreaksOff heard start (record { seat = seat; sink = sink'; calls = calls })
Talking-lost_alone start heard seat answer line sink sink' calls pending says none counts fails given faults t =
    let sum : length t.answers ≡ length (t.told ++ t.waiting) + 1 = ap length t.split ∙ length_push (t.told ++ t.waiting) answer in
    let nobody : t.waiting ≡ [] = no_answers t.waiting (omega (arith, sum, length-append t.told t.waiting, counts, t.begun_is, t.out_is)) in
    let split : t.answers ≡ (t.told ++ answer ∷ []) ++ [] =
    t.split ∙ ap (λ (l : List LineAnswer). (t.told ++ l) ++ answer ∷ []) nobody ∙ ap (λ (l : List LineAnswer). l ++ answer ∷ []) (append-nil t.told) ∙ sym (append-nil (t.told ++ answer ∷ [])) in
    let one : line ≡ texts (answer ∷ []) = sym says ∙ sym (append-nil (text answer)) in
    record {
      heard = heard;
      rest = [];
      lines_are = sym (append-nil heard);
      told = t.told;
      lost = answer ∷ [];
      unsaid = [];
      no_room = tt;
      each = subst (λ (l : List LineAnswer). AreAnswers heard l) split t.each;
      gained = t.gained ∙ ap (λ (l : List LineAnswer). with_all start.seat (receipts_in l)) split;
      front = fails.0;
      is_front = subst (λ (bs : List ℕ). IsFront fails.0 bs) one fails.1;
      out = Appends-append start.sink.contents sink.contents sink'.contents (texts t.told) fails.0 t.out fails.2;
      given = taken start.sink.given sink.given sink'.given t.told (answer ∷ []) line t.given given one;
      faults = omega (arith, faults, t.faults);
      called = GateCalled-same start.seat.who start.calls calls (length t.answers) (length ((t.told ++ answer ∷ []) ++ [])) (length t.told) (length t.told) 1 t.called (ap length split) refl;
    }

-- lines that nobody came to
pub BreaksOff-more : (xs ys : List Line) (old new : Talk) → BreaksOff xs old new → BreaksOff (xs ++ ys) old new
BreaksOff-more xs ys old new off = record {
  heard = off.heard;
  rest = off.rest ++ ys;
  lines_are = ap (λ (ls : List Line). ls ++ ys) off.lines_are ∙ append_assoc off.heard off.rest ys;
  told = off.told;
  lost = off.lost;
  unsaid = off.unsaid;
  no_room = off.no_room;
  each = off.each;
  gained = off.gained;
  front = off.front;
  is_front = off.is_front;
  out = off.out;
  given = off.given;
  faults = off.faults;
  called = off.called;
}

-- ---- all is written

pub Talks-of : (heard : List Line) (start : Talk) (now : Spot) → now.pending.out ≡ now.pending.begun → Talking start heard [] 0 now → Talks heard start now.talk
Talks-of heard start now all t =
    let sum : length t.answers ≡ length (t.told ++ t.waiting) + 0 = ap length t.split ∙ length-append (t.told ++ t.waiting) [] in
    let nobody : t.waiting ≡ [] = no_answers t.waiting (omega (arith, sum, length-append t.told t.waiting, all, t.begun_is, t.out_is)) in
    let same : t.told ≡ t.answers =
    sym (t.split ∙ append-nil (t.told ++ t.waiting) ∙ ap (λ (l : List LineAnswer). t.told ++ l) nobody ∙ append-nil t.told) in
    record {
      answers = t.answers;
      each = t.each;
      gained = t.gained;
      out = subst (λ (l : List LineAnswer). Appends start.sink.contents now.talk.sink.contents (texts l)) same t.out;
      given = subst (λ (l : List LineAnswer). Appends start.sink.given now.talk.sink.given (texts l)) same t.given;
      faults = t.faults;
      called = GateCalled-same start.seat.who start.calls now.talk.calls (length t.answers) (length t.answers) (length t.told) (length t.answers) 0 t.called refl (ap length same);
    }
