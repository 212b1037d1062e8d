-- A line that is begun, answered, and out.
use Rattle.std.proofs.Common.{◌≡◌, ◌∙◌, ℕ, ◌+◌, ◌<◌, List, [], ◌∷◌, ◌++◌, length, refl, ap, subst, sym, arith}
use Rattle.std.specs.Prelude.{Option, Some, Result, Ok, Err, OnErr, OnOk}
use Rattle.rd_hall.specs.SeatView.{SeatView}
use Rattle.rd_session.specs.BuffersView.{PendingView}
use Rattle.rd_session.specs.Calls.{Adds, Before, GateCall}
use Rattle.rd_session.specs.Lines.{Line, Whole, Long, last_of}
use Rattle.rd_session.specs.Replies.{TooLong, text}
use Rattle.std.proofs.lemmas.List.{append-nil}
use Rattle.rd_session.specs.Answers.{Talk, Talks}
use Rattle.rd_session.specs.Gathering.{Answered, Begins, BreaksAmid, GoesOn, HearsMore, IsFlushed, IsLost, IsSaid, IsUnsaid, SaysAll, Spot, spot, with_seat}
use Rattle.rd_session.proofs.GatheringLaws.{Answers, BreaksOff-more, Talking-begun, Talking-gathered, Talks-of, answer_long}
use Rattle.rd_session.proofs.LineLaws.{last_line}

-- ---- where a call succeeds, and where it fails

pub on_ok : {T E A B : Type 0} (result : Result T E) → (A → B) → OnOk result A → OnOk result B
on_ok (Ok done) f a = f a
on_ok (Err fault) f a = tt

pub on_both : {T E A B C : Type 0} (result : Result T E) → (A → B → C) → OnOk result A → OnOk result B → OnOk result C
on_both (Ok done) f a b = f a b
on_both (Err fault) f a b = tt

pub on_err : {T E A B : Type 0} (result : Result T E) → (A → B) → OnErr result A → OnErr result B
on_err (Ok done) f a = tt
on_err (Err fault) f a = f a

-- ---- one line

-- its answer was told
pub Answered-told : {T E : Type 0} (line : Line) (said : List ℕ) (old new : Spot) (seat : SeatView) (result : Result T E)
    → new.talk.seat ≡ seat → Answers line old.talk.seat seat said
    → OnOk result (IsSaid said (with_seat old seat) new) → OnErr result (IsUnsaid said (with_seat old seat) new.talk)
    → Answered line old new result
Answered-told line said old new seat result is a ok err =
    let told = subst (λ (bs : List ℕ). OnOk result (IsSaid bs (with_seat old seat) new)) (sym a.says) ok in
    let fails = subst (λ (bs : List ℕ). OnErr result (IsUnsaid bs (with_seat old seat) new.talk)) (sym a.says) err in
    record {
      answer = a.answer;
      to_line = a.to_line;
      gained = is ∙ a.gained;
      said = subst (λ (s : SeatView). OnOk result (IsSaid (text a.answer) (with_seat old s) new)) (sym is) told;
      unsaid = subst (λ (s : SeatView). OnErr result (IsUnsaid (text a.answer) (with_seat old s) new.talk)) (sym is) fails;
    }

-- its answer was gathered
pub Answered-gathered : {T E : Type 0} (line : Line) (said : List ℕ) (old : Spot) (seat : SeatView) (pending : PendingView) (done : T)
    → Answers line old.talk.seat seat said → pending.bytes ≡ old.pending.bytes ++ said → pending.begun ≡ old.pending.begun → pending.out ≡ old.pending.out
    → Answered {T = T} {E = E} line old (spot seat old.talk.sink old.talk.calls pending) (Ok done)
Answered-gathered line said old seat pending done a bytes begun out = record {
  answer = a.answer;
  to_line = a.to_line;
  gained = a.gained;
  said = λ start heard answer is says t.
      Talking-gathered start heard seat answer said old.talk.sink old.talk.calls old.pending pending (says ∙ a.says) bytes begun out t;
  unsaid = tt;
}

-- there was room for its answer, and the gate was called
pub Begins-of : (old mid : Spot) (calls : Option (List GateCall)) (pending : PendingView) (who number : ℕ)
    → GoesOn old mid → who ≡ old.talk.seat.who → pending ≡ record mid.pending { begun = mid.pending.begun + 1 } → number ≡ pending.begun → Adds mid.talk.calls calls (Before who number ∷ [])
    → Begins old (spot mid.talk.seat mid.talk.sink calls pending)
Begins-of old mid calls pending who number goes_on who_is is number_is added start heard after line answer same to_line gained t =
    Talking-begun who start heard mid.talk.seat after line answer mid.talk.sink mid.talk.calls calls mid.pending pending number (same ∙ sym who_is) to_line gained added
    (number_is ∙ ap (λ (q : PendingView). q.begun) is)
    (ap (λ (q : PendingView). q.bytes) is) (ap (λ (q : PendingView). q.begun) is) (ap (λ (q : PendingView). q.out) is)
    (goes_on start heard same t)

-- it was heard, or the sink failed
pub line_heard : {T E : Type 0} (line : Line) (old mid new : Spot) (result : Result T E) → mid.talk.seat.who ≡ old.talk.seat.who
    → Begins old mid → Answered line mid new result → OnOk result (HearsMore (line ∷ []) old new) × OnErr result (BreaksAmid (line ∷ []) old new.talk)
line_heard line old mid new (Ok done) same begins a = (
  λ start heard who t. a.said start (heard ++ line ∷ []) a.answer (who ∙ sym same ∙ sym (ap (λ (s : SeatView). s.who) a.gained)) refl
      (begins start heard new.talk.seat line a.answer who a.to_line a.gained t),
  tt,
)
line_heard line old mid new (Err fault) same begins a = (
  tt,
  λ start heard who t. a.unsaid start (heard ++ line ∷ []) a.answer (who ∙ sym same ∙ sym (ap (λ (s : SeatView). s.who) a.gained)) refl
      (begins start heard new.talk.seat line a.answer who a.to_line a.gained t),
)

-- it wasn't begun
pub line_lost : (line : Line) (old : Spot) (new : Talk) → IsLost old new → BreaksAmid (line ∷ []) old new
line_lost line old new lost start heard who t = BreaksOff-more heard (line ∷ []) start new (lost start heard [] who tt t)

-- one that is too long
pub long_heard : (old mid : Spot) (pending : PendingView)
    → Begins old mid → pending.bytes ≡ mid.pending.bytes ++ text TooLong → pending.begun ≡ mid.pending.begun → pending.out ≡ mid.pending.out
    → HearsMore (Long ∷ []) old (spot mid.talk.seat mid.talk.sink mid.talk.calls pending)
long_heard old mid pending begins bytes begun out start heard who t =
    let a = answer_long mid.talk.seat in
    Talking-gathered start (heard ++ Long ∷ []) mid.talk.seat a.answer (text TooLong) mid.talk.sink mid.talk.calls mid.pending pending a.says bytes begun out
    (begins start heard mid.talk.seat Long a.answer who a.to_line a.gained t)

-- ---- all answers are written

pub all_heard : (lines : List Line) (old mid new : Spot) → mid.talk.seat.who ≡ old.talk.seat.who → HearsMore lines old mid → IsFlushed mid.pending.begun mid new
    → HearsMore lines old new
all_heard lines old mid new same more flushed start heard who t =
    flushed start (heard ++ lines) [] (who ∙ sym same) (omega arith) (more start heard who t)

pub all_said : (lines : List Line) (old mid new : Spot) → mid.talk.seat.who ≡ old.talk.seat.who → HearsMore lines old mid → IsFlushed mid.pending.begun mid new
    → new.pending ≡ record mid.pending { bytes = []; out = mid.pending.begun } → SaysAll lines old new.talk
all_said lines old mid new same more flushed now start heard who t =
    Talks-of (heard ++ lines) start new (ap (λ (q : PendingView). q.out) now ∙ sym (ap (λ (q : PendingView). q.begun) now))
    (all_heard lines old mid new same more flushed start heard who t)

pub all_lost : (lines : List Line) (old mid : Spot) (new : Talk) → mid.talk.seat.who ≡ old.talk.seat.who → HearsMore lines old mid → IsLost mid new → BreaksAmid lines old new
all_lost lines old mid new same more lost start heard who t =
    lost start (heard ++ lines) [] (who ∙ sym same) tt (more start heard who t)

-- nothing was pending
pub nothing_said : (old : Spot) → old.pending.out ≡ old.pending.begun → SaysAll [] old old.talk
nothing_said old all start heard who t =
    subst (λ (ls : List Line). Talks ls start old.talk) (sym (append-nil heard)) (Talks-of heard start old all t)

-- what stands at the end of the input is a line
pub rest_said : (rest : List ℕ) (old : Spot) (new : Talk) → 0 < length rest → SaysAll (Whole rest ∷ []) old new → SaysAll (last_of (Some rest)) old new
rest_said rest old new some said = subst (λ (ls : List Line). SaysAll ls old new) (sym (last_line rest some)) said

pub rest_breaks : (rest : List ℕ) (old : Spot) (new : Talk) → 0 < length rest → BreaksAmid (Whole rest ∷ []) old new → BreaksAmid (last_of (Some rest)) old new
rest_breaks rest old new some off = subst (λ (ls : List Line). BreaksAmid ls old new) (sym (last_line rest some)) off
