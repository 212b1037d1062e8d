-- What comes of each kind of request.
use Rattle.std.proofs.Common.{◌≡◌, ◌≢◌, ◌∙◌, ℕ, ◌-◌, ◌<◌, ◌≤◌, inl, inr, true, false, arith, cond, length, refl, ap, subst, sym}
use Rattle.std.specs.Prelude.{Bool, IsTrue, nat_le, Option, None, Some, Result, Ok, Err, IfErr, IfOk, IsErr, IsErrOf, IsOk, OnErr, OnOk, ◌↔◌}
use Rattle.std.proofs.lemmas.Bool.{cases_lt, false≢true, le-leb, lt-leb}
use Rattle.rd_app.specs.Application.{Application}
use Rattle.rd_bytes.specs.declared.no_memory.NoMemory.{NoMemory as NoMemoryError}
use Rattle.rd_refusal.specs.declared.refusal.Refusal.{Refusal}
use Rattle.rd_refusal.specs.declared.refusal.Refusal.TheVariants.{MovesFull, NoMemory, NothingUndone, TooFar}
use Rattle.rd_state.specs.Snapshot.{Snapshot}
use Rattle.rd_condition.specs.declared.condition.Condition.{Condition}
use Rattle.rd_moves.specs.Moves.{PlainMove}
use Rattle.rd_moves.specs.Requests.{PlainRequest}
use Rattle.rd_moves.specs.declared.answer.Answer.{Answer}
use Rattle.rd_moves.specs.declared.answer.Answer.TheVariants.{Refused}
use Rattle.rd_moves.specs.declared.answer.SearchEnd.TheVariants.{Met, Limit}
use Rattle.rd_moves.specs.declared.request.Request.TheVariants.{Go, Back, Forward, Redo, Until}
use Rattle.rd_timeline.specs.Answers.{Obeys, answer_at, answer_of}
use Rattle.rd_timeline.specs.Course.{Course, HasGrown, IsAsItWas, IsFull, IsWhyNot, Capacity}
use Rattle.rd_timeline.specs.History.{state_after}
use Rattle.rd_calls.specs.Step.{move_answer, step}
use Rattle.rd_timeline.specs.Redoing.{IsWhyNoRedo}
use Rattle.rd_timeline.specs.Running.{IsWhyNoRun, run_from}
use Rattle.rd_timeline.specs.Runs.{Ending, Plain, ended, ending_of, moved, state_of}
use Rattle.rd_timeline.specs.Runs.{Moves, Leaves, Refuses, Lays, ByPolicy, back_at, can_lay, end_of, go_response, kept, lays, makes_move, moved_on, moves_after, moves_of, redone, response_to, run_of, run_response}
use Rattle.rd_timeline.proofs.RunsLaws.{moved_there, run_needs_memory, target_given, why_not_moved}

-- ---- what comes of a request

-- A request was done: these are the moves that it leaves, and where it was a search, this is how that came to its end.
pub record IsRequestDone (old : Course) (request : PlainRequest) (new : Course) (end : Ending) : Type 0 where
  pub comes : response_to old.app old.limit (moves_of old) request ≡ Leaves (moves_of new) end
  pub grows : HasGrown old.room new.room
  pub app : new.app ≡ old.app
  pub limit : new.limit ≡ old.limit
  pub leads : state_after new.app new.done ≡ Ok new.target

-- It is refused, for another cause than memory.
abbrev pub IsRefusedAs : Course → PlainRequest → Refusal → Type 0
IsRefusedAs old request refusal = response_to old.app old.limit (moves_of old) request ≡ Refuses refusal

leads_as_before : (old new : Course) → IsAsItWas old new → state_after old.app old.done ≡ Ok old.target → state_after new.app new.done ≡ Ok new.target
leads_as_before old new same leads = subst (λ (course : Course). state_after course.app course.done ≡ Ok course.target) (sym same) leads

pub as_it_was : (old new : Course) → new ≡ old → IsAsItWas old new
as_it_was old new same = same ∙ ap (λ (room : Capacity). record old { room = room }) (sym (ap (λ (course : Course). course.room) same))

-- What is told then, where no memory is needed.
pub obeyed : (old new : Course) (request : PlainRequest) (at : ℕ) (end : Ending) → at ≡ length new.done → IsRequestDone old request new end
    → Obeys old request new (Ok (answer_at at end))
obeyed old new request at end at_is is = record {
  ok = ap (λ n. answer_at n end) at_is ∙ sym (ap answer_of is.comes);
  moves = sym (ap (moves_after (moves_of old)) is.comes);
  no_memory = tt;
  err = tt;
  grows = is.grows;
  app = is.app;
  limit = is.limit;
  leads = is.leads;
}

pub nothing_changed : (old new : Course) (request : PlainRequest) (refusal : Refusal) → IsRefusedAs old request refusal → IsAsItWas old new → HasGrown old.room new.room
    → state_after old.app old.done ≡ Ok old.target → Obeys old request new (Ok (Refused refusal))
nothing_changed old new request refusal refused same grows leads = record {
  ok = sym (ap answer_of refused);
  moves = ap moves_of same ∙ sym (ap (moves_after (moves_of old)) refused);
  no_memory = tt;
  err = tt;
  grows = grows;
  app = ap (λ (course : Course). course.app) same;
  limit = ap (λ (course : Course). course.limit) same;
  leads = leads_as_before old new same leads;
}

-- What follows where a request is made, where it is refused for another cause than memory, and where memory ran out, holds of what is told.
pub obeyed_if : {T : Type 0} (old new : Course) (request : PlainRequest) (made : Result T Refusal) (result : Result Answer NoMemoryError) (at : T → ℕ)
    (end : T → Ending) (Made : T → Type 0) (Why : Refusal → Type 0) → (IsErr result ↔ IsErrOf made NoMemory)
    → IfOk made (λ x. result ≡ Ok (answer_at (at x) (end x))) → IfErr made (λ refusal. refusal ≢ NoMemory → result ≡ Ok (Refused refusal))
    → IfOk made (λ x. at x ≡ length new.done) → IfOk made Made → IfErr made Why → OnErr made (IsAsItWas old new) → HasGrown old.room new.room
    → state_after old.app old.done ≡ Ok old.target → ((x : T) → Made x → IsRequestDone old request new (end x))
    → ((refusal : Refusal) → refusal ≢ NoMemory → Why refusal → IsRefusedAs old request refusal)
    → (Why NoMemory → IsTrue (makes_move old.app old.limit (moves_of old) request)) → Obeys old request new result
obeyed_if old new request (Ok x) result at end Made Why lacks tells says at_is ok why same grows leads follows refused needs =
    subst (λ (r : Result Answer NoMemoryError). Obeys old request new r) (sym tells) (obeyed old new request (at x) (end x) at_is (follows x ok))
obeyed_if old new request (Err refusal) (Ok answer) at end Made Why lacks tells says at_is ok why same grows leads follows refused needs =
    let other : refusal ≢ NoMemory = λ is. false≢true (lacks.1 (ap (λ (r : Refusal). Err r) is)) in
    subst (λ (r : Result Answer NoMemoryError). Obeys old request new r) (sym (says other))
    (nothing_changed old new request refusal (refused refusal other why) same grows leads)
obeyed_if {T} old new request (Err refusal) (Err error) at end Made Why lacks tells says at_is ok why same grows leads follows refused needs = record {
  ok = tt;
  moves = tt;
  no_memory = needs (subst (λ (r : Result T Refusal). IfErr r Why) (lacks.0 refl) why);
  err = same;
  grows = grows;
  app = ap (λ (course : Course). course.app) same;
  limit = ap (λ (course : Course). course.limit) same;
  leads = leads_as_before old new same leads;
}

-- the moves that are left are those of the course
left : (moves : Moves) (end : Ending) (new : Course) → moves_of new ≡ moves → Leaves moves end ≡ Leaves (moves_of new) end
left moves end new is = ap (λ (ms : Moves). Leaves ms end) (sym is)

-- as many moves have a record as there are records
pub kept_is : (course : Course) → length course.log ≤ length course.done → kept (moves_of course) ≡ length course.log
kept_is course fewer = omega (arith, fewer)

-- ---- one move

-- what is known of a move that was made
pub record IsMade (old : Course) (move : PlainMove) (new : Course) : Type 0 where
  pub has_room : length old.done ≢ old.limit
  pub moves : moves_of new ≡ moved_on (moves_of old) move
  pub step : step old.app old.target move ≡ Ok new.target
  pub app : new.app ≡ old.app
  pub limit : new.limit ≡ old.limit
  pub leads : state_after new.app new.done ≡ Ok new.target

pub is_made : (old : Course) (move : PlainMove) (new : Course) (made : Result ℕ Refusal) → (IsErrOf made MovesFull ↔ IsFull old)
    → OnOk made (moves_of new ≡ moved_on (moves_of old) move) → OnOk made (step old.app old.target move ≡ Ok new.target)
    → OnOk made (new.app ≡ old.app) → OnOk made (new.limit ≡ old.limit) → OnOk made (state_after new.app new.done ≡ Ok new.target)
    → OnOk made (IsMade old move new)
is_made old move new (Ok at) full moves steps app limit leads = record {
  has_room = λ is. let none : Ok at ≡ Err MovesFull = full.1 is in absurd cc;
  moves = moves;
  step = steps;
  app = app;
  limit = limit;
  leads = leads;
}
is_made old move new (Err refusal) full moves steps app limit leads = tt

-- how a move ends, made from there
abbrev pub move_end : Course → PlainMove → Ending
move_end old move = ending_of (move_answer old.target move)

-- the target is the state that the moves give
end_given : (old : Course) (move : PlainMove) → state_after old.app old.done ≡ Ok old.target
    → ending_of (move_answer (state_of old.app (moves_of old)) move) ≡ move_end old move
end_given old move leads = ap (λ (s : Snapshot). ending_of (move_answer s move)) (target_given old leads)

pub go_done : (old new : Course) (move : PlainMove) → state_after old.app old.done ≡ Ok old.target → HasGrown old.room new.room → IsMade old move new
    → IsRequestDone old (Go move) new (move_end old move)
go_done old new move leads grows made = record {
  comes =
      ap (λ (end : Ending). go_response (moves_of old) move end (moved old.app old.limit (moves_of old) move)) (end_given old move leads)
      ∙ ap (go_response (moves_of old) move (move_end old move)) (moved_there old move new.target leads made.has_room made.step)
      ∙ left (moved_on (moves_of old) move) (move_end old move) new made.moves;
  grows = grows;
  app = made.app;
  limit = made.limit;
  leads = made.leads;
}

pub go_not_done : (old : Course) (move : PlainMove) (refusal : Refusal) → state_after old.app old.done ≡ Ok old.target → refusal ≢ NoMemory
    → IsWhyNot old move refusal → IsRefusedAs old (Go move) refusal
go_not_done old move refusal leads other why = elim (why_not_moved old move refusal leads why) [
  | inl refused ↦ ap (go_response (moves_of old) move (ending_of (move_answer (state_of old.app (moves_of old)) move))) refused
  | inr lacks ↦ absurd (other lacks.1)
]

-- ---- back, and on again

-- what comes of a request for moves that are there, or not
of_some : (moves : Moves) (refusal : Refusal) (some b : Bool) → some ≡ b
    → cond some (Leaves moves Plain) (Refuses refusal) ≡ cond b (Leaves moves Plain) (Refuses refusal)
of_some moves refusal some b is = ap (λ s. cond s (Leaves moves Plain) (Refuses refusal)) is

pub back_done : (old new : Course) (count : ℕ) → length old.log ≤ length old.done → count ≤ length old.log
    → moves_of new ≡ back_at (moves_of old) (length old.done - count) → HasGrown old.room new.room → new.app ≡ old.app → new.limit ≡ old.limit
    → state_after new.app new.done ≡ Ok new.target → IsRequestDone old (Back count) new Plain
back_done old new count fewer some moves grows app limit leads =
    let after = back_at (moves_of old) (length old.done - count) in
    record {
      comes =
          of_some after (TooFar (kept (moves_of old))) (nat_le count (kept (moves_of old))) true (le-leb count (kept (moves_of old)) (omega (arith, some, fewer)))
          ∙ left after Plain new moves;
      grows = grows;
      app = app;
      limit = limit;
      leads = leads;
    }

pub back_not_done : (old : Course) (count : ℕ) (refusal : Refusal) → length old.log ≤ length old.done → length old.log < count
    → refusal ≡ TooFar (length old.log) → IsRefusedAs old (Back count) refusal
back_not_done old count refusal within fewer is =
    of_some (back_at (moves_of old) (length old.done - count)) (TooFar (kept (moves_of old))) (nat_le count (kept (moves_of old))) false
    (lt-leb count (kept (moves_of old)) (omega (arith, fewer, within)))
    ∙ ap (λ n. Refuses (TooFar n)) (kept_is old within) ∙ ap Refuses (sym is)

-- There were fewer kept moves, so that they couldn't be taken back.
pub too_few : {T : Type 0} (made : Result T Refusal) (count done : ℕ) → (IsOk made ↔ (count ≤ done)) → OnErr made (done < count)
too_few (Ok x) count done iff = tt
too_few (Err refusal) count done iff = elim (cases_lt done count) [
  | inl fewer ↦ fewer
  | inr there ↦ absurd (false≢true (iff.1 there))
]

pub redo_done : (old new : Course) (count : ℕ) → count ≤ length old.undone → moves_of new ≡ redone (moves_of old) count → HasGrown old.room new.room
    → new.app ≡ old.app → new.limit ≡ old.limit → state_after new.app new.done ≡ Ok new.target → IsRequestDone old (Redo count) new Plain
redo_done old new count some moves grows app limit leads =
    let after = redone (moves_of old) count in
    record {
      comes =
          of_some after NothingUndone (nat_le count (length old.undone)) true (le-leb count (length old.undone) some) ∙ left after Plain new moves;
      grows = grows;
      app = app;
      limit = limit;
      leads = leads;
    }

-- what is known of moves that were made again
pub record AreRedone (old : Course) (count : ℕ) (new : Course) : Type 0 where
  pub some : count ≤ length old.undone
  pub moves : moves_of new ≡ redone (moves_of old) count
  pub app : new.app ≡ old.app
  pub limit : new.limit ≡ old.limit

pub are_redone : (old : Course) (count : ℕ) (new : Course) (made : Result ℕ Refusal) → (IsErrOf made NothingUndone ↔ (length old.undone < count))
    → OnOk made (moves_of new ≡ redone (moves_of old) count) → OnOk made (new.app ≡ old.app) → OnOk made (new.limit ≡ old.limit)
    → OnOk made (AreRedone old count new)
are_redone old count new (Ok at) fewer moves app limit = record {
  some = elim (cases_lt (length old.undone) count) [
    | inl less ↦ let none : Ok at ≡ Err NothingUndone = fewer.1 less in absurd cc
    | inr there ↦ there
  ];
  moves = moves;
  app = app;
  limit = limit;
}
are_redone old count new (Err refusal) fewer moves app limit = tt

pub redo_not_done : (old : Course) (count : ℕ) (refusal : Refusal) → refusal ≢ NoMemory → IsWhyNoRedo old count refusal → IsRefusedAs old (Redo count) refusal
redo_not_done old count refusal other why = elim why [
  | inl fewer ↦
      of_some (redone (moves_of old) count) NothingUndone (nat_le count (length old.undone)) false (lt-leb count (length old.undone) fewer.0)
      ∙ ap Refuses (sym fewer.1)
  | inr lacks ↦ absurd (other lacks.1)
]

-- ---- runs by policy

-- the request for a run to a goal, if it has one
abbrev pub run_request : Option Condition → ℕ → PlainRequest
run_request None count = Forward count
run_request (Some condition) count = Until condition count

run_comes : (app : Application) (limit : ℕ) (moves : Moves) (goal : Option Condition) (count : ℕ)
    → response_to app limit moves (run_request goal count) ≡ run_response goal (run_of app limit goal moves count)
run_comes app limit moves None count = refl
run_comes app limit moves (Some condition) count = refl

run_lays : (goal : Option Condition) (count : ℕ) → lays (run_request goal count) ≡ ByPolicy
run_lays None count = refl
run_lays (Some condition) count = refl

-- how a run to a goal came to its end
abbrev run_end : Option Condition → Bool → Ending
run_end goal met = end_of goal (cond met Met Limit)

run_ended : (goal : Option Condition) (met : Bool) (moves : Moves) → run_response goal (ended met moves) ≡ Leaves moves (run_end goal met)
run_ended goal true moves = refl
run_ended goal false moves = refl

run_not_done : (old : Course) (goal : Option Condition) (count : ℕ) (refusal : Refusal) → refusal ≢ NoMemory → IsWhyNoRun old goal count refusal
    → IsRefusedAs old (run_request goal count) refusal
run_not_done old goal count refusal other why = elim why [
  | inl refused ↦ run_comes old.app old.limit (moves_of old) goal count ∙ ap (run_response goal) refused
  | inr lacks ↦ absurd (other lacks.1)
]

pub run_obeyed : {T : Type 0} (old new : Course) (goal : Option Condition) (count : ℕ) (made : Result T Refusal) (result : Result Answer NoMemoryError)
    (at : T → ℕ) (met : T → Bool) → (IsErr result ↔ IsErrOf made NoMemory) → IfOk made (λ x. result ≡ Ok (answer_at (at x) (run_end goal (met x))))
    → IfErr made (λ refusal. refusal ≢ NoMemory → result ≡ Ok (Refused refusal)) → IfOk made (λ x. at x ≡ length new.done)
    → IfOk made (λ x. run_from old goal count ≡ ended (met x) (moves_of new)) → IfErr made (IsWhyNoRun old goal count) → OnErr made (IsAsItWas old new)
    → HasGrown old.room new.room → state_after old.app old.done ≡ Ok old.target → new.app ≡ old.app → new.limit ≡ old.limit
    → state_after new.app new.done ≡ Ok new.target → Obeys old (run_request goal count) new result
run_obeyed old new goal count made result at met lacks tells says at_is ends why same grows before app limit leads =
    obeyed_if old new (run_request goal count) made result at (λ x. run_end goal (met x)) (λ x. run_from old goal count ≡ ended (met x) (moves_of new))
    (IsWhyNoRun old goal count) lacks tells says at_is ends why same grows before
    (λ x is. record {
      comes =
          run_comes old.app old.limit (moves_of old) goal count ∙ ap (run_response goal) is ∙ run_ended goal (met x) (moves_of new);
      grows = grows;
      app = app;
      limit = limit;
      leads = leads;
    })
    (λ refusal other cause. run_not_done old goal count refusal other cause)
    (λ lack. subst (λ (l : Lays). IsTrue (can_lay old.app old.limit (moves_of old) l)) (sym (run_lays goal count)) (run_needs_memory old goal count lack))
