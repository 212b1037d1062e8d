-- The moves of a course, after one more, back, and with fewer records.
use Rattle.std.proofs.Common.{◌≡◌, ◌∙◌, ℕ, ◌+◌, ◌-◌, ◌≤◌, List, [], ◌∷◌, ◌++◌, ap, arith, drop, length, refl, sym, take, ◌<◌}
use Rattle.std.proofs.Math.Seq.{take-add}
use Rattle.std.specs.Prelude.{Ok, slice_index_or}
use Rattle.std.proofs.lemmas.List.{append_assoc, drop-append-le, drop-drop, length-drop, length-take-le, length_push, take-append-drop, take-take}
use Rattle.rd_app.specs.Application.{Application}
use Rattle.rd_state.specs.Change.{Change}
use Rattle.rd_state.specs.Snapshot.{Snapshot}
use Rattle.rd_moves.specs.Moves.{PlainMove}
use Rattle.rd_moves.specs.declared.moves.Move.TheVariants.{Tick}
use Rattle.rd_timeline.specs.Course.{Course, IsAsItWas, base_of}
use Rattle.rd_timeline.specs.History.{state_after, state_or}
use Rattle.rd_timeline.specs.Runs.{Moves, back_at, moved_on, moves_of, redone, trimmed}

-- They are what is said of them.
pub moves_are : (course : Course) (moves : Moves) → course.done ≡ moves.done → course.undone ≡ moves.undone → base_of course ≡ moves.base
    → moves_of course ≡ moves
moves_are course moves done undone base =
    ap (λ (ms : List PlainMove). record (moves_of course) { done = ms }) done
    ∙ ap (λ (us : List PlainMove). record (moves_of course) { done = moves.done; undone = us }) undone
    ∙ ap (λ b. record moves { base = b }) base

pub on_moves : (old new : Course) (move : PlainMove) → new.done ≡ old.done ++ move ∷ [] → new.undone ≡ [] → length new.log ≡ length old.log + 1
    → moves_of new ≡ moved_on (moves_of old) move
on_moves old new move done undone records =
    moves_are new (moved_on (moves_of old) move) done undone (omega (arith, records, ap length done, length_push old.done move))

pub back_moves : (old new : Course) (count : ℕ) → length old.log ≤ length old.done → count ≤ length old.log → new.done ≡ take (length old.done - count) old.done
    → new.undone ≡ drop (length old.done - count) old.done ++ old.undone → new.log ≡ take (length old.log - count) old.log
    → moves_of new ≡ back_at (moves_of old) (length old.done - count)
back_moves old new count fewer some done undone log =
    moves_are new (back_at (moves_of old) (length old.done - count)) done undone
    (omega (
      arith,
      fewer,
      some,
      ap length done,
      length-take-le (length old.done - count) old.done (omega arith),
      ap length log,
      length-take-le (length old.log - count) old.log (omega arith),
    ))

-- Moves that are taken back behind others are taken back with these.
pub back_then : (moves : Moves) (m j : ℕ) → j ≤ m → m ≤ length moves.done → back_at (back_at moves m) j ≡ back_at moves j
back_then moves m j less within =
    let first = take m moves.done in
    let later = drop m moves.done in
    let rest : drop j first ++ later ≡ drop j moves.done =
    sym (drop-append-le j first later (omega (arith, length-take-le m moves.done within, less))) ∙ ap (drop j) (take-append-drop m moves.done) in
    ap (λ (ms : List PlainMove). record moves { done = ms; undone = drop j first ++ (later ++ moves.undone) }) (take-take j m moves.done less)
    ∙ ap (λ (us : List PlainMove). record moves { done = take j moves.done; undone = us })
    (sym (append_assoc (drop j first) later moves.undone) ∙ ap (λ (ms : List PlainMove). ms ++ moves.undone) rest)

-- The first of those undone is done again.
pub take_one : (moves : List PlainMove) → 0 < length moves → take 1 moves ≡ slice_index_or moves 0 Tick ∷ []
take_one [] some = absurd (omega (arith, some))
take_one (move ∷ rest) some = refl

pub one_redone : (old new : Course) (move : PlainMove) → take 1 old.undone ≡ move ∷ [] → new.done ≡ old.done ++ move ∷ []
    → new.undone ≡ drop 1 old.undone → length new.log ≡ length old.log + 1 → moves_of new ≡ redone (moves_of old) 1
one_redone old new move is done undone records =
    moves_are new (redone (moves_of old) 1) (done ∙ ap (λ (us : List PlainMove). old.done ++ us) (sym is)) undone
    (omega (arith, records, ap length done, length_push old.done move))

-- Moves that are made again behind others are made again with these.
pub redone_then : (moves : Moves) (first then : ℕ) → redone (redone moves first) then ≡ redone moves (first + then)
redone_then moves first then =
    ap (λ (ms : List PlainMove). record moves { done = ms; undone = drop then (drop first moves.undone) })
    (append_assoc moves.done (take first moves.undone) (take then (drop first moves.undone))
    ∙ ap (λ (us : List PlainMove). moves.done ++ us) (sym (take-add first then moves.undone)))
    ∙ ap (λ (us : List PlainMove). record moves { done = moves.done ++ take (first + then) moves.undone; undone = us }) (drop-drop then first moves.undone)

pub trimmed_moves : (old new : Course) (keep : ℕ) → length old.log ≤ length old.done → new.done ≡ old.done → new.undone ≡ old.undone
    → new.log ≡ drop (length old.log - keep) old.log → moves_of new ≡ trimmed (moves_of old) keep
trimmed_moves old new keep fewer done undone log =
    moves_are new (trimmed (moves_of old) keep) done undone
    (omega (arith, fewer, ap length done, ap length log, length-drop (length old.log - keep) old.log))

-- ---- all as before

-- Courses are equal but for the room where what else is seen of them is.
pub same_course : (old new : Course) → new.app ≡ old.app → new.limit ≡ old.limit → new.target ≡ old.target → new.done ≡ old.done → new.log ≡ old.log
    → new.undone ≡ old.undone → new.read ≡ old.read → IsAsItWas old new
same_course old new app limit target done log undone read =
    ap (λ (x : Application). record new { app = x }) app
    ∙ ap (λ x. record new { app = old.app; limit = x }) limit
    ∙ ap (λ (x : Snapshot). record new { app = old.app; limit = old.limit; target = x }) target
    ∙ ap (λ (x : List PlainMove). record new { app = old.app; limit = old.limit; target = old.target; done = x }) done
    ∙ ap (λ (x : List (List Change)). record new { app = old.app; limit = old.limit; target = old.target; done = old.done; log = x }) log
    ∙ ap (λ (x : List PlainMove). record old { undone = x; room = new.room; read = new.read }) undone
    ∙ ap (λ x. record old { room = new.room; read = x }) read

-- Where the same moves were done from boot, the target is the same.
pub same_target : (old new : Course) → new.app ≡ old.app → new.done ≡ old.done → state_after old.app old.done ≡ Ok old.target
    → state_after new.app new.done ≡ Ok new.target → new.target ≡ old.target
same_target old new app done leads leads_new =
    ap (state_or old.target)
    (sym leads_new ∙ ap (λ (a : Application). state_after a new.done) app ∙ ap (λ (ms : List PlainMove). state_after old.app ms) done ∙ leads)
