-- Moves with their records: one more, one after the other, and how many bytes these records take at the most.
use Rattle.std.proofs.Common.{◌≡◌, ◌∙◌, ℕ, ◌+◌, ◌-◌, ◌*◌, ◌≤◌, inl, inr, List, [], ◌∷◌, ◌++◌, length, take, drop, ap, subst, sym, refl, arith, length-append}
use Rattle.std.specs.Prelude.{Option, Some, None, position, is_some, true}
use Rattle.std.proofs.lemmas.Bool.{false≢true}
use Rattle.std.proofs.Math.Seq.{drop-append_seam, take-append_seam}
use Rattle.std.proofs.lemmas.List.{drop-append-le, length-drop, length-take, take-append-drop, take-take}
use Rattle.rd_app.specs.Application.{Application}
use Rattle.rd_state.specs.Change.{Change}
use Rattle.rd_state.specs.PackedChanges.{all_packed}
use Rattle.rd_state.specs.Snapshot.{Snapshot}
use Rattle.rd_state.specs.Valid.{IsValid}
use Rattle.rd_moves.specs.Moves.{PlainMove}
use Rattle.rd_calls.specs.Step.{move_from, IsPlayed}
use Rattle.rd_packed.specs.Records.{record_packed, records_packed, trailer}
use Rattle.rd_condition.specs.declared.condition.Condition.{Condition}
use Rattle.rd_timeline.specs.Course.{Course, HasGrown, IsAhead}
use Rattle.rd_timeline.specs.Decoded.{carries}
use Rattle.rd_timeline.specs.History.{state_or}
use Rattle.rd_timeline.specs.LogView.{bytes_of, RecordsMove}
use Rattle.rd_timeline.specs.Recorded.{ArePlayed, RecordsMoves, StandsOn, state_behind}
use Rattle.rd_timeline.specs.Running.{RunLacksRoom}
use Rattle.rd_timeline.specs.Runs.{Moves, moves_of}
use Rattle.rd_timeline.specs.RunLaws.{HasRoomFor, RedoHasRoom, RunHasRoom}
use Rattle.rd_timeline.specs.declared.logged.TheConstants.{MAX_KEPT_BYTES}
use Rattle.rd_timeline.proofs.LogLaws.{bytes_of-parts, played_short}
use Rattle.rd_timeline.proofs.PolicyLaws.{LaysOn, run_lays_on}
use Rattle.rd_timeline.proofs.TimelineLaws.{HasGrown-none, HasGrown-then}

-- ---- one move, and moves after moves

ArePlayed-one : (app : Application) (s : Snapshot) (move : PlainMove) (s' : Snapshot) (undo : List Change) → IsPlayed app s move s' undo
    → ArePlayed app s (move ∷ []) s' (undo ∷ [])
ArePlayed-one app s move s' undo played =
    let there : s' ≡ state_behind app s move = sym (ap (state_or s) played.step) in
    (subst (λ (t : Snapshot). IsPlayed app s move t undo) there played, there)

ArePlayed-append : (app : Application) (s t u : Snapshot) (first later : List PlainMove) (firsts laters : List (List Change))
    → ArePlayed app s first t firsts → ArePlayed app t later u laters → ArePlayed app s (first ++ later) u (firsts ++ laters)
ArePlayed-append app s t u [] later [] laters begun then = subst (λ (v : Snapshot). ArePlayed app v later u laters) begun then
ArePlayed-append app s t u [] later (undo ∷ firsts) laters begun then = absurd begun
ArePlayed-append app s t u (move ∷ first) later [] laters begun then = absurd begun
ArePlayed-append app s t u (move ∷ first) later (undo ∷ firsts) laters begun then =
    (begun.0, ArePlayed-append app (state_behind app s move) t u first later firsts laters begun.1 then)

-- What was laid on is what was first, and then what was later.
laid_on : {X : Type 0} (old now next : List X) → length old ≤ length now → take (length now) next ≡ now
    → drop (length old) now ++ drop (length now) next ≡ drop (length old) next
laid_on old now next longer is =
    sym (drop-append-le (length old) now (drop (length now) next) longer)
    ∙ ap (λ (xs : List _). drop (length old) (xs ++ drop (length now) next)) (sym is) ∙ ap (drop (length old)) (take-append-drop (length now) next)

none_laid_on : {X : Type 0} (xs : List X) → drop (length xs) xs ≡ []
none_laid_on [] = refl
none_laid_on (x ∷ xs) = none_laid_on xs

all_there : {X : Type 0} (xs : List X) → take (length xs) xs ≡ xs
all_there [] = refl
all_there (x ∷ xs) = ap (λ (ys : List _). x ∷ ys) (all_there xs)

-- ---- of a course

pub RecordsMoves-here : (course : Course) → RecordsMoves course course
RecordsMoves-here course = record {
  log = all_there course.log;
  played =
      subst (λ (ms : List PlainMove). ArePlayed course.app course.target ms course.target (drop (length course.log) course.log)) (sym (none_laid_on course.done))
      (subst (ArePlayed course.app course.target [] course.target) (sym (none_laid_on course.log)) refl);
}

pub RecordsMoves-one : (old new : Course) (move : PlainMove) → RecordsMove old.app old.target move new.target old.log new.log
    → new.done ≡ old.done ++ move ∷ [] → RecordsMoves old new
RecordsMoves-one old new move lays done =
    let moves : drop (length old.done) new.done ≡ move ∷ [] = ap (drop (length old.done)) done ∙ drop-append_seam old.done (move ∷ []) in
    let records : drop (length old.log) new.log ≡ lays.undo ∷ [] = ap (drop (length old.log)) lays.records ∙ drop-append_seam old.log (lays.undo ∷ []) in
    record {
      log = ap (take (length old.log)) lays.records ∙ take-append_seam old.log (lays.undo ∷ []);
      played =
          subst (λ (ms : List PlainMove). ArePlayed old.app old.target ms new.target (drop (length old.log) new.log)) (sym moves)
          (subst (ArePlayed old.app old.target (move ∷ []) new.target) (sym records)
          (ArePlayed-one old.app old.target move new.target lays.undo lays.played));
    }

pub RecordsMoves-then : (old now next : Course) → now.app ≡ old.app → length old.done ≤ length now.done → take (length now.done) next.done ≡ now.done
    → RecordsMoves old now → RecordsMoves now next → RecordsMoves old next
RecordsMoves-then old now next app longer done first then =
    let more : length old.log ≤ length now.log = omega (arith, ap length first.log, length-take (length old.log) now.log) in
    let later = subst (λ (a : Application). ArePlayed a now.target (drop (length now.done) next.done) next.target (drop (length now.log) next.log)) app then.played in
    record {
      log =
          sym (take-take (length old.log) (length now.log) next.log more) ∙ ap (take (length old.log)) then.log ∙ first.log;
      played =
          subst (λ (ms : List PlainMove). ArePlayed old.app old.target ms next.target (drop (length old.log) next.log)) (laid_on old.done now.done next.done longer done)
          (subst (ArePlayed old.app old.target (drop (length old.done) now.done ++ drop (length now.done) next.done) next.target)
          (laid_on old.log now.log next.log more then.log)
          (ArePlayed-append old.app old.target now.target next.target (drop (length old.done) now.done) (drop (length now.done) next.done)
          (drop (length old.log) now.log) (drop (length now.log) next.log) first.played later));
    }

-- Each move has a record.
each_recorded : (app : Application) (s : Snapshot) (moves : List PlainMove) (s' : Snapshot) (records : List (List Change)) → ArePlayed app s moves s' records
    → length records ≡ length moves
each_recorded app s [] s' [] played = refl
each_recorded app s [] s' (undo ∷ later) played = absurd played
each_recorded app s (move ∷ moves) s' [] played = absurd played
each_recorded app s (move ∷ moves) s' (undo ∷ later) played =
    omega (arith, each_recorded app (state_behind app s move) moves s' later played.1)

-- ---- moves that stand on others

pub StandsOn-here : (course : Course) → StandsOn course course
StandsOn-here course = record {
  app = refl;
  limit = refl;
  done = all_there course.done;
  recorded = RecordsMoves-here course;
  grows = HasGrown-none course.room;
  read = refl;
}

pub StandsOn-one : (old new : Course) (move : PlainMove) → new.app ≡ old.app → new.limit ≡ old.limit → new.done ≡ old.done ++ move ∷ []
    → RecordsMoves old new → HasGrown old.room new.room → new.read ≡ old.read → StandsOn old new
StandsOn-one old new move app limit done recorded grows read = record {
  app = app;
  limit = limit;
  done = ap (take (length old.done)) done ∙ take-append_seam old.done (move ∷ []);
  recorded = recorded;
  grows = grows;
  read = read;
}

-- A list that begins with another has as many elements at least.
longer : {X : Type 0} (old new : List X) → take (length old) new ≡ old → length old ≤ length new
longer old new is = omega (arith, ap length is, length-take (length old) new)

pub StandsOn-then : (old now next : Course) → StandsOn old now → StandsOn now next → StandsOn old next
StandsOn-then old now next first then =
    let more = longer old.done now.done first.done in
    record {
      app = then.app ∙ first.app;
      limit = then.limit ∙ first.limit;
      done =
          sym (take-take (length old.done) (length now.done) next.done more) ∙ ap (take (length old.done)) then.done ∙ first.done;
      recorded = RecordsMoves-then old now next first.app more then.done first.recorded then.recorded;
      grows = HasGrown-then old.room now.room next.room first.grows then.grows;
      read = then.read ∙ first.read;
    }

-- So many more moves are done, and each has its record.
pub record HasMore (old new : Course) : Type 0 where
  pub more : length old.done ≤ length new.done
  pub records : length new.log + length old.done ≡ length old.log + length new.done

pub each_has_more : (old new : Course) → StandsOn old new → HasMore old new
each_has_more old new stands =
    let more = longer old.done new.done stands.done in
    record {
      more = more;
      records =
          omega (
            arith,
            more,
            longer old.log new.log stands.recorded.log,
            each_recorded old.app old.target (drop (length old.done) new.done) new.target (drop (length old.log) new.log) stands.recorded.played,
            length-drop (length old.done) new.done,
            length-drop (length old.log) new.log,
          );
    }

-- By a move the log is ahead, as it was made with room for the longest record.
pub ahead_now : (old new : Course) (move : PlainMove) → new.done ≡ old.done ++ move ∷ [] → StandsOn old new
    → bytes_of old.log + MAX_KEPT_BYTES ≤ new.room.bytes → IsAhead new
ahead_now old new move done stands ahead =
    let one : length new.log - 1 ≡ length old.log =
    omega (arith, (each_has_more old new stands).records, ap length done, length-append old.done (move ∷ [])) in
    let before : bytes_of (take (length new.log - 1) new.log) ≡ bytes_of old.log =
    ap (λ k. bytes_of (take k new.log)) one ∙ ap bytes_of stands.recorded.log in
    omega (arith, before, ahead)

-- ---- how many bytes

-- Each record is no longer than the longest one.
played_bytes : (app : Application) (s : Snapshot) (moves : List PlainMove) (s' : Snapshot) (records : List (List Change)) → IsValid app s
    → ArePlayed app s moves s' records → bytes_of records ≤ length moves * MAX_KEPT_BYTES
played_bytes app s [] s' [] valid played = omega arith
played_bytes app s [] s' (undo ∷ later) valid played = absurd played
played_bytes app s (move ∷ moves) s' [] valid played = absurd played
played_bytes app s (move ∷ moves) s' (undo ∷ later) valid played =
    let next = state_behind app s move in
    omega (
      arith,
      length-append (record_packed undo) (records_packed later),
      length-append (all_packed undo) (trailer (length (all_packed undo)) (length undo)),
      played_short app s next move undo valid.in_limits.sized played.0,
      played_bytes app next moves s' later played.0.valid played.1,
    )

pub bytes_laid_on : (old now : Course) (made : ℕ) → IsValid old.app old.target → RecordsMoves old now → length now.done ≤ length old.done + made
    → bytes_of now.log ≤ bytes_of old.log + made * MAX_KEPT_BYTES
bytes_laid_on old now made valid recorded few =
    omega (
      arith,
      bytes_of-parts (length old.log) now.log,
      ap bytes_of recorded.log,
      played_bytes old.app old.target (drop (length old.done) now.done) now.target (drop (length old.log) now.log) valid recorded.played,
      length-drop (length old.done) now.done,
      few,
    )

-- ---- room

pub redo_has_room : RedoHasRoom
redo_has_room old count valid room redoes =
    omega (
      arith,
      room,
      redoes.lacks,
      redoes.fewer,
      redoes.has.stands.grows.bytes,
      bytes_laid_on old redoes.now redoes.made valid redoes.has.stands.recorded
          (omega (arith, ap (λ (ms : Moves). length ms.done) redoes.has.moves, length-append old.done (take redoes.made old.undone), length-take redoes.made old.undone)),
    )

-- Policy chooses no move that carries something.
carries_from : (turn : ℕ) (found : Option ℕ) → carries (move_from turn found) ≡ true → ⊥
carries_from turn None is = false≢true is
carries_from turn (Some ahead) is = false≢true is

run_is_within : (old : Course) (goal : Option Condition) (count : ℕ) → IsValid old.app old.target → HasRoomFor count old → length old.done + count ≤ old.room.moves
    → RunLacksRoom old goal count → ⊥
run_is_within old goal count valid room within runs =
    let made : length runs.now.done ≡ length old.done + runs.made =
    (subst (LaysOn goal (moves_of old) runs.made) runs.going (run_lays_on old.app old.limit goal (moves_of old) runs.made)).1 in
    elim runs.lacks [
      | inl full ↦ omega (arith, full, made, within, runs.fewer, runs.stands.grows.moves)
      | inr others ↦ elim others [
        | inl bytes ↦ omega (arith, room, bytes, runs.fewer, runs.stands.grows.bytes, bytes_laid_on old runs.now runs.made valid runs.stands.recorded (omega (arith, made)))
        | inr carrying ↦ carries_from runs.now.target.turn (position is_some (drop runs.now.target.turn runs.now.target.cores)) carrying.0
      ]
    ]

pub run_has_room : RunHasRoom
run_has_room old goal count valid room within none lacks =
    elim lacks [
      | inl some ↦ omega (arith, some, ap length none)
      | inr runs ↦ run_is_within old goal count valid room within runs
    ]
