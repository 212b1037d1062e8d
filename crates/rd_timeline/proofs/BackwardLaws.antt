-- The ways through moves that were made, one move at a time.
use Rattle.std.proofs.Common.{◌≡◌, ◌∙◌, ℕ, suc, ◌+◌, ◌-◌, ◌<◌, ◌≤◌, List, ◌++◌, cond, length, take, drop, ap, refl, sym, arith}
use Rattle.std.specs.Prelude.{Ok, OnOk, Result, Some}
use Rattle.std.proofs.Math.Seq.{drop-append_seam}
use Rattle.std.proofs.lemmas.List.{append-nil, drop_all, length-take-le, take-append-drop, take_all}
use Rattle.rd_app.specs.Application.{Application}
use Rattle.rd_refusal.specs.declared.refusal.Refusal.{Refusal}
use Rattle.rd_moves.specs.Moves.{PlainMove}
use Rattle.rd_condition.specs.declared.condition.Condition.{Condition}
use Rattle.rd_condition.specs.Conditions.{holds}
use Rattle.rd_timeline.specs.Course.{Course, base_of}
use Rattle.rd_timeline.specs.History.{state_after}
use Rattle.rd_timeline.specs.Backward.{holds_in, last_met}
use Rattle.rd_timeline.specs.LogView.{bytes_of}
use Rattle.rd_timeline.specs.Recorded.{StandsOn}
use Rattle.rd_timeline.specs.Redoing.{HasRedone}
use Rattle.rd_timeline.specs.Runs.{Moves, back_at, moves_of, redone}
use Rattle.rd_timeline.proofs.HistoryLaws.{on_ok}
use Rattle.rd_timeline.proofs.LogLaws.{one_record_back}
use Rattle.rd_timeline.proofs.MovesLaws.{back_then, redone_then}
use Rattle.rd_timeline.proofs.RecordedLaws.{StandsOn-here, StandsOn-then}

-- ---- redone once more

pub HasRedone-here : (course : Course) → HasRedone course 0 course
HasRedone-here course = record {
  some = omega arith;
  moves = sym (ap (λ (ms : List PlainMove). record (moves_of course) { done = ms }) (append-nil course.done));
  stands = StandsOn-here course;
}

pub HasRedone-next : (old now next : Course) (count : ℕ) → HasRedone old count now → count < length old.undone → StandsOn now next
    → moves_of next ≡ redone (moves_of now) 1 → HasRedone old (count + 1) next
HasRedone-next old now next count has less stands moves = record {
  some = omega (arith, less);
  moves = moves ∙ ap (λ (ms : Moves). redone ms 1) has.moves ∙ redone_then (moves_of old) count 1;
  stands = StandsOn-then old now next has.stands stands;
}

-- Taken back again they are undone as before.
pub undone_again : (old now : Course) (count : ℕ) → HasRedone old count now → drop (length old.done) now.done ++ now.undone ≡ old.undone
undone_again old now count has =
    ap (λ (ms : Moves). drop (length old.done) ms.done ++ ms.undone) has.moves
    ∙ ap (λ (ms : List PlainMove). ms ++ drop count old.undone) (drop-append_seam old.done (take count old.undone)) ∙ take-append-drop count old.undone

-- ---- back once more

-- So many kept moves were taken back, and nothing else has changed.
pub record IsBack (old : Course) (count : ℕ) (now : Course) : Type 0 where
  pub moves : moves_of now ≡ back_at (moves_of old) (length old.done - count)
  pub log : now.log ≡ take (length old.log - count) old.log
  pub app : now.app ≡ old.app
  pub limit : now.limit ≡ old.limit
  pub room : now.room ≡ old.room
  pub read : now.read ≡ old.read + bytes_of (drop (length old.log - count) old.log)

pub IsBack-here : (course : Course) → IsBack course 0 course
IsBack-here course =
    let m = length course.done - 0 in
    let k = length course.log - 0 in
    record {
      moves =
          sym (ap (λ (ms : List PlainMove). record (moves_of course) { done = ms; undone = drop m course.done ++ course.undone })
          (take_all m course.done (omega arith))
          ∙ ap (λ (us : List PlainMove). record (moves_of course) { undone = us ++ course.undone }) (drop_all m course.done (omega arith)));
      log = sym (take_all k course.log (omega arith));
      app = refl;
      limit = refl;
      room = refl;
      read = omega (arith, ap bytes_of (drop_all k course.log (omega arith)));
    }

-- one more, as there was one
pub IsBack-next : (old now next : Course) (count at : ℕ) (back : Result ℕ Refusal) → IsBack old count now → count < length old.log
    → length old.log ≤ length old.done → back ≡ Ok at
    → OnOk back (moves_of next ≡ back_at (moves_of now) (length now.done - 1))
    → OnOk back (next.log ≡ take (length now.log - 1) now.log) → OnOk back (next.app ≡ now.app) → OnOk back (next.limit ≡ now.limit)
    → OnOk back (next.room ≡ now.room) → OnOk back (next.read ≡ now.read + bytes_of (drop (length now.log - 1) now.log))
    → IsBack old (count + 1) next
IsBack-next old now next count at back is less fewer made moves log app limit room read =
    let m = length old.done - count in
    let j = length old.done - (count + 1) in
    let here : length now.done - 1 ≡ j =
    omega (arith, less, fewer, ap (λ (ms : Moves). length ms.done) is.moves, length-take-le m old.done (omega arith)) in
    let one = one_record_back old.log now.log count is.log less in
    record {
      moves =
          on_ok back at made moves ∙ ap (back_at (moves_of now)) here ∙ ap (λ (ms : Moves). back_at ms j) is.moves
          ∙ back_then (moves_of old) m j (omega arith) (omega arith);
      log = on_ok back at made log ∙ one.0;
      app = on_ok back at made app ∙ is.app;
      limit = on_ok back at made limit ∙ is.limit;
      room = on_ok back at made room ∙ is.room;
      read = omega (arith, on_ok back at made read, is.read, one.1);
    }

-- how many moves are done then, and how many of them have a record
pub place_back : (old now : Course) (count at : ℕ) → IsBack old count now → count ≤ length old.log → length old.log ≤ length old.done
    → at ≡ length now.done → (length old.done - count ≡ at) × (length old.log - count ≡ at - base_of old)
place_back old now count at is some fewer here =
    let len : at ≡ length old.done - count =
    here ∙ ap (λ (ms : Moves). length ms.done) is.moves ∙ length-take-le (length old.done - count) old.done (omega arith) in
    (sym len, omega (arith, len, some, fewer))

-- Whether the condition holds there says where the search goes on.
pub looked_back : (old now : Course) (condition : Condition) (count : ℕ) → IsBack old (count + 1) now → count < length old.log
    → length old.log ≤ length old.done → state_after now.app now.done ≡ Ok now.target
    → last_met old.app condition (base_of old) old.done (length old.log - count)
    ≡ cond (holds now.target condition) (Some (length now.done)) (last_met old.app condition (base_of old) old.done (length old.log - (count + 1)))
looked_back old now condition count is less fewer leads =
    let base = base_of old in
    let k = length old.log - (count + 1) in
    let place = (place_back old now (count + 1) (length now.done) is (omega (arith, less)) fewer refl).0 in
    let before : length old.log - count ≡ suc k = omega (arith, less) in
    let at : base + k ≡ length now.done = omega (arith, less, fewer, place) in
    let state : state_after old.app (take (length now.done) old.done) ≡ Ok now.target =
    ap (λ n. state_after old.app (take n old.done)) (sym place)
    ∙ sym (ap (λ (a : Application). state_after a now.done) is.app ∙ ap (λ (ms : Moves). state_after old.app ms.done) is.moves) ∙ leads in
    ap (last_met old.app condition base old.done) before
    ∙ ap (λ n. cond (holds_in condition (state_after old.app (take n old.done))) (Some n) (last_met old.app condition base old.done k)) at
    ∙ ap (λ r. cond (holds_in condition r) (Some (length now.done)) (last_met old.app condition base old.done k)) state
