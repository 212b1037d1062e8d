-- What trims leave, and what can still be done; moves that are taken back.
use Rattle.std.proofs.Common.{◌≡◌, ◌∙◌, ℕ, ◌-◌, ◌≤◌, ◌++◌, ◌∷◌, [], List, true, false, cond, drop, length, max, take, refl, ap, sym, arith}
use Rattle.std.specs.Prelude.{Bool, IfSome, min, nat_le, Option, None, Some, Result, Ok, Err}
use Rattle.std.proofs.Math.Seq.{drop-append_seam, take-append_seam}
use Rattle.std.proofs.lemmas.Bool.{false≢true, le-leb, leb-true}
use Rattle.std.proofs.lemmas.List.{length-append, length-drop, length-take-le, length_push, take-append-drop}
use Rattle.rd_app.specs.Application.{Application}
use Rattle.rd_refusal.specs.declared.refusal.Refusal.{Refusal}
use Rattle.rd_refusal.specs.declared.refusal.Refusal.TheVariants.{NothingUndone, TooFar}
use Rattle.rd_state.specs.Snapshot.{Snapshot}
use Rattle.rd_condition.specs.declared.condition.Condition.{Condition}
use Rattle.rd_moves.specs.Moves.{PlainMove}
use Rattle.rd_moves.specs.declared.carried.Carried.TheVariants as carried
use Rattle.rd_moves.specs.declared.moves.Move.TheVariants as move
use Rattle.rd_moves.specs.declared.request.Request.TheVariants.{Go, Back, Forward, Redo, Until}
use Rattle.rd_moves.specs.declared.request.Request.TheVariants.{BackUntil, Trim}
use Rattle.rd_timeline.specs.RunLaws.{BaseIsWithinMoves, EditsLeaveNoTrace, HeldLast, KeptGoesAsBefore, OnlyTrimsMoveTheBase, RedoUndoesBack, TrimLeavesMoves, TrimsMeet, is_refusal, is_refused}
use Rattle.rd_calls.specs.Step.{move_answer}
use Rattle.rd_timeline.specs.Runs.{Ending, Plain, PolicyRun, Going, AtGoal, Refused, ending_of}
use Rattle.rd_timeline.specs.Runs.{Moves, Leaves, Refuses, answered, back_at, go_response, kept, last_place, moved, moved_on, moves_after, redone, response_to, run_of, run_response, search_response, state_of, trimmed}
use Rattle.rd_timeline.proofs.PolicyLaws.{LaysOn, run_lays_on}
use Rattle.rd_timeline.proofs.RefusedLaws.{went_on}
use Rattle.rd_timeline.proofs.WalkLaws.{back_finds_the_last}

pub trim_leaves_moves : TrimLeavesMoves
trim_leaves_moves app limit moves keep = record { done = refl; undone = refl; target = refl }

pub trims_meet : TrimsMeet
trims_meet app limit moves first then =
    let base : max (max moves.base (length moves.done - first)) (length moves.done - then) ≡ max moves.base (length moves.done - min first then) =
    omega arith in
    ap (λ b. record moves { base = b }) base

-- ---- what was kept

-- Moves that have a record are undone.
back_made : (app : Application) (limit : ℕ) (moves : Moves) (count : ℕ) → count ≤ kept moves
    → response_to app limit moves (Back count) ≡ Leaves (back_at moves (length moves.done - count)) Plain
back_made app limit moves count some =
    ap (λ b. cond b (Leaves (back_at moves (length moves.done - count)) Plain) (Refuses (TooFar (kept moves)))) (le-leb count (kept moves) some)

redo_made : (app : Application) (limit : ℕ) (moves : Moves) (count : ℕ) → count ≤ length moves.undone
    → response_to app limit moves (Redo count) ≡ Leaves (redone moves count) Plain
redo_made app limit moves count some =
    ap (λ b. cond b (Leaves (redone moves count) Plain) (Refuses NothingUndone)) (le-leb count (length moves.undone) some)

-- Moves that were undone and are made again are as they were.
back_and_again : (moves : Moves) (count : ℕ) → count ≤ length moves.done → redone (back_at moves (length moves.done - count)) count ≡ moves
back_and_again moves count some =
    let k = length moves.done - count in
    let last = drop k moves.done in
    let len : length last ≡ count = omega (arith, length-drop k moves.done, some) in
    let done : take k moves.done ++ take count (last ++ moves.undone) ≡ moves.done =
    ap (λ n. take k moves.done ++ take n (last ++ moves.undone)) (sym len)
    ∙ ap (λ (ms : List PlainMove). take k moves.done ++ ms) (take-append_seam last moves.undone) ∙ take-append-drop k moves.done in
    let undone : drop count (last ++ moves.undone) ≡ moves.undone =
    ap (λ n. drop n (last ++ moves.undone)) (sym len) ∙ drop-append_seam last moves.undone in
    ap (λ (ms : List PlainMove). record moves { done = ms; undone = drop count (last ++ moves.undone) }) done
    ∙ ap (λ (us : List PlainMove). record moves { undone = us }) undone

pub redo_undoes_back : RedoUndoesBack
redo_undoes_back app limit moves count some within =
    let k = length moves.done - count in
    let back = ap (moves_after moves) (back_made app limit moves count some) in
    let undone : count ≤ length (back_at moves k).undone =
    omega (arith, within, length-append (drop k moves.done) moves.undone, length-drop k moves.done) in
    ap (λ (ms : Moves). answered app limit ms (Redo count)) back
    ∙ ap (moves_after (back_at moves k)) (redo_made app limit (back_at moves k) count undone) ∙ back_and_again moves count within

-- One move on and back again, whichever it is.
on_and_back : (moves : Moves) (move : PlainMove) → back_at (moved_on moves move) (length (moves.done ++ move ∷ []) - 1) ≡ record moves { undone = move ∷ [] }
on_and_back moves move =
    let len : length (moves.done ++ move ∷ []) - 1 ≡ length moves.done = omega (arith, length_push moves.done move) in
    ap (back_at (moved_on moves move)) len
    ∙ ap (λ (ms : List PlainMove). record moves { done = ms; undone = drop (length moves.done) (moves.done ++ move ∷ []) ++ [] }) (take-append_seam moves.done (move ∷ []))
    ∙ ap (λ (ms : List PlainMove). record moves { undone = ms ++ [] }) (drop-append_seam moves.done (move ∷ []))

pub edits_leave_no_trace : EditsLeaveNoTrace
edits_leave_no_trace app limit moves edit within can =
    let action = move.Carried (carried.Edit edit) in
    let longer = moved_on moves action in
    let some : 1 ≤ kept longer = omega (arith, within, length_push moves.done action) in
    ap (λ (ms : Moves). answered app limit ms (Back 1)) (went_on app limit moves action can)
    ∙ ap (moves_after longer) (back_made app limit longer 1 some) ∙ on_and_back moves action

pub kept_goes_as_before : KeptGoesAsBefore
kept_goes_as_before app limit moves keep count few some =
    let after = trimmed moves keep in
    let k = length moves.done - count in
    let before = back_made app limit moves count some in
    let can = back_made app limit after count (omega (arith, few, some)) in
    let here = ap (moves_after moves) before in
    let there = ap (moves_after after) can in
    let undone : count ≤ length (back_at after k).undone =
    omega (arith, some, length-append (drop k moves.done) moves.undone, length-drop k moves.done) in
    let again = redo_made app limit (back_at after k) count undone in
    record {
      can = ap is_refusal can;
      back = record {
        done = ap (λ (ms : Moves). ms.done) there ∙ sym (ap (λ (ms : Moves). ms.done) here);
        undone = ap (λ (ms : Moves). ms.undone) there ∙ sym (ap (λ (ms : Moves). ms.undone) here);
        target = ap (state_of app) there ∙ sym (ap (state_of app) here);
      };
      can_redo = ap (λ (ms : Moves). is_refused app limit ms (Redo count)) there ∙ ap is_refusal again;
      again =
          ap (λ (ms : Moves). answered app limit ms (Redo count)) there ∙ ap (moves_after (back_at after k)) again
          ∙ back_and_again after count (omega (arith, some));
    }

-- ---- the base

-- It is where it was, whatever comes of a request, unless that is a trim.
stays_by_move : (moves : Moves) (move : PlainMove) (end : Ending) (r : Result Snapshot Refusal)
    → (moves_after moves (go_response moves move end r)).base ≡ moves.base
stays_by_move moves move end (Ok s) = refl
stays_by_move moves move end (Err refusal) = refl

stays_if : (moves new : Moves) (refusal : Refusal) (b : Bool) → new.base ≡ moves.base
    → (moves_after moves (cond b (Leaves new Plain) (Refuses refusal))).base ≡ moves.base
stays_if moves new refusal true same = same
stays_if moves new refusal false same = refl

stays_by_run : (moves : Moves) (goal : Option Condition) (n : ℕ) (run : PolicyRun) → LaysOn goal moves n run
    → (moves_after moves (run_response goal run)).base ≡ moves.base
stays_by_run moves goal n (Going new) lays = lays.0.base
stays_by_run moves goal n (AtGoal new) lays = lays.0.base
stays_by_run moves goal n (Refused refusal) lays = refl

stays_by_search : (moves : Moves) (at : Option ℕ) → (moves_after moves (search_response moves at)).base ≡ moves.base
stays_by_search moves None = refl
stays_by_search moves (Some at) = refl

stays : (old new : ℕ) (b : Bool) → new ≡ old → (old ≤ new) × (b ≡ false → new ≡ old)
stays old new b same = (omega (arith, same), λ other. same)

pub only_trims_move_the_base : OnlyTrimsMoveTheBase
only_trims_move_the_base app limit moves (Go action) = stays moves.base _ false (stays_by_move moves action (ending_of (move_answer (state_of app moves) action)) (moved app limit moves action))
only_trims_move_the_base app limit moves (Back count) =
    stays moves.base _ false (stays_if moves (back_at moves (length moves.done - count)) (TooFar (kept moves)) (nat_le count (kept moves)) refl)
only_trims_move_the_base app limit moves (Forward count) =
    stays moves.base _ false (stays_by_run moves None count (run_of app limit None moves count) (run_lays_on app limit None moves count))
only_trims_move_the_base app limit moves (Redo count) =
    stays moves.base _ false (stays_if moves (redone moves count) NothingUndone (nat_le count (length moves.undone)) refl)
only_trims_move_the_base app limit moves (Until condition count) =
    stays moves.base _ false
    (stays_by_run moves (Some condition) count (run_of app limit (Some condition) moves count) (run_lays_on app limit (Some condition) moves count))
only_trims_move_the_base app limit moves (BackUntil condition) =
    stays moves.base _ false (stays_by_search moves (last_place app condition moves))
only_trims_move_the_base app limit moves (Trim keep) = (omega arith, λ other. absurd (false≢true (sym other)))

-- ---- no more moves lack a record than are done

abbrev IsWithin : Moves → Type 0
IsWithin moves = moves.base ≤ length moves.done

within_by_move : (moves : Moves) (move : PlainMove) (end : Ending) (r : Result Snapshot Refusal) → IsWithin moves
    → IsWithin (moves_after moves (go_response moves move end r))
within_by_move moves move end (Ok s) within = omega (arith, within, length_push moves.done move)
within_by_move moves move end (Err refusal) within = within

within_by_back : (moves : Moves) (count : ℕ) (b : Bool) → nat_le count (kept moves) ≡ b → IsWithin moves
    → IsWithin (moves_after moves (cond b (Leaves (back_at moves (length moves.done - count)) Plain) (Refuses (TooFar (kept moves)))))
within_by_back moves count true is within =
    omega (arith, within, leb-true count (kept moves) is, length-take-le (length moves.done - count) moves.done (omega arith))
within_by_back moves count false is within = within

within_by_redo : (moves : Moves) (count : ℕ) (b : Bool) → IsWithin moves
    → IsWithin (moves_after moves (cond b (Leaves (redone moves count) Plain) (Refuses NothingUndone)))
within_by_redo moves count true within = omega (arith, within, length-append moves.done (take count moves.undone))
within_by_redo moves count false within = within

within_by_run : (moves : Moves) (goal : Option Condition) (n : ℕ) (run : PolicyRun) → LaysOn goal moves n run → IsWithin moves
    → IsWithin (moves_after moves (run_response goal run))
within_by_run moves goal n (Going new) lays within = omega (arith, within, lays.0.base, lays.0.more)
within_by_run moves goal n (AtGoal new) lays within = omega (arith, within, lays.0.base, lays.0.more)
within_by_run moves goal n (Refused refusal) lays within = within

within_by_search : (app : Application) (condition : Condition) (moves : Moves) (at : Option ℕ)
    → IfSome at (HeldLast app condition moves (length moves.done)) → IsWithin moves → IsWithin (moves_after moves (search_response moves at))
within_by_search app condition moves None held within = omega (arith, length-take-le moves.base moves.done within)
within_by_search app condition moves (Some at) held within =
    omega (arith, held.from_base, held.earlier, length-take-le at moves.done (omega (arith, held.earlier)))

pub base_is_within_moves : BaseIsWithinMoves
base_is_within_moves app limit moves (Go action) within = within_by_move moves action (ending_of (move_answer (state_of app moves) action)) (moved app limit moves action) within
base_is_within_moves app limit moves (Back count) within = within_by_back moves count (nat_le count (kept moves)) refl within
base_is_within_moves app limit moves (Forward count) within = within_by_run moves None count (run_of app limit None moves count) (run_lays_on app limit None moves count) within
base_is_within_moves app limit moves (Redo count) within = within_by_redo moves count (nat_le count (length moves.undone)) within
base_is_within_moves app limit moves (Until condition count) within =
    within_by_run moves (Some condition) count (run_of app limit (Some condition) moves count) (run_lays_on app limit (Some condition) moves count) within
base_is_within_moves app limit moves (BackUntil condition) within =
    within_by_search app condition moves (last_place app condition moves) (back_finds_the_last app condition moves within).0 within
base_is_within_moves app limit moves (Trim keep) within = omega (arith, within)
