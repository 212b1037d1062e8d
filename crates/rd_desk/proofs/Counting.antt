-- What one may count on.
use Rattle.std.proofs.Common.{◌≡◌, ◌≢◌, ◌∙◌, ℕ, ◌-◌, List, [], ◌∷◌, ◌++◌, true, false, cond, length, take, refl, ap, arith}
use Rattle.std.specs.Prelude.{Bool, nat_le, is_none, Option, None, Some, position}
use Rattle.std.proofs.lemmas.Bool.{le-leb}
use Rattle.std.proofs.lemmas.List.{length_push, take-append-le, take_all}
use Rattle.rd_refusal.specs.declared.refusal.Refusal.{Refusal}
use Rattle.rd_refusal.specs.declared.refusal.Refusal.TheVariants.{TooFar}
use Rattle.rd_state.specs.Boot.{boot_of}
use Rattle.rd_condition.specs.declared.condition.Condition.{Condition}
use Rattle.rd_moves.specs.declared.answer.Answer.{Answer}
use Rattle.rd_moves.specs.declared.answer.Answer.TheVariants as given
use Rattle.rd_moves.specs.declared.request.Request.TheVariants as request
use Rattle.rd_moves.specs.declared.request.Search.{Search}
use Rattle.rd_moves.specs.Moves.{PlainMove}
use Rattle.rd_moves.specs.Requests.{PlainRequest, request_for}
use Rattle.rd_timeline.specs.Answers.{answer_of, answer_to}
use Rattle.rd_timeline.specs.RunLaws.{is_refusal}
use Rattle.rd_timeline.specs.History.{state_after, state_or}
use Rattle.rd_timeline.specs.Runs.{Leaves, Moves, Plain, Refuses, Response, answered, back_at, kept, moved_on, moves_after, response_to}
use Rattle.rd_timeline.proofs.Offered.{refused_request, went_on}
use Rattle.rd_command.specs.declared.view.Overview.TheVariants as overview
use Rattle.rd_command.specs.declared.view.View.TheVariants as view
use Rattle.rd_command.specs.declared.binding.Bound.{Bound}
use Rattle.rd_command.specs.declared.binding.Bound.TheVariants as bound
use Rattle.rd_reply.specs.Replies.{answer_reply}
use Rattle.rd_desk.specs.declared.reply.DeskReply.{DeskReply}
use Rattle.rd_desk.specs.declared.reply.DeskReply.TheVariants.{Told}
use Rattle.rd_desk.specs.Debugger.{Debugger, is_holder, own_watches}
use Rattle.rd_desk.specs.Laws.{BackGivesTheTargetBack, RefusedCommandsChangeNothing, TrimmingIsSeenInMovesAlone}
use Rattle.rd_desk.specs.Serving.{after_bound, after_dropped, after_kept, after_request, after_search, refused, reply_to_bound, reply_to_dropped, reply_to_giver, reply_to_kept, reply_to_request, reply_to_search}
use Rattle.rd_desk.specs.Sessions.{watch_at}
use Rattle.rd_desk.proofs.CommandedLaws.{commanded}

-- ---- a command that is refused changes nothing

-- what is told of an answer tells which it was
told_refused : (answer : Answer) (refusal : Refusal) → Told (answer_reply answer) ≡ refused refusal → answer ≡ given.Refused refusal
told_refused (given.Done at) refusal is = absurd cc
told_refused (given.Answered at answer) refusal is = absurd cc
told_refused (given.Ended at end) refusal is = absurd cc
told_refused (given.Refused other) refusal is = cc

-- what is told of what came of a request tells whether that was refused
goes_on : (response : Response) → ((refusal : Refusal) → Told (answer_reply (answer_of response)) ≢ refused refusal) → is_refusal response ≡ false
goes_on (Leaves moves end) not_refused = refl
goes_on (Refuses refusal) not_refused = absurd (not_refused refusal refl)

same_request : (d : Debugger) (asked : PlainRequest) (refusal : Refusal) → reply_to_request d asked ≡ refused refusal → after_request d asked ≡ d
same_request d asked refusal is =
    ap (λ (moves : Moves). record d { moves = moves })
    (refused_request d.app.runs d.most_moves d.moves asked refusal (told_refused (answer_to d.app.runs d.most_moves d.moves asked) refusal is))

same_search : (d : Debugger) (watch : Option Condition) (search : Search) (refusal : Refusal) → reply_to_search d watch search ≡ refused refusal
    → after_search d watch search ≡ d
same_search d None search refusal is = refl
same_search d (Some condition) search refusal is = same_request d (request_for search condition) refusal is

same_given : (d : Debugger) (who : ℕ) (b : Bool) (refusal : Refusal) → reply_to_giver b ≡ refused refusal
    → record d { wheel = cond b None d.wheel } ≡ d
same_given d who true refusal is = absurd cc
same_given d who false refusal is = refl

same_kept : (d : Debugger) (who : ℕ) (condition : Condition) (number : Option ℕ) (refusal : Refusal) → reply_to_kept number ≡ refused refusal
    → after_kept d who condition number ≡ d
same_kept d who condition None refusal is = refl
same_kept d who condition (Some number) refusal is = absurd cc

same_dropped : (d : Debugger) (who number : ℕ) (watch : Option Condition) (refusal : Refusal) → reply_to_dropped number watch ≡ refused refusal
    → after_dropped d who number watch ≡ d
same_dropped d who number None refusal is = refl
same_dropped d who number (Some condition) refusal is = absurd cc

same_bound : (d : Debugger) (who : ℕ) (made : Bound) (refusal : Refusal) → reply_to_bound d who made ≡ refused refusal → after_bound d who made ≡ d
same_bound d who (bound.Asks asked) refusal is = same_request d asked refusal is
same_bound d who (bound.AsksByWatch watch search) refusal is = same_search d (watch_at (own_watches d who) watch) search refusal is
same_bound d who bound.TakesWheel refusal is = absurd cc
same_bound d who bound.GivesWheel refusal is = same_given d who (is_holder d.wheel who) refusal is
same_bound d who (bound.Keeps condition) refusal is = same_kept d who condition (position is_none (own_watches d who)) refusal is
same_bound d who (bound.Drops number) refusal is = same_dropped d who number (watch_at (own_watches d who) number) refusal is
same_bound d who (bound.Looks view) refusal is = refl

pub refused_commands_change_nothing : RefusedCommandsChangeNothing
refused_commands_change_nothing d who command refusal is =
    commanded (λ (after : Debugger) (reply : DeskReply). reply ≡ refused refusal → after ≡ d) d who command (λ holder _. refl) (λ _. refl)
    (λ bound _ _. same_bound d who bound refusal) is

-- ---- back

taken_back : (moves : List PlainMove) (move : PlainMove) → take (length (moves ++ move ∷ []) - 1) (moves ++ move ∷ []) ≡ moves
taken_back moves move =
    let less : length (moves ++ move ∷ []) - 1 ≡ length moves = omega (arith, length_push moves move) in
    ap (λ n. take n (moves ++ move ∷ [])) less ∙ take-append-le (length moves) moves (move ∷ []) (omega arith)
    ∙ take_all (length moves) moves (omega arith)

back_again : (done : List PlainMove) (b : Bool) (before moves : Moves) (refusal : Refusal) → b ≡ true → moves.done ≡ done
    → (moves_after before (cond b (Leaves moves Plain) (Refuses refusal))).done ≡ done
back_again done true before moves refusal is same = same
back_again done false before moves refusal is same = absurd cc

pub back_gives_the_target_back : BackGivesTheTargetBack
back_gives_the_target_back d move within not_refused =
    let longer : Moves = moved_on d.moves move in
    let goes = goes_on (response_to d.app.runs d.most_moves d.moves (request.Go move)) not_refused in
    let went : answered d.app.runs d.most_moves d.moves (request.Go move) ≡ longer = went_on d.app.runs d.most_moves d.moves move goes in
    let there : nat_le 1 (kept longer) ≡ true = le-leb 1 (kept longer) (omega (arith, length_push d.moves.done move, within)) in
    let back : (answered d.app.runs d.most_moves longer (request.Back 1)).done ≡ d.moves.done =
    back_again d.moves.done (nat_le 1 (kept longer)) longer (back_at longer (length longer.done - 1)) (TooFar (kept longer)) there
    (taken_back d.moves.done move) in
    let both : (answered d.app.runs d.most_moves (answered d.app.runs d.most_moves d.moves (request.Go move)) (request.Back 1)).done ≡ d.moves.done =
    ap (λ (moves : Moves). (answered d.app.runs d.most_moves moves (request.Back 1)).done) went ∙ back in
    ap (λ (done : List PlainMove). state_or (boot_of d.app.runs) (state_after d.app.runs done)) both

-- ---- trimming

pub trimming_is_seen_in_moves_alone : TrimmingIsSeenInMovesAlone
trimming_is_seen_in_moves_alone d who keep (view.Thing kind number) other = refl
trimming_is_seen_in_moves_alone d who keep view.Cores other = refl
trimming_is_seen_in_moves_alone d who keep (view.Overview overview.Moves) other = absurd (other refl)
trimming_is_seen_in_moves_alone d who keep (view.Overview overview.Wheel) other = refl
trimming_is_seen_in_moves_alone d who keep (view.Overview overview.Watches) other = refl
