-- The goals of `go` that the check left open.
use Rattle.std.proofs.Common.{◌≡◌, ◌<◌, ◌∙◌, arith, length, ◌++◌, ◌∷◌, [], List, ap, refl, rules, subst, sym}
use Rattle.std.specs.Prelude.{Ok}
use Rattle.rd_moves.specs.Moves.{PlainMove}
use Rattle.rd_state.specs.Change.{Change}
use Rattle.rd_state.specs.Snapshot.{Snapshot}
use Rattle.rd_app.specs.Application.{priorities_of}
use Rattle.rd_state.specs.Settled.{IsSettled}
use Rattle.rd_state.specs.Valid.{IsValid}
use Rattle.rd_calls.specs.Step.{step}
use Rattle.rd_moves.specs.Moves.{IsMoveOf}
use Rattle.rd_timeline.specs.Course.{Course}
use Rattle.rd_timeline.specs.Decoded.{carried_in}
use Rattle.rd_timeline.specs.JournalView.{HasCarriedRoom}
use Rattle.rd_timeline.specs.History.{state_after}
use Rattle.rd_timeline.specs.Inside.{course_of}
use Rattle.rd_timeline.specs.LogView.{RecordsMove}
use Rattle.rd_timeline.specs.Recorded.{RecordsMoves}
use Rattle.rd_timeline.specs.Runs.{moved_on, moves_of}
use Rattle.rd_timeline.proofs.DecodedLaws.{carried_in-append}
use Rattle.rd_timeline.proofs.HistoryLaws.{state_after-push}
use Rattle.rd_timeline.proofs.MovesLaws.{on_moves}
use Rattle.rd_timeline.proofs.RecordedLaws.{RecordsMoves-one}
use Rattle.rd_timeline.proofs.TimelineLaws.{IsWhole-push, carried_fits, settled_after, state_now}
use Rattle.std.proofs.lemmas.List.{length_push}
use Rattle.rd_timeline.proofs.timeline.Timeline.go.Goals as goal

-- the target is valid, and so it is once there is room for a move more
pub why_not-cause-requires-clause-valid : goal.why_not-cause-requires-clause-valid
why_not-cause-requires-clause-valid c =
    subst (λ (s : Snapshot). IsValid c.self.inside.app s) (sym (c.target.ensures ∙ c.reserve_for.ensures.same.target))
    (state_now c.self.inside c.self.invariant).valid

pub play-requires-clause-valid : goal.play-requires-clause-valid
play-requires-clause-valid c =
    subst (λ (s : Snapshot). IsValid c.self.inside.app s) (sym c.reserve_for.ensures.same.target) (state_now c.self.inside c.self.invariant).valid

pub play-requires-clause-settled : goal.play-requires-clause-settled
play-requires-clause-settled c =
    subst (IsSettled (priorities_of c.self.inside.app)) (sym c.reserve_for.ensures.same.target) (state_now c.self.inside c.self.invariant).settled

pub invariant_of-self-2 : goal.invariant_of-self-2
invariant_of-self-2 c =
    let t = c.self.inside in
    let same = c.reserve_for.ensures.same in
    let made = c.in_ok-play.ensures in
    let played = made.lays.played in
    let from_target : step t.app t.journal.target c.args.action.now ≡ Ok c.play.new.self.target =
    ap (λ (s : Snapshot). step t.app s c.args.action.now) (sym same.target) ∙ played.step in
    let capacity : length c.reserve_for.new.self.done < c.reserve_for.new.self.capacity = search rules in
    let ok_carried : HasCarriedRoom c.reserve_for.new.self c.args.action.now = search rules in
    let all : c.play.new.self.done ≡ t.journal.done ++ c.args.action.now ∷ [] =
    made.done ∙ ap (λ (moves : List PlainMove). moves ++ c.args.action.now ∷ []) same.done in
    let settled = settled_after t.app c.reserve_for.new.self.target c.args.action.now c.play.new.self.target
    (subst (IsSettled (priorities_of t.app)) (sym same.target) (state_now t c.self.invariant).settled) played.settled in
    IsWhole-push t
    (record t { journal = c.play.new.self })
    c.args.action.now made.lays.undo c.self.invariant refl refl (subst (λ (course : Course). IsMoveOf course.app c.args.action.now) (sym c.self.view_is) c.requires.named) (search rules) from_target (played.leads_back ∙ same.target) played.can_undo
    played.valid settled all
    (made.lays.records ∙ ap (λ (records : List (List Change)). records ++ made.lays.undo ∷ []) same.records)
    made.undone (omega (arith, capacity, c.play.ensures.same_capacity, ap length same.done))
    (omega (
      arith,
      ap (λ (moves : List PlainMove). carried_in (moves ++ c.args.action.now ∷ [])) same.done,
      c.play.ensures.same_carried_capacity,
      carried_fits c.args.action.now c.reserve_for.new.self ok_carried
          (omega (
            arith,
            ap carried_in same.done,
            c.reserve_for.ensures.more_carried,
            c.self.invariant.traced.made.has_carried_room,
            carried_in-append t.journal.done t.journal.undone,
          )),
    ))
    (omega (arith, c.play.ensures.read, same.read, c.self.invariant.others))

pub returns-clause-leads : goal.returns-clause-leads
returns-clause-leads c =
    let t = c.self.inside in
    let made = c.in_ok-play.ensures in
    ap (λ (moves : List PlainMove). state_after t.app moves)
    (made.done ∙ ap (λ (moves : List PlainMove). moves ++ c.args.action.now ∷ []) c.reserve_for.ensures.same.done)
    ∙ state_after-push t.app t.journal.done c.args.action.now t.journal.target
    (state_now t c.self.invariant).state
    ∙ ap (λ (s : Snapshot). step t.app s c.args.action.now) (sym c.reserve_for.ensures.same.target) ∙ made.lays.played.step

pub returns-clause-recorded : goal.returns-clause-recorded
returns-clause-recorded c =
    let t = c.self.inside in
    let same = c.reserve_for.ensures.same in
    let made = c.in_ok-play.ensures in
    let lays : RecordsMove t.app t.journal.target c.args.action.now c.play.new.self.target t.journal.records c.play.new.self.records =
    subst (λ (records : List (List Change)). RecordsMove t.app t.journal.target c.args.action.now c.play.new.self.target records c.play.new.self.records) same.records
    (subst (λ (s : Snapshot). RecordsMove t.app s c.args.action.now c.play.new.self.target c.reserve_for.new.self.records c.play.new.self.records) same.target made.lays) in
    let new : Course = course_of (record t { journal = c.play.new.self }) in
    subst (λ (course : Course). RecordsMoves course new) c.self.view_is
    (RecordsMoves-one (course_of t) new c.args.action.now lays (made.done ∙ ap (λ (moves : List PlainMove). moves ++ c.args.action.now ∷ []) same.done))

pub returns-clause-moves : goal.returns-clause-moves
returns-clause-moves c =
    let t = c.self.inside in
    let same = c.reserve_for.ensures.same in
    let made = c.in_ok-play.ensures in
    let new : Course = course_of (record t { journal = c.play.new.self }) in
    subst (λ (course : Course). moves_of new ≡ moved_on (moves_of course) c.args.action.now) c.self.view_is
    (on_moves (course_of t) new c.args.action.now (made.done ∙ ap (λ (moves : List PlainMove). moves ++ c.args.action.now ∷ []) same.done) made.undone
    (omega (
      arith,
      ap length made.lays.records,
      length_push c.reserve_for.new.self.records made.lays.undo,
      ap length same.records,
    )))
