-- The goals of `redo_one` that the check left open.
use Rattle.std.proofs.Common.{◌≡◌, ◌∙◌, ◌<◌, ◌++◌, ◌∷◌, [], ◌-◌, ap, arith, inl, inr, length, length-append, refl, subst, sym}
use Rattle.std.proofs.lemmas.List.{length_push}
use Rattle.std.proofs.lemmas.Bool.{false≢true}
use Rattle.std.specs.Prelude.{IsOk, is_ok, slice_index_or, Err}
use Rattle.rd_moves.specs.declared.moves.Move.TheVariants.{Tick}
use Rattle.rd_calls.specs.Step.{step}
use Rattle.rd_refusal.specs.declared.refusal.Refusal.{Refusal}
use Rattle.rd_refusal.specs.declared.refusal.Refusal.TheVariants.{NoMemory}
use Rattle.rd_timeline.specs.Course.{Course, LacksBytes}
use Rattle.rd_timeline.specs.Inside.{course_of}
use Rattle.rd_timeline.specs.JournalView.{next_undone}
use Rattle.rd_timeline.specs.Recorded.{StandsOn}
use Rattle.rd_timeline.specs.Runs.{moves_of, redone}
use Rattle.rd_timeline.proofs.MovesLaws.{one_redone, take_one}
use Rattle.rd_timeline.proofs.RecordedLaws.{RecordsMoves-one, StandsOn-one}
use Rattle.rd_timeline.proofs.TimelineLaws.{IsWhole-replay, all_the_same, next_is_made, next_is_named, settled_after, state_now}
use Rattle.rd_timeline.proofs.timeline.Timeline.redo_one.Goals as goal

pub replay-requires-clause-valid : goal.replay-requires-clause-valid
replay-requires-clause-valid c = (state_now c.self.inside c.self.invariant).valid

pub replay-requires-clause-settled : goal.replay-requires-clause-settled
replay-requires-clause-settled c = (state_now c.self.inside c.self.invariant).settled

pub replay-requires-clause-named : goal.replay-requires-clause-named
replay-requires-clause-named c =
    let t = c.self.inside in
    let some : 0 < length t.journal.undone = subst (λ (course : Course). 0 < length course.undone) (sym c.self.view_is) c.requires in
    next_is_named t.app t.journal.done t.journal.undone c.self.invariant.traced.made.named some

-- There is room for all that are undone.
pub replay-requires-clause-capacity : goal.replay-requires-clause-capacity
replay-requires-clause-capacity c =
    let t = c.self.inside in
    let some : 0 < length t.journal.undone = subst (λ (course : Course). 0 < length course.undone) (sym c.self.view_is) c.requires in
    omega (arith, some, c.self.invariant.traced.made.has_room, length-append t.journal.done t.journal.undone)

pub invariant_of-self-2 : goal.invariant_of-self-2
invariant_of-self-2 c =
    let t = c.self.inside in
    let j = t.journal in
    let some : 0 < length j.undone = subst (λ (course : Course). 0 < length course.undone) (sym c.self.view_is) c.requires in
    let move = next_undone j in
    let made = c.in_default.ensures in
    let all : (j.done ++ move ∷ []) ++ c.replay.new.self.undone ≡ j.done ++ j.undone =
    ap (λ us. (j.done ++ move ∷ []) ++ us) made.undone ∙ all_the_same j.done j.undone some in
    IsWhole-replay t c.replay.new.self move made.lays.undo c.self.invariant all
    made.lays.played.step made.lays.played.leads_back made.lays.played.can_undo
    made.lays.played.valid (settled_after t.app j.target move c.replay.new.self.target (state_now t c.self.invariant).settled made.lays.played.settled)
    made.done made.lays.records
    (record {
      moves = omega (arith, c.replay.ensures.same_capacity);
      carried = omega (arith, c.replay.ensures.same_carried_capacity);
      bytes = c.replay.ensures.grows;
    })
    c.replay.ensures.read

-- The kernel's rules don't refuse it, so it is the log that can't grow.
pub returns-in-Err-clause-short : goal.returns-in-Err-clause-short
returns-in-Err-clause-short c =
    let t = c.self.inside in
    let j = t.journal in
    let some : 0 < length j.undone = subst (λ (course : Course). 0 < length course.undone) (sym c.self.view_is) c.requires in
    let refusal = c.in-Err._refusal in
    let can : IsOk (step t.app j.target (slice_index_or j.undone 0 Tick)) =
    next_is_made t.app j.done j.undone j.target (state_now t c.self.invariant).state c.self.invariant.traced.made.state some in
    let none : refusal ≡ NoMemory = elim c.in-Err.ensures.refusals [
      | inl refused ↦ absurd (false≢true (sym (ap is_ok refused) ∙ can))
      | inr lacks ↦ lacks.1
    ] in
    let short = c.in-Err.ensures.short (ap (λ (r : Refusal). Err r) none) in
    subst LacksBytes c.self.view_is short

pub returns-clause-moves : goal.returns-clause-moves
returns-clause-moves c =
    let t = c.self.inside in
    let some : 0 < length t.journal.undone = subst (λ (course : Course). 0 < length course.undone) (sym c.self.view_is) c.requires in
    let made = c.in_default.ensures in
    let new : Course = course_of (record t { journal = c.replay.new.self }) in
    subst (λ (course : Course). moves_of new ≡ redone (moves_of course) 1) c.self.view_is
    (one_redone (course_of t) new (next_undone t.journal) (take_one t.journal.undone some) made.done made.undone
    (omega (arith, ap length made.lays.records, length_push t.journal.records made.lays.undo)))

pub returns-clause-stands : goal.returns-clause-stands
returns-clause-stands c =
    let t = c.self.inside in
    let made = c.in_default.ensures in
    let new : Course = course_of (record t { journal = c.replay.new.self }) in
    let recorded = RecordsMoves-one (course_of t) new (next_undone t.journal) made.lays made.done in
    subst (λ (course : Course). StandsOn course new) c.self.view_is
    (StandsOn-one (course_of t) new (next_undone t.journal) refl refl made.done recorded
    (record {
      moves = omega (arith, c.replay.ensures.same_capacity);
      carried = omega (arith, c.replay.ensures.same_carried_capacity);
      bytes = c.replay.ensures.grows;
    })
    (ap (λ n. n - t.others.bytes) c.replay.ensures.read))
