-- The goals of `Logged::play` that the check left open.
use Rattle.std.proofs.Common.{◌+◌, ◌<◌, ap, arith, rules, subst, sym, Err}
use Rattle.std.specs.Prelude.{List, IsErrOf}
use Rattle.rd_calls.proofs.Offered.{record_has_room}
use Rattle.rd_calls.specs.Step.{IsPlayed}
use Rattle.rd_refusal.specs.declared.refusal.Refusal.TheVariants.{NoMemory}
use Rattle.rd_state.specs.Change.{Change}
use Rattle.rd_state.specs.EditingView.{added}
use Rattle.rd_state.specs.Valid.{IsValid}
use Rattle.rd_timeline.specs.LogView.{bytes_of}
use Rattle.rd_timeline.specs.LoggedView.{LoggedView}
use Rattle.rd_timeline.specs.declared.logged.TheConstants.{MAX_KEPT_BYTES}
use Rattle.rd_timeline.proofs.LogLaws.{played_short}
use Rattle.rd_timeline.proofs.logged.Logged.play.Goals as goal

-- Whichever move it is, there is room for its record where it is made: only the kernel's rules refuse it.
pub returns-in_err-play_on-clause-short : goal.returns-in_err-play_on-clause-short
returns-in_err-play_on-clause-short c =
    let valid = subst (IsValid c.args.app.now) (sym (ap (λ (v : LoggedView). v.target) c.self.view_is)) c.requires.valid in
    let fits = record_has_room c.args.app.now c.self.inside.editing.now c.args.action.now valid.in_limits.sized in
    let short : IsErrOf (Err c.in_err-play_on.field-0.0) NoMemory → c.args.self.now.memory < bytes_of c.args.self.now.records + MAX_KEPT_BYTES =
    λ (is : IsErrOf (Err c.in_err-play_on.field-0.0) NoMemory). absurd (omega (arith, c.in_err-play_on.ensures.short is, fits, c.self.invariant.1)) in
    search rules

pub append-requires-clause-short : goal.append-requires-clause-short
append-requires-clause-short c =
    let valid = subst (IsValid c.args.app.now) (sym (ap (λ (v : LoggedView). v.target) c.self.view_is)) c.requires.valid in
    let s' = c.play_on.new.editing in
    let played = subst (λ (before : List Change). IsPlayed c.args.app.now c.self.inside.editing.now c.args.action.now s'.now (added before s'.changes))
    c.self.invariant.0 c.in_ok-play_on.ensures.played in
    rw c.recorded.ensures
    (played_short c.args.app.now c.self.inside.editing.now s'.now c.args.action.now s'.changes valid.in_limits.sized played)
