-- The goals of write_alone that the check left open.
use Rattle.std.proofs.Common.{◌≡◌, ◌∙◌, ℕ, ◌+◌, ◌<◌, List, [], ◌∷◌, length, ap, subst, sym, arith}
use Rattle.std.proofs.lemmas.Result.{err_from_is_err_and}
use Rattle.rd_hall.specs.SeatView.{RoomedSeat}
use Rattle.rd_session.specs.BuffersView.{PendingView}
use Rattle.rd_session.specs.Gathering.{last_line, line_in}
use Rattle.rd_session.proofs.GatheringLaws.{Talking-alone, Talking-lost_alone}
use Rattle.rd_session.proofs.spot.Spot.write_alone.Goals as goal

pub returns-in_err-flush-clause-unsaid : goal.returns-in_err-flush-clause-unsaid
returns-in_err-flush-clause-unsaid g c =
    let p = err_from_is_err_and c.from_residual.result c.from_residual.ensures.1 in
    rw p.1 (λ start heard answer who says t.
    let room = subst (λ (bs : List ℕ). 65536 < length c.args.self.now.pending.now.bytes + length bs) (sym says) c.requires.no_room in
    c.in_err-flush.ensures.lost start heard (answer ∷ []) who room t)

pub returns-in_err-write-clause-unsaid : goal.returns-in_err-write-clause-unsaid
returns-in_err-write-clause-unsaid g c =
    let p = err_from_is_err_and c.from_residual-in_err-write.result c.from_residual-in_err-write.ensures.1 in
    let now = c.in_ok-flush.ensures.pending in
    let line : last_line c.args.self.now.seat.now.session ≡ c.shown.result.now =
    ap (λ (s : RoomedSeat). last_line s.session) (sym c.flush.ensures.seat) ∙ ap line_in c.last.ensures ∙ sym c.shown.ensures in
    let counts : c.flush.new.self.pending.now.out + 1 ≡ c.flush.new.self.pending.now.begun =
    omega (arith, ap (λ (q : PendingView). q.out) now, ap (λ (q : PendingView). q.begun) now, c.begun-begun.ensures, c.requires.begun) in
    rw p.1 (λ start heard answer who says t.
    let t' = c.in_ok-flush.ensures.flushed start heard (answer ∷ []) who (omega (arith, c.begun-begun.ensures, c.requires.begun)) t in
    Talking-lost_alone start heard _ answer c.shown.result.now _ _ _ _ (says ∙ line) (ap (λ (q : PendingView). q.bytes) now) counts c.in_err-write.ensures.says c.in_err-write.ensures.given
    c.in_err-write.ensures.faults t')

pub returns-clause-said : goal.returns-clause-said
returns-clause-said g c =
    let then = c.in_ok-flush.ensures.pending in
    let now = c.let_out.ensures.pending in
    let line : last_line c.args.self.now.seat.now.session ≡ c.shown.result.now =
    ap (λ (s : RoomedSeat). last_line s.session) (sym c.flush.ensures.seat) ∙ ap line_in c.last.ensures ∙ sym c.shown.ensures in
    let begun : c.begun-begun.result ≡ c.flush.new.self.pending.now.begun = c.begun-begun.ensures ∙ sym (ap (λ (q : PendingView). q.begun) then) in
    let outs = rw begun at c.let_out.ensures.out in
    rw (c.let_out.ensures.seat, c.let_out.ensures.sink) (λ start heard answer who says t.
    let t' = c.in_ok-flush.ensures.flushed start heard (answer ∷ []) who (omega (arith, c.begun-begun.ensures, c.requires.begun)) t in
    Talking-alone _ start heard _ answer c.shown.result.now _ _ _ _ _ _ (who ∙ sym c.flush.ensures.same.who) (says ∙ line) (ap (λ (q : PendingView). q.bytes) then) c.in_ok-write.ensures.says c.in_ok-write.ensures.given
    c.in_ok-write.ensures.faults outs
    (ap (λ (q : PendingView). q.bytes) now ∙ ap (λ (q : PendingView). q.bytes) then)
    (ap (λ (q : PendingView). q.begun) now)
    (ap (λ (q : PendingView). q.out) now ∙ begun) t')

pub returns-clause-at_work : goal.returns-clause-at_work
returns-clause-at_work g c =
    let then = c.in_ok-flush.ensures in
    let now = c.let_out.ensures.pending in
    record {
      out = omega (arith, ap (λ (q : PendingView). q.out) now, ap (λ (q : PendingView). q.begun) now, c.begun-begun.ensures, ap (λ (q : PendingView). q.begun) then.pending);
      faults = rw c.let_out.ensures.sink (c.in_ok-write.ensures.faults ∙ then.at_work.faults);
    }
