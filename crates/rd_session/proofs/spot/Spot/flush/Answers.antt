-- The goals of flush that the check left open.
use Rattle.std.proofs.Common.{◌∙◌, ap, arith}
use Rattle.std.proofs.lemmas.Result.{err_from_is_err_and}
use Rattle.rd_session.specs.BuffersView.{PendingView}
use Rattle.rd_session.proofs.GatheringLaws.{Talking-flushed, Talking-lost}
use Rattle.rd_session.proofs.spot.Spot.flush.Goals as goal

pub returns-in_err-send-clause-lost : goal.returns-in_err-send-clause-lost
returns-in_err-send-clause-lost g c =
    let p = err_from_is_err_and c.from_residual.result c.from_residual.ensures.1 in
    rw p.1 (λ start heard unsaid who room t.
    Talking-lost start heard unsaid _ _ _ _ _ room c.in_err-send.ensures.says c.in_err-send.ensures.given c.in_err-send.ensures.faults t)

pub returns-clause-flushed : goal.returns-clause-flushed
returns-clause-flushed g c =
    let sent = c.in_ok-send.ensures.sent in
    let now = c.let_out.ensures.pending in
    let outs = rw (ap (λ (q : PendingView). q.out) sent) at c.let_out.ensures.out in
    rw (c.let_out.ensures.seat, c.let_out.ensures.sink) (λ start heard unsaid who all t.
    Talking-flushed _ c.args.upto start heard unsaid _ _ _ _ _ _ _ who all c.in_ok-send.ensures.says c.in_ok-send.ensures.given c.in_ok-send.ensures.faults outs
    (ap (λ (q : PendingView). q.bytes) now ∙ ap (λ (q : PendingView). q.bytes) sent)
    (ap (λ (q : PendingView). q.begun) now ∙ ap (λ (q : PendingView). q.begun) sent)
    (ap (λ (q : PendingView). q.out) now) t)

pub returns-clause-pending : goal.returns-clause-pending
returns-clause-pending g c = c.let_out.ensures.pending ∙ ap (λ (q : PendingView). record q { out = c.args.upto }) c.in_ok-send.ensures.sent

pub returns-clause-at_work : goal.returns-clause-at_work
returns-clause-at_work g c =
    let sent = c.in_ok-send.ensures.sent in
    let now = c.let_out.ensures.pending in
    record {
      out = omega (arith, ap (λ (q : PendingView). q.out) now, ap (λ (q : PendingView). q.begun) now, ap (λ (q : PendingView). q.begun) sent, c.requires.upto);
      faults = rw c.let_out.ensures.sink (c.in_ok-send.ensures.faults ∙ c.requires.at_work.faults);
    }
