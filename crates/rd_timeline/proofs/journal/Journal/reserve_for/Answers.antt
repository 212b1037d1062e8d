-- The goals of `Journal::reserve_for` that the check left open.
use Rattle.std.proofs.Common.{ap, arith, length, take}
use Rattle.std.proofs.lemmas.Bool.{false≢true}
use Rattle.rd_timeline.specs.Decoded.{carried_in}
use Rattle.rd_timeline.specs.JournalView.{JournalView}
use Rattle.rd_timeline.proofs.DecodedLaws.{carried_in-decoded}
use Rattle.rd_timeline.proofs.HistoryLaws.{done_or_not}
use Rattle.rd_timeline.proofs.JournalLaws.{carried_done}
use Rattle.rd_timeline.proofs.journal.Journal.reserve_for.Goals as goal

pub returns-in_err-reserve-clause-enough : goal.returns-in_err-reserve-clause-enough
returns-in_err-reserve-clause-enough c more room =
    absurd
    (false≢true
    (c.in_err-reserve.ensures.enough (λ is. omega (
      arith,
      room is,
      carried_done c.self.inside c.args.self.now c.self.view_is c.self.invariant,
      ap (λ (v : JournalView). v.carried_capacity) c.self.view_is,
    ))))

pub returns-clause-ok_carried : goal.returns-clause-ok_carried
returns-clause-ok_carried c =
    done_or_not c.reserve-2.result (λ is. omega (
      arith,
      c.in_ok-reserve.ensures.ok is,
      ap carried_in c.reserve-2.ensures.same.done,
      c.reserve-2.ensures.same_carried_capacity,
      ap length c.reserve.ensures.done,
      c.self.invariant.done,
      carried_in-decoded (take c.self.inside.done c.self.inside.moves.items) c.reserve.new.self.done
          (omega (arith, ap length c.reserve.ensures.done, c.self.invariant.done)),
    ))
