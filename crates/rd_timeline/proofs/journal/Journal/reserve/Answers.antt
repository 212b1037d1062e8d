-- The goals of `Journal::reserve` that the check left open.
use Rattle.std.proofs.Common.{ap, arith, length, take}
use Rattle.std.specs.Prelude.{ℕ, List}
use Rattle.std.proofs.lemmas.Bool.{false≢true}
use Rattle.std.proofs.lemmas.List.{length-take-le}
use Rattle.rd_timeline.specs.JournalView.{JournalView}
use Rattle.rd_timeline.proofs.DecodedLaws.{length-decoded}
use Rattle.rd_timeline.proofs.JournalLaws.{done_count}
use Rattle.rd_timeline.proofs.journal.Journal.reserve.Goals as goal

pub returns-in_err-reserve-clause-enough : goal.returns-in_err-reserve-clause-enough
returns-in_err-reserve-clause-enough c more =
    absurd
    (false≢true
    (c.in_err-reserve.ensures.succeeds
    (omega (
      arith,
      more,
      c.len.ensures,
      c.saturating_sub-missing.ensures,
      done_count c.self.inside c.args.self.now c.self.view_is c.self.invariant,
      ap (λ (v : JournalView). v.capacity) c.self.view_is,
      c.self.invariant.border,
    ))))

pub returns-clause-ok : goal.returns-clause-ok
returns-clause-ok c =
    omega (
      arith,
      c.len.ensures,
      c.saturating_sub-missing.ensures,
      c.in_ok-reserve.ensures.ok,
      c.in_ok-reserve.ensures.len,
      length-decoded (take c.self.inside.done c.reserve.new.self.items) c.self.inside.carried.done,
      ap (λ (bytes : List ℕ). length (take c.self.inside.done bytes)) c.in_ok-reserve.ensures.items,
      length-take-le c.self.inside.done c.self.inside.moves.items c.self.invariant.border,
    )
