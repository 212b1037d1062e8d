-- The goals of `Journal::set_aside` that the check left open.
use Rattle.std.proofs.Common.{◌∙◌, ◌<◌, [], ap, arith, drop, inl, inr, length, rules}
use Rattle.std.proofs.lemmas.Bool.{cases_lt, false≢true}
use Rattle.std.proofs.lemmas.List.{length-drop}
use Rattle.rd_timeline.specs.JournalView.{JournalView}
use Rattle.rd_timeline.proofs.JournalLaws.{moves_set_aside, undone_count}
use Rattle.rd_timeline.proofs.DecodedLaws.{carried_among-le}
use Rattle.rd_timeline.proofs.journal.Journal.set_aside.Goals as goal

pub returns-clause-emptied : goal.returns-clause-emptied
returns-clause-emptied c =
    moves_set_aside c.self.inside c.truncate.new.self c.set_aside.new.self c.self.invariant c.truncate.ensures.items c.truncate.ensures.capacity
    c.in_ok-carried.ensures.emptied
    ∙ ap (λ (v : JournalView). record v { undone = [] }) c.self.view_is

pub returns-in_err-moves-clause-short : goal.returns-in_err-moves-clause-short
returns-in_err-moves-clause-short c =
    let old = c.args.self.now in
    let some : 0 < length old.undone = elim (cases_lt 0 (length old.undone)) [
      | inl more ↦ more
      | inr none ↦ absurd (false≢true (c.in_err-moves.ensures.succeeds (omega (
        arith,
        none,
        c.len.ensures,
        undone_count c.self.inside old c.self.view_is,
      ))))
    ] in
    search rules

pub returns-in_err-carried-clause-short : goal.returns-in_err-carried-clause-short
returns-in_err-carried-clause-short c =
    let old = c.args.self.now in
    let rest = drop c.self.inside.done c.self.inside.moves.items in
    let some : 0 < length old.undone =
    omega (
      arith,
      c.in_err-carried.ensures.short,
      c.self.invariant.undone,
      carried_among-le rest,
      length-drop c.self.inside.done c.self.inside.moves.items,
      undone_count c.self.inside old c.self.view_is,
    ) in
    search rules
