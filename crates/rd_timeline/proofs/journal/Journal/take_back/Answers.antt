-- The goals of `Journal::take_back` that the check left open.
use Rattle.std.proofs.Common.{◌∙◌, ◌-◌, ap, arith, drop, length, sym, take}
use Rattle.std.specs.Prelude.{List}
use Rattle.std.proofs.lemmas.List.{length-take-le}
use Rattle.rd_moves.specs.Carried.{PlainCarried}
use Rattle.rd_timeline.specs.Decoded.{decoded}
use Rattle.rd_timeline.specs.JournalView.{JournalView}
use Rattle.rd_timeline.proofs.JournalLaws.{border_back, done_count}
use Rattle.rd_timeline.proofs.journal.Journal.take_back.Goals as goal

pub carried_in_last-count-requires : goal.carried_in_last-count-requires
carried_in_last-count-requires c =
    omega (
      arith,
      c.requires.within,
      c.self.invariant.records,
      ap (λ (v : JournalView). length v.records) c.self.view_is,
      done_count c.self.inside c.args.self.now c.self.view_is c.self.invariant,
    )

pub take_back-requires : goal.take_back-requires
take_back-requires c =
    let earlier = border_back c.self.inside c.args.self.now c.args.n c.carried_in_last-count.result c.self.view_is c.self.invariant c.carried_in_last-count.ensures in
    omega (arith, earlier.enough)

pub invariant_of-self : goal.invariant_of-self
invariant_of-self c =
    let earlier = border_back c.self.inside c.args.self.now c.args.n c.carried_in_last-count.result c.self.view_is c.self.invariant c.carried_in_last-count.ensures in
    record {
      border = omega (arith, c.self.invariant.border);
      records =
          omega (
            arith,
            ap length c.take_back-2.ensures.records,
            length-take-le (length c.self.inside.logged.records - c.args.n) c.self.inside.logged.records (omega arith),
            c.self.invariant.records,
          );
      done = earlier.done_carried ∙ ap length (sym c.take_back.ensures.done);
      undone = earlier.undone_carried ∙ ap length (sym c.take_back.ensures.undone);
    }

pub returns-clause-done : goal.returns-clause-done
returns-clause-done c =
    let earlier = border_back c.self.inside c.args.self.now c.args.n c.carried_in_last-count.result c.self.view_is c.self.invariant c.carried_in_last-count.ensures in
    ap (λ (es : List PlainCarried). decoded (take (c.self.inside.done - c.args.n) c.self.inside.moves.items) es) c.take_back.ensures.done ∙ earlier.done

pub returns-clause-undone : goal.returns-clause-undone
returns-clause-undone c =
    let earlier = border_back c.self.inside c.args.self.now c.args.n c.carried_in_last-count.result c.self.view_is c.self.invariant c.carried_in_last-count.ensures in
    ap (λ (es : List PlainCarried). decoded (drop (c.self.inside.done - c.args.n) c.self.inside.moves.items) es) c.take_back.ensures.undone ∙ earlier.undone
