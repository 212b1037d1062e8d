-- The goals of `Logged::take_back` that the check left open.
use Rattle.std.proofs.Common.{◌≡◌, ◌∙◌, ◌+◌, ◌-◌, ◌<◌, ap, arith, drop, length, subst, sym, take}
use Rattle.rd_packed.specs.Records.{last_of_all}
use Rattle.rd_state.specs.Snapshot.{Snapshot}
use Rattle.rd_state.specs.Undoing.{undone, CanUndo}
use Rattle.rd_timeline.specs.History.{rewound}
use Rattle.rd_timeline.specs.LogView.{bytes_of}
use Rattle.rd_timeline.proofs.LogLaws.{can_one_more, one_back}
use Rattle.rd_timeline.proofs.logged.Logged.take_back.Goals as goal

pub undo_last-requires-clause-fits : goal.undo_last-requires-clause-fits
undo_last-requires-clause-fits c =
    let old = c.args.self.now in
    let m = length old.records - c.loop.counter in
    let less : c.loop.counter < c.args.n = omega (arith, c.loop-test.true) in
    let back = one_back old.target old.records c.loop.self.records m c.loop.invariant.records (omega (arith, less, c.requires.within)) (omega arith) in
    let can = can_one_more old.target old.records (length old.records - c.args.n) (m - 1) (omega (arith, less, c.requires.within)) c.requires.can_rewind in
    subst (λ (s : Snapshot). CanUndo s (last_of_all c.loop.self.records)) (sym c.loop.invariant.target) (back.can can)

pub loop-preserved : goal.loop-preserved
loop-preserved c =
    let old = c.args.self.now in
    let m = length old.records - c.loop.counter in
    let less : c.loop.counter < c.args.n = omega (arith, c.loop-test.true) in
    let back = one_back old.target old.records c.loop.self.records m c.loop.invariant.records (omega (arith, less, c.requires.within)) (omega arith) in
    let next : m - 1 ≡ length old.records - (c.loop.counter + 1) = omega (arith, less, c.requires.within) in record {
      target =
          c.undo_last.ensures.target ∙ ap (λ (s : Snapshot). undone s (last_of_all c.loop.self.records)) c.loop.invariant.target ∙ back.target
          ∙ ap (λ k. rewound old.target (drop k old.records)) next;
      records = c.undo_last.ensures.records ∙ back.first ∙ ap (λ k. take k old.records) next;
      read =
          omega (
            arith,
            c.undo_last.ensures.read,
            c.loop.invariant.read,
            back.bytes,
            ap (λ k. bytes_of (drop k old.records)) next,
          );
      memory = c.undo_last.ensures.memory ∙ c.loop.invariant.memory;
    }
