-- The goals of `redo_each` that the check left open.
use Rattle.std.proofs.Common.{◌<◌, arith, length, rules}
use Rattle.rd_timeline.specs.Redoing.{RedoLacksRoom}
use Rattle.rd_timeline.proofs.BackwardLaws.{HasRedone-here, HasRedone-next}
use Rattle.rd_timeline.proofs.timeline.Timeline.redo_each.Goals as goal

pub loop-init : goal.loop-init
loop-init c = HasRedone-here c.args.self.now

pub loop-preserved : goal.loop-preserved
loop-preserved c =
    let made = c.in_ok-redo_one.ensures in
    let less : c.loop.counter < length c.args.self.now.undone = omega (arith, c.loop-test.true, c.requires) in
    HasRedone-next c.args.self.now c.loop.self c.redo_one.new.self c.loop.counter c.loop.invariant less made.stands made.moves

pub returns-in_err-redo_one-clause-short : goal.returns-in_err-redo_one-clause-short
returns-in_err-redo_one-clause-short c =
    let beyond : RedoLacksRoom c.args.self.now c.args.count = record {
      made = c.loop.counter;
      fewer = omega (arith, c.loop-test.true);
      now = c.loop.self;
      has = c.loop.invariant;
      lacks = c.in_err-redo_one.ensures.short;
    } in
    search rules
