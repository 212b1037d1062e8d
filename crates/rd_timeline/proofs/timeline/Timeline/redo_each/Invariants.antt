-- So many moves were made again.
use Rattle.rd_timeline.specs.Redoing.{HasRedone}
use Rattle.rd_timeline.proofs.timeline.Timeline.redo_each.Given as goal

abbrev pub invariant-loop : goal.invariant-loop
invariant-loop l = HasRedone l.fn.self l.counter l.self
