-- What holds in each turn of the loop.
use Rattle.std.proofs.Common.{◌≡◌, ◌+◌, drop}
use Rattle.rd_text.specs.Words.{texts}
use Rattle.rd_timeline.specs.Runs.{moves_of}
use Rattle.rd_origin.specs.Playing.{lines_played}
use Rattle.rd_origin.proofs.playing.play_all.Given as goal

-- the lines that are left give what all do
abbrev pub invariant-loop-index : goal.invariant-loop-index
invariant-loop-index l =
    (l.timeline.app ≡ l.fn.timeline.app) × (l.timeline.limit ≡ l.fn.timeline.limit)
    × (lines_played l.app (moves_of l.fn.timeline) 1 (texts l.lines)
    ≡ lines_played l.app (moves_of l.timeline) (l.index + 1) (texts (drop l.index l.lines)))
