-- What holds in each turn of read_goal's loop.
use Rattle.std.specs.Prelude.{◌+◌, ◌≤◌, List, length}
use Rattle.rd_text.specs.Words.{texts}
use Rattle.rd_goal.specs.Reading.{IsAmid, Reads, unread}
use Rattle.rd_goal.specs.Written.{Sign}
use Rattle.rd_goal.proofs.reading.read_goal.Given as goal

-- what is read stands in the draft, and in each turn a word is read
abbrev pub invariant-loop : goal.invariant-loop
invariant-loop l = record {
  signs : List Sign;
  reads : Reads signs (unread l.app (texts l.fn.words)) l.draft.words;
  amid : IsAmid l.is_wanted l.draft signs;
  less : length l.draft.words.ahead + l.counter ≤ length l.fn.words;
}
