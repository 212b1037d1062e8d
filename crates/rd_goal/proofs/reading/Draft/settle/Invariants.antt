-- What holds in each turn of settle's loop.
use Rattle.std.specs.Prelude.{◌≡◌, List}
use Rattle.rd_goal.specs.Reading.{HasFormula}
use Rattle.rd_goal.specs.Written.{Sign}
use Rattle.rd_goal.proofs.reading.Draft.settle.Given as goal

-- the words stay, and what was written stands in the draft
abbrev pub invariant-loop : goal.invariant-loop
invariant-loop l = record {
  words : l.self.words ≡ l.fn.self.words;
  stands : (signs : List Sign) → HasFormula l.strength l.fn.self signs → HasFormula l.strength l.self signs;
}
