-- What holds in each turn of goal_in's loop.
use Rattle.std.specs.Prelude.{◌≡◌, take}
use Rattle.rd_text.specs.Words.{texts}
use Rattle.rd_question.specs.CommandLine.{words_in}
use Rattle.rd_question.proofs.options.goal_in.Given as goal

-- the words are those of the texts before
abbrev pub invariant-loop-text : goal.invariant-loop-text
invariant-loop-text l = texts l.words.items ≡ words_in (texts (take l.text-index l.said))
