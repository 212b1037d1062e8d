-- What holds in each turn of words_of's loop.
use Rattle.std.specs.Prelude.{◌≡◌, ◌≤◌, ◌++◌, drop, true}
use Rattle.std.specs.List.{list_all}
use Rattle.rd_text.specs.Words.{is_solid, texts, words_of}
use Rattle.rd_goal.specs.Reading.{part_of}
use Rattle.rd_goal.specs.Written.{spaced}
use Rattle.rd_goal.proofs.reading.words_of.Given as goal

-- the words of what is gone through, but for the part that was begun, and then those of the rest
abbrev pub invariant-loop-at : goal.invariant-loop-at
invariant-loop-at l = record {
  order : l.begun ≤ l.at;
  solid : list_all is_solid (part_of l.text l.begun l.at) ≡ true;
  words : texts l.words.items ++ words_of (part_of l.text l.begun l.at ++ spaced (drop l.at l.text)) ≡ words_of (spaced l.text);
}
