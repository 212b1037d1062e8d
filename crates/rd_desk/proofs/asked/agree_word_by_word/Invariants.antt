-- What holds in each turn of agree_word_by_word' loop.
use Rattle.std.proofs.Common.{◌≡◌, ◌↔◌}
use Rattle.rd_text.specs.Words.{words_of}
use Rattle.rd_desk.proofs.asked.agree_word_by_word.Given as goal

-- the words that are left decide
abbrev pub invariant-loop-word : goal.invariant-loop-word
invariant-loop-word l =
    (goal.iterator-loop-word).can_next l.words × (goal.iterator-loop-word).is_finite l.words
    × ((words_of l.line ≡ words_of l.other) ↔ (l.words ≡ l.others))
