use Rattle.std.proofs.Common.{◌∙◌, ◌+◌, ◌++◌, ℕ, Bor, Global, List, Vec, ap, arith, drop, sym}
use Rattle.std.specs.List.{list_all}
use Rattle.rd_text.specs.Words.{is_solid, texts, words_of}
use Rattle.rd_goal.specs.Reading.{part_of}
use Rattle.rd_goal.specs.Written.{spaced}
use Rattle.rd_goal.proofs.TextLaws.{part_goes_on, part_none, part_solid, words_all, words_kept}
use Rattle.rd_goal.proofs.reading.words_of.Goals as goal
use Rattle.rd_goal.proofs.reading.words_of.Goals.{then-ends_word+in_ok-add_words, else-ends_word}

pub loop-at-preserved : goal.loop-at-preserved
loop-at-preserved c =
    let text = c.args.text.now in
    let begun = c.loop-at.begun in
    let at = c.loop-at.at in
    let old = texts c.loop-at.words.items in
    let held = c.loop-at.invariant in
    elim c.if-ends_word.branch [
      | then-ends_word+in_ok-add_words w ↦
          record {
            order = let is = w.begun-is in omega (arith, is);
            solid = ap (λ n. list_all is_solid (part_of text n (at + 1))) w.begun-is ∙ ap (list_all is_solid) (part_none text (at + 1));
            words =
                ap (λ n. texts c.if-ends_word.words.items ++ words_of (part_of text n (at + 1) ++ spaced (drop (at + 1) text))) w.begun-is
                ∙ words_kept text begun at old (texts c.if-ends_word.words.items) (words_of (spaced text)) c.loop-at-test.true held.solid
                (sym c.ends_word.ensures ∙ w.if-ends_word.true) (ap (λ (words : Vec (Bor (List ℕ)) Global). texts words.items) w.words-is ∙ w.in_ok-add_words.ensures) held.words;
          }
      | else-ends_word w ↦ record {
        order = let is = w.begun-is in let was = held.order in omega (arith, is, was);
        solid = ap (λ n. list_all is_solid (part_of text n (at + 1))) w.begun-is ∙ part_solid text begun at held.order c.loop-at-test.true held.solid (sym c.ends_word.ensures ∙ w.if-ends_word.false);
        words =
            ap (λ n. texts c.if-ends_word.words.items ++ words_of (part_of text n (at + 1) ++ spaced (drop (at + 1) text))) w.begun-is
            ∙ ap (λ (words : Vec (Bor (List ℕ)) Global). texts words.items ++ words_of (part_of text begun (at + 1) ++ spaced (drop (at + 1) text))) w.words-is
            ∙ ap (λ (rest : List ℕ). old ++ words_of rest) (part_goes_on text begun at held.order c.loop-at-test.true (sym c.ends_word.ensures ∙ w.if-ends_word.false))
            ∙ held.words;
      }
    ]

pub returns : goal.returns
returns c =
    words_all c.args.text.now c.loop-at.begun c.loop-at.at (texts c.loop-at.words.items) (texts c.add_word.new.words.items) (words_of (spaced c.args.text.now))
    c.loop-at-test.false c.loop-at.auto.at-end c.loop-at.invariant.solid c.in_ok-add_word.ensures c.loop-at.invariant.words
