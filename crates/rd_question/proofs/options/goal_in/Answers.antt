-- The goals of goal_in that the check left open.
use Rattle.std.proofs.Common.{◌∙◌, ◌++◌, List, [], ap, refl, sym, take}
use Rattle.std.specs.Borrow.{Bor}
use Rattle.std.specs.Prelude.{codes}
use Rattle.std.proofs.lemmas.List.{map-append, take_all}
use Rattle.clap.specs.Words.{Text, found_of}
use Rattle.rd_text.specs.Words.{texts, words_of}
use Rattle.rd_goal.specs.Written.{spaced}
use Rattle.rd_question.specs.CommandLine.{words_in}
use Rattle.rd_question.proofs.LineLaws.{texts_found}
use Rattle.rd_question.proofs.TextLaws.{words_in-more}
use Rattle.rd_question.proofs.options.goal_in.Goals as goal

abbrev nothing : Bor Text
nothing = record { ref_ptr = (0, 0); now = [] }

pub loop-text-preserved : goal.loop-text-preserved
loop-text-preserved c =
    let said = c.unwrap_or-said.result.now in
    let at = c.loop-text.text-index in
    let old = c.loop-text.words.items in
    let more = c.as_slice.result.now in
    let words = ap texts c.as_slice.ensures.value ∙ c.in_ok-more.ensures ∙ ap (λ (text : Text). words_of (spaced text)) c.as_bytes.ensures.value in
    ap texts c.in_ok-extend_from_slice.ensures.items
    ∙ map-append (λ (t : Bor Text). t.now) old more
    ∙ ap (λ (those : List Text). those ++ texts more) c.loop-text.invariant
    ∙ ap (λ (those : List Text). words_in (texts (take at said)) ++ those) words
    ∙ sym (words_in-more said at nothing c.loop-text-test.true)

pub returns : goal.returns
returns c =
    let said = c.unwrap_or-said.result.now in
    let all = texts_found (found_of c.args.matches.now) (codes "GOAL") c.get_strs.result _ c.unwrap_or-said.result refl c.get_strs.ensures c.unwrap_or-said.ensures in
    c.loop-text.invariant ∙ ap (λ (those : List (Bor Text)). words_in (texts those)) (take_all c.loop-text.text-index said c.loop-text-test.false) ∙ ap words_in all
