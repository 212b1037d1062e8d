use Rattle.std.proofs.Common.{◌∙◌, refl, sym}
use Rattle.clap.specs.Words.{found_of}
use Rattle.rd_question.proofs.LineLaws.{said_here, said_later, said_of, said_twice, texts_found}
use Rattle.rd_question.proofs.isr_options.said_between.Goals as goal
use Rattle.rd_question.proofs.isr_options.said_between.Goals.{then-from-place+then-place-to+else-is_some, else-from-place}

pub loop-at-preserved : goal.loop-at-preserved
loop-at-preserved c =
    let said = c.unwrap_or-texts.result.now in
    elim c.if-from-place.branch [
      | then-from-place+then-place-to+else-is_some w ↦ said_here said c.loop-at.at _ c.if-from-place.said w.said-is c.loop-at-test.true
      | else-from-place w ↦ said_later said c.loop-at.at c.loop-at.said c.if-from-place.said w.said-is c.loop-at.invariant
    ]

pub returns-then-is_some-clause-twice : goal.returns-then-is_some-clause-twice
returns-then-is_some-clause-twice c =
    let all = texts_found (found_of c.args.matches.now) c.args.belonging.id.now c.get_strs.result _ c.unwrap_or-texts.result refl c.get_strs.ensures c.unwrap_or-texts.ensures in
    (refl, said_twice c.unwrap_or-texts.result.now _ c.loop-at.at c.loop-at.said (sym c.is_some.ensures ∙ c.if-is_some.true) c.loop-at.invariant c.loop-at-test.true all)

pub returns-clause-said : goal.returns-clause-said
returns-clause-said c =
    let all = texts_found (found_of c.args.matches.now) c.args.belonging.id.now c.get_strs.result _ c.unwrap_or-texts.result refl c.get_strs.ensures c.unwrap_or-texts.ensures in
    said_of c.unwrap_or-texts.result.now _ c.loop-at.at c.loop-at.said c.loop-at.invariant all
