-- The goal of are_formed that the check left open.
use Rattle.std.proofs.Common.{◌∙◌, ap, drop, sym}
use Rattle.rd_script.specs.Spelling.{are_formed}
use Rattle.rd_script.proofs.SpellingLaws.{no_words}
use Rattle.rd_script.proofs.reader.Reader.are_formed.Goals as goal

pub returns-in_default : goal.returns-in_default
returns-in_default c =
    let left = drop c.loop-parameter.parameter-index c.args.parameters.now in
    sym (no_words c.args.self.now.scope c.args.self.now.len c.args.parameters.now c.loop-parameter.parameter-index c.loop-parameter-test.true)
    ∙ ap (are_formed c.args.self.now.scope c.args.self.now.len left) (sym c.in_default.ensures.steps.0) ∙ c.loop-parameter.invariant
