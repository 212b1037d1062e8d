-- The goal of after_words that the check left open.
use Rattle.std.proofs.Common.{◌∙◌, ap, drop, sym}
use Rattle.rd_command.specs.Forms.{after_words}
use Rattle.rd_command.proofs.FormLaws.{no_words, nothing_left}
use Rattle.rd_command.proofs.form.after_words.Goals as goal

pub returns-in_default : goal.returns-in_default
returns-in_default c =
    let left = drop c.loop-parameter.parameter-index c.args.parameters.now in
    sym (no_words c.args.parameters.now c.loop-parameter.parameter-index c.loop-parameter-test.true)
    ∙ ap (after_words left) (sym (nothing_left c.loop-parameter.left.now c.in_default.len_below))
    ∙ c.loop-parameter.invariant
