use Rattle.std.proofs.Common.{◌∙◌, ap, length, subst}
use Rattle.rd_app.specs.Application.{code_of}
use Rattle.rd_goal.specs.Reading.{WordsView}
use Rattle.rd_goal.specs.Written.{IsNoneBelow}
use Rattle.rd_goal.proofs.words.GoalReader.instruction.Goals as goal

pub below-requires-clause-limit : goal.below-requires-clause-limit
below-requires-clause-limit c word none =
    let code = c.code-instructions.ensures.code ∙ ap (λ (v : WordsView). code_of v.source.app.runs c.args.task) c.self.view_is in
    (c.args.task, c.requires, subst (λ limit. IsNoneBelow limit word) (ap length code) none)
