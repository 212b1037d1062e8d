-- The goal of without_question that the check left open.
use Rattle.std.proofs.Common.{◌∙◌, inr, refl}
use Rattle.rd_question.proofs.options.without_question.Goals as goal

pub returns-clause-fault : goal.returns-clause-fault
returns-clause-fault c = inr ((c.in_ok-text.text, refl), (λ e. c.in_default.not-OutOfMemory (c.kind.ensures ∙ e)), (λ e. c.in_default.not-DisplayHelp (c.kind.ensures ∙ e)))
