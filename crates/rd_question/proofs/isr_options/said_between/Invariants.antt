use Rattle.rd_question.proofs.LineLaws.{IsSaidBefore}
use Rattle.rd_question.proofs.isr_options.said_between.Given as goal

abbrev pub invariant-loop-at : goal.invariant-loop-at
invariant-loop-at l = IsSaidBefore l.texts l.at l.said
