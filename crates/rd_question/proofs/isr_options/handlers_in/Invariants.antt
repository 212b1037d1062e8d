use Rattle.std.proofs.Common.{take}
use Rattle.rd_question.specs.Asked.{AreEach}
use Rattle.rd_question.specs.Handlers.{HasCalls}
use Rattle.rd_question.proofs.isr_options.handlers_in.Given as goal

abbrev pub invariant-loop-at : goal.invariant-loop-at
invariant-loop-at l = AreEach (λ calls handler. HasCalls calls.now handler) (take l.at l.texts) l.handlers.items
