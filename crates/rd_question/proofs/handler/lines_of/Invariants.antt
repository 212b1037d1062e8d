use Rattle.std.specs.Prelude.{string_bytes}
use Rattle.rd_question.specs.Asked.{AreEach}
use Rattle.rd_question.specs.Handlers.{IsLineOf}
use Rattle.rd_question.proofs.handler.lines_of.Given as goal

abbrev pub invariant-loop-call : goal.invariant-loop-call
invariant-loop-call l = AreEach (λ call line. IsLineOf call.now (string_bytes line)) l.yielded l.lines.items
