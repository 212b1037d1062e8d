use Rattle.std.proofs.Common.{◌≡◌, string_bytes}
use Rattle.rd_text.specs.Words.{texts}
use Rattle.rd_question.specs.Handlers.{isr_line}
use Rattle.rd_question.proofs.CallLaws.{is_first}
use Rattle.rd_question.proofs.handler.line_of.Given as goal

abbrev pub invariant-loop-word : goal.invariant-loop-word
invariant-loop-word l =
    record {
      line : string_bytes l.line ≡ isr_line (texts l.yielded);
      first : l.first ≡ is_first l.yielded;
    }
