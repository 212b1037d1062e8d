use Rattle.std.proofs.Common.{◌≡◌, length}
use Rattle.std.specs.Prelude.{min}
use Rattle.rd_text.specs.Words.{texts}
use Rattle.rd_question.specs.Handlers.{behind_isr}
use Rattle.rd_question.proofs.CallLaws.{is_first}
use Rattle.rd_question.proofs.engine_isr.is_whole.Given as goal

abbrev pub invariant-loop-word : goal.invariant-loop-word
invariant-loop-word l =
    record {
      count : l.count ≡ min (length (behind_isr (texts l.yielded))) 18446744073709551615;
      first : l.first ≡ is_first l.yielded;
    }
