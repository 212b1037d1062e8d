use Rattle.std.proofs.Common.{◌≡◌}
use Rattle.rd_question.specs.IsrWords.{SaysIsr, options_said}
use Rattle.rd_question.proofs.engine_isr.said_of.Given as goal

abbrev pub invariant-loop : goal.invariant-loop
invariant-loop l =
    record {
      says : SaysIsr l.words l.said;
      count : options_said l.said ≡ l.counter;
    }
