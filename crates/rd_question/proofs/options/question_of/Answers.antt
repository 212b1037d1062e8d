-- The goal of question_of that the check left open.
use Rattle.clap.specs.Words.{found_of, rows_of}
use Rattle.rd_question.proofs.WrongLaws.{fault_of_isr}
use Rattle.rd_question.proofs.options.question_of.Goals as goal

pub returns-in_err-handlers_in-clause-fault : goal.returns-in_err-handlers_in-clause-fault
returns-in_err-handlers_in-clause-fault c =
    fault_of_isr (rows_of (found_of c.args.matches.now)) c.from_residual-in_err-handlers_in.result c.in_err-handlers_in.field-0.0
    c.from_residual-in_err-handlers_in.ensures.1 c.in_err-handlers_in.ensures.wrong
