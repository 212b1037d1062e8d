use Rattle.std.proofs.Common.{◌≡◌, List, None, Some, ℕ, subst, sym}
use Rattle.rd_command.specs.Bindings.{bound_in}
use Rattle.rd_command.specs.Commands.{command_of}
use Rattle.rd_text.specs.Words.{words_of}
use Rattle.rd_question.proofs.AskedLaws.{no_call_named}
use Rattle.rd_question.proofs.planning.call_of.Goals as goal

pub returns-in-Err-clause-wrong : goal.returns-in-Err-clause-wrong
returns-in-Err-clause-wrong c =
    no_call_named c.args.app.now c.args.line.now c.in-Ok.command c.unknown.result
    (subst (λ (text : List ℕ). command_of (words_of text) ≡ Some c.in-Ok.command) c.as_bytes.ensures.value (sym c.in-Ok.ensures.exact))
    (subst (λ known. bound_in known c.in-Ok.command ≡ None) c.requires.known (sym c.in-Err.ensures.bound)) c.unknown.ensures
