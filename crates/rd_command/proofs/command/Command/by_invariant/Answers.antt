-- The goal of by_invariant that the check left open.
use Rattle.std.proofs.Common.{subst}
use Rattle.rd_text.specs.Words.{words_of}
use Rattle.rd_command.specs.Commands.{AreOperands, CommandView}
use Rattle.rd_command.specs.Keywords.{spelling_of}
use Rattle.rd_command.proofs.CommandLaws.{command_takes}
use Rattle.rd_command.proofs.command.Command.by_invariant.Goals as goal

pub returns : goal.returns
returns c =
    let m = c.self.inside in
    let command : CommandView = record { keyword = m.keyword; operands = m.operands.now } in
    subst (λ (command : CommandView). AreOperands (spelling_of command.keyword).operands command.operands) c.self.view_is
    (command_takes (words_of m.line.now) command c.self.invariant).formed
