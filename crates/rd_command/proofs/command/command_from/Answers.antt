-- The goal of command_from that the check left open.
use Rattle.std.proofs.Common.{◌∙◌}
use Rattle.rd_command.specs.Commands.{command_from}
use Rattle.rd_command.proofs.TableLaws.{command_found}
use Rattle.rd_command.proofs.command.command_from.Goals as goal

pub returns-clause-command : goal.returns-clause-command
unfolding command_from
returns-clause-command c = c.command_by_verb.ensures.command ∙ command_found c.args.first.now c.args.words.now
