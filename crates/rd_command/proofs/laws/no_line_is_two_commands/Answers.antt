-- The goals of no_line_is_two_commands that the check left open.
use Rattle.rd_command.proofs.CommandLaws.{no_line_is_two_commands}
use Rattle.rd_command.proofs.laws.no_line_is_two_commands.Goals as goal

pub returns : goal.returns
returns c = no_line_is_two_commands
