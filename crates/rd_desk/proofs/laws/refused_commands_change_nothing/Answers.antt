-- The goal of refused_commands_change_nothing that the check left open.
use Rattle.rd_desk.proofs.Counting.{refused_commands_change_nothing}
use Rattle.rd_desk.proofs.laws.refused_commands_change_nothing.Goals as goal

pub returns : goal.returns
returns c = refused_commands_change_nothing
