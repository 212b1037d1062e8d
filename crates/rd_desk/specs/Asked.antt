-- A command that is kept by its line.
use Rattle.std.specs.Prelude.{ℕ, List, [], unwrap_or}
use Rattle.rd_text.specs.Words.{words_of}
use Rattle.rd_command.specs.declared.keyword.CommandKeyword.TheVariants.{GiveWheel}
use Rattle.rd_command.specs.Commands.{CommandView, command_of}

-- what a line that is no command stands for; none is kept
abbrev pub no_command : CommandView
no_command = record { keyword = GiveWheel; operands = [] }

-- the command that the line is
abbrev pub asked_by : List ℕ → CommandView
asked_by line = unwrap_or (command_of (words_of line)) no_command
