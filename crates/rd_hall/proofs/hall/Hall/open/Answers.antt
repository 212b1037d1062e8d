-- The goal of open that the check left open.
use Rattle.std.proofs.Common.{◌∙◌, ap}
use Rattle.rd_command.specs.Bindings.{known_of}
use Rattle.rd_hall.proofs.hall.Hall.open.Goals as goal

pub invariant_of-hall-clause-application : goal.invariant_of-hall-clause-application
invariant_of-hall-clause-application g c = c.in_ok-known.ensures ∙ ap known_of c.requires.app
