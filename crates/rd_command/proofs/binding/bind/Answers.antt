-- The goals of bind that the check left open.
use Rattle.std.specs.Result.{result_ok}
use Rattle.rd_command.proofs.BindingLaws.{bound_there}
use Rattle.rd_command.proofs.ThereLaws.{bound_exactly}
use Rattle.rd_command.proofs.binding.bind.Goals as goal

pub returns-clause-named : goal.returns-clause-named
returns-clause-named c = λ app. λ limits. λ same.
    bound_there app c.args.command.now c.read_bound.result limits
    (rw (same, ← c.keyword.ensures, ← c.operands.ensures, ← c.new-reader.ensures) c.read_bound.ensures)

pub returns-clause-exact : goal.returns-clause-exact
returns-clause-exact c =
    bound_exactly c.args.known.now c.args.command.now (result_ok c.read_bound.result)
    (rw (← c.keyword.ensures, ← c.operands.ensures, ← c.new-reader.ensures) c.read_bound.ensures)
