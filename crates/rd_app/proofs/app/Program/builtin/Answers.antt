-- The goal of builtin that the check left open.
use Rattle.std.proofs.Common.{rules}
use Rattle.rd_app.proofs.BuiltinLaws.{builtin_is_application}
use Rattle.rd_app.proofs.app.Program.builtin.Goals as goal

pub new-requires : goal.new-requires
new-requires c =
    builtin_is_application _ (rw (c.of_queues.ensures, c.in_ok-queues.ensures.items, c.in_ok-tasks.ensures) (search rules))
