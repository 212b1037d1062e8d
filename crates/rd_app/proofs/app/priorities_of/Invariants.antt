-- What holds in each turn of priorities_of's loop.
use Rattle.std.proofs.Common.{◌≡◌, map, take}
use Rattle.rd_app.proofs.app.priorities_of.Given as goal

abbrev pub invariant-loop-script : goal.invariant-loop-script
invariant-loop-script l = l.priorities.items ≡ map (λ script. script.priority) (take l.script-index l.scripts)
